-- How many transactions are open: as many as the entries are, whose keys differ.
use Rattle.std.proofs.Common.{◌≡◌, ◌+◌, ◌<◌, ℕ, true, false, List, [], ◌∷◌, None, Some, cond}
use Rattle.std.proofs.Common.{length, refl, ap, ◌∙◌, arith}
use Rattle.std.specs.Prelude.{is_some, nat_eq, nat_lt}
use Rattle.std.specs.Ordering.{nat_cmp}
use Rattle.std.specs.Cmp.{nat_cmp_total}
use Rattle.std.specs.List.{AllByRecursion, IsDistinct}
use Rattle.std.specs.Map.{lookup, keys_of}
use Rattle.std.specs.FinMap as map
use Rattle.std.specs.FinMap.{len-insert}
use Rattle.std.proofs.lemmas.Map.Keys.{IsDistinct-head, IsDistinct-tail}
use Rattle.std.proofs.lemmas.Bool.Decides.{nat_tests}
use Rattle.pgspool.specs.Labels.{LabelledItem}
use Rattle.pgspool.specs.Spooled.{held_by}
use Rattle.pgspool.proofs.HeldBy.{contains_key-held_by}

module _ {T : Type 0} (listed : T → List LabelledItem) where
  absent : (xid : ℕ) (entries : List (ℕ × T)) → AllByRecursion (λ y. nat_eq xid y ≡ false) (keys_of entries)
      → lookup (nat_eq xid) entries ≡ None
  absent xid [] apart = refl
  absent xid (e ∷ es) apart = ap (λ b. cond b (Some e.1) (lookup (nat_eq xid) es)) apart.0 ∙ absent xid es apart.1

  pub len-held_by : (entries : List (ℕ × T)) → IsDistinct nat_eq (keys_of entries)
      → map.len (held_by listed entries) ≡ length entries
  len-held_by [] distinct = map.len-empty nat_cmp (List LabelledItem)
  len-held_by (e ∷ es) distinct =
      let rest = held_by listed es in
      let first = absent e.0 es (IsDistinct-head nat_eq e.0 (keys_of es) distinct) in
      let is_new : map.contains_key rest e.0 ≡ false = contains_key-held_by listed es e.0 ∙ ap is_some first in
      let others : map.len rest ≡ length es = len-held_by es (IsDistinct-tail nat_eq e.0 (keys_of es) distinct) in
      let more : map.len (map.insert rest e.0 (listed e.1)) ≡ map.len rest + 1 =
      len-insert nat_cmp_total rest e.0 (listed e.1) ∙ ap (λ b. cond b (map.len rest) (map.len rest + 1)) is_new in
      omega arith

-- whether there are fewer than so many
pub within_most : (count most open_ones : ℕ) → open_ones ≡ count
    → (nat_lt count most ≡ true → open_ones < most) × (open_ones < most → nat_lt count most ≡ true)
within_most count most open_ones same = (λ is. grind (arith, nat_tests), λ is. grind (arith, nat_tests))
