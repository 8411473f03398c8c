-- Open transactions as a map, by what looks them up.
use Rattle.std.proofs.Common.{◌≡◌, ◌+◌, ◌≤◌, ℕ, Bool, true, false, List, [], ◌∷◌, None, Some, cond}
use Rattle.std.proofs.Common.{refl, sym, ap, ◌∙◌, arith}
use Rattle.std.specs.Prelude.{is_some, unwrap_or, nat_eq, if◌then◌else◌}
use Rattle.std.specs.Ordering.{nat_cmp, eq_by_cmp}
use Rattle.std.specs.Cmp.{nat_cmp_total}
use Rattle.std.specs.FinMap as map
use Rattle.std.specs.FinMap.{find, get-from_entries, get-insert, get-remove}
use Rattle.std.specs.Map.{lookup}
use Rattle.std.proofs.lemmas.Bool.Decides.{nat_tests}
use Rattle.pgspool.specs.Labels.{LabelledItem, HeldMap, cut, held_of, costs, all_costs}
use Rattle.pgspool.specs.Spooled.{spooled_of, IsCounted}
use Rattle.pgspool.proofs.HeldMaps.{same_held, absent, all_costs_change, all_costs_shrink}
use Rattle.pgspool.proofs.HeldMaps.{all_costs-empty}

abbrev pub Open : Type 0
Open = List (ℕ × List LabelledItem)

same_test : (x y : ℕ) (b : Bool) → nat_eq x y ≡ b → eq_by_cmp nat_cmp x y ≡ b
same_test x y true e = grind (arith, nat_tests)
same_test x y false e = grind (arith, nat_tests)

turned : (x y : ℕ) (b : Bool) → nat_eq x y ≡ b → nat_eq y x ≡ b
turned x y true e = grind (arith, nat_tests)
turned x y false e = grind (arith, nat_tests)

find-lookup : (xid : ℕ) (open_ones : Open) → find nat_cmp xid open_ones ≡ lookup (nat_eq xid) open_ones
find-lookup xid [] = refl
find-lookup xid (e ∷ es) = (λ i. cond (same_test xid e.0 (nat_eq xid e.0) refl i) (Some e.1) (find-lookup xid es i))

pub get-spooled_of : (open_ones : Open) (xid : ℕ) → map.get (spooled_of open_ones) xid ≡ lookup (nat_eq xid) open_ones
get-spooled_of open_ones xid = get-from_entries nat_cmp_total open_ones xid ∙ find-lookup xid open_ones

pub held_of-spooled_of : (open_ones : Open) (xid : ℕ) → held_of (spooled_of open_ones) xid ≡ unwrap_or (lookup (nat_eq xid) open_ones) []
held_of-spooled_of open_ones xid = ap (λ o. unwrap_or o []) (get-spooled_of open_ones xid)

pub contains_key-spooled_of : (open_ones : Open) (xid : ℕ)
    → map.contains_key (spooled_of open_ones) xid ≡ is_some (lookup (nat_eq xid) open_ones)
contains_key-spooled_of open_ones xid = ap is_some (get-spooled_of open_ones xid)

-- the map after one entry is put or taken out, by its look-ups
pub spooled_of-put : (old new : Open) (xid : ℕ) (items : List LabelledItem)
    → ((q : ℕ) → lookup (nat_eq q) new ≡ cond (nat_eq xid q) (Some items) (lookup (nat_eq q) old))
    → spooled_of new ≡ map.insert (spooled_of old) xid items
spooled_of-put old new xid items looks = same_held (spooled_of new) (map.insert (spooled_of old) xid items) (λ q.
    get-spooled_of new q ∙ looks q ∙ sym (get-insert nat_cmp_total (spooled_of old) xid items q
    ∙ (λ i. cond (same_test q xid (nat_eq xid q) (turned xid q (nat_eq xid q) refl) i) (Some items) (get-spooled_of old q i))))

pub spooled_of-taken : (old new : Open) (xid : ℕ) → ((q : ℕ) → lookup (nat_eq q) new ≡ cond (nat_eq xid q) None (lookup (nat_eq q) old))
    → spooled_of new ≡ map.remove (spooled_of old) xid
spooled_of-taken old new xid looks = same_held (spooled_of new) (map.remove (spooled_of old) xid) (λ q.
    get-spooled_of new q ∙ looks q ∙ sym (get-remove nat_cmp_total (spooled_of old) xid q
    ∙ (λ i. cond (same_test q xid (nat_eq xid q) (turned xid q (nat_eq xid q) refl) i) None (get-spooled_of old q i))))

-- the counted bytes after each of these
pub IsCounted-empty : (most : ℕ) → IsCounted map.empty 0 most
IsCounted-empty most = record { counted = sym all_costs-empty; within = omega arith }

pub IsCounted-insert : (held : HeldMap) (bytes most xid : ℕ) (items : List LabelledItem) (now : ℕ) → IsCounted held bytes most
    → now + costs (held_of held xid) ≡ bytes + costs items → now ≤ most → IsCounted (map.insert held xid items) now most
IsCounted-insert held bytes most xid items now is change fits =
    let counted : bytes ≡ all_costs held = is.counted in
    let changed : all_costs (map.insert held xid items) + costs (held_of held xid) ≡ all_costs held + costs items =
    all_costs_change held xid items in
    record { counted = omega arith; within = fits }

pub IsCounted-remove : (held : HeldMap) (bytes most xid now : ℕ) → IsCounted held bytes most
    → now + costs (held_of held xid) ≡ bytes → IsCounted (map.remove held xid) now most
IsCounted-remove held bytes most xid now is change =
    let counted : bytes ≡ all_costs held = is.counted in
    let within : bytes ≤ most = is.within in
    let changed : all_costs (map.remove held xid) + costs (held_of held xid) ≡ all_costs held = all_costs_shrink held xid in
    record { counted = omega arith; within = omega arith }

-- one transaction's items cost no more than all
pub one_within_all : (held : HeldMap) (bytes most xid : ℕ) → IsCounted held bytes most → costs (held_of held xid) ≤ bytes
one_within_all held bytes most xid is =
    let counted : bytes ≡ all_costs held = is.counted in
    let changed : all_costs (map.remove held xid) + costs (held_of held xid) ≡ all_costs held = all_costs_shrink held xid in
    omega arith

-- what a look-up says of the transaction
pub held_there : (open_ones : Open) (xid : ℕ) (items : List LabelledItem) → Some items ≡ lookup (nat_eq xid) open_ones
    → held_of (spooled_of open_ones) xid ≡ items
held_there open_ones xid items found = held_of-spooled_of open_ones xid ∙ ap (λ o. unwrap_or o []) (sym found)

pub open_there : (open_ones : Open) (xid : ℕ) (items : List LabelledItem) → Some items ≡ lookup (nat_eq xid) open_ones
    → map.contains_key (spooled_of open_ones) xid ≡ true
open_there open_ones xid items found = contains_key-spooled_of open_ones xid ∙ ap is_some (sym found)

pub held_absent : (open_ones : Open) (xid : ℕ) → None ≡ lookup (nat_eq xid) open_ones → held_of (spooled_of open_ones) xid ≡ []
held_absent open_ones xid none = held_of-spooled_of open_ones xid ∙ ap (λ o. unwrap_or o []) (sym none)

pub closed_absent : (open_ones : Open) (xid : ℕ) → None ≡ lookup (nat_eq xid) open_ones
    → map.contains_key (spooled_of open_ones) xid ≡ false
closed_absent open_ones xid none = contains_key-spooled_of open_ones xid ∙ ap is_some (sym none)

abbrev cut_held : HeldMap → ℕ → ℕ → HeldMap
cut_held held xid label = if map.contains_key held xid then map.insert held xid (cut label (held_of held xid)) else held

pub cut_there : (open_ones : Open) (xid label : ℕ) (items : List LabelledItem) → Some items ≡ lookup (nat_eq xid) open_ones
    → map.insert (spooled_of open_ones) xid (cut label items) ≡ cut_held (spooled_of open_ones) xid label
cut_there open_ones xid label items found =
    ap (λ l. map.insert (spooled_of open_ones) xid (cut label l)) (sym (held_there open_ones xid items found))
    ∙ ap (λ b. cond b (map.insert (spooled_of open_ones) xid (cut label (held_of (spooled_of open_ones) xid))) (spooled_of open_ones))
    (sym (open_there open_ones xid items found))

pub cut_absent : (open_ones : Open) (xid label : ℕ) → None ≡ lookup (nat_eq xid) open_ones
    → spooled_of open_ones ≡ cut_held (spooled_of open_ones) xid label
cut_absent open_ones xid label none =
    ap (λ b. cond b (map.insert (spooled_of open_ones) xid (cut label (held_of (spooled_of open_ones) xid))) (spooled_of open_ones))
    (sym (closed_absent open_ones xid none))

pub held_closed : (held : HeldMap) (xid : ℕ) → map.contains_key held xid ≡ false → held_of held xid ≡ []
held_closed held xid closed = ap (λ o. unwrap_or o []) (absent (map.get held xid) closed)

-- to put back what is there changes nothing
pub insert_back : (open_ones : Open) (xid : ℕ) (items : List LabelledItem) → Some items ≡ lookup (nat_eq xid) open_ones
    → map.insert (spooled_of open_ones) xid items ≡ spooled_of open_ones
insert_back open_ones xid items found =
    sym (spooled_of-put open_ones open_ones xid items (λ q. back (nat_eq xid q) q (λ e. one_key q (turned xid q true e))))
  where
    back : (b : Bool) (q : ℕ) → (b ≡ true → q ≡ xid) → lookup (nat_eq q) open_ones ≡ cond b (Some items) (lookup (nat_eq q) open_ones)
    back true q is = ap (λ x. lookup (nat_eq x) open_ones) (is refl) ∙ sym found
    back false q is = refl

    one_key : (q : ℕ) → nat_eq q xid ≡ true → q ≡ xid
    one_key q e = grind (arith, nat_tests)
