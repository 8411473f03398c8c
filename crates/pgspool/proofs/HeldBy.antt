-- Open transactions whose items are seen as lists, by what looks them up.
use Rattle.std.proofs.Common.{◌≡◌, ℕ, Bool, true, false, List, [], ◌∷◌, Option, None, Some, cond}
use Rattle.std.proofs.Common.{refl, sym, ap, ◌∙◌}
use Rattle.std.specs.Prelude.{is_some, option_map, nat_eq, map as mapped}
use Rattle.std.specs.FinMap as map
use Rattle.std.specs.Map.{lookup}
use Rattle.pgspool.specs.Labels.{LabelledItem}
use Rattle.pgspool.specs.Spooled.{held_by}
use Rattle.pgspool.proofs.OpenEntries.{Open, spooled_of-put, spooled_of-taken}
use Rattle.pgspool.proofs.OpenEntries.{contains_key-spooled_of}

module _ {T : Type 0} (listed : T → List LabelledItem) where
  abbrev pub listed_entries : List (ℕ × T) → Open
  listed_entries entries = mapped (λ e. (e.0, listed e.1)) entries

  lookup-listed : (entries : List (ℕ × T)) (xid : ℕ)
      → lookup (nat_eq xid) (listed_entries entries) ≡ option_map listed (lookup (nat_eq xid) entries)
  lookup-listed [] xid = refl
  lookup-listed (e ∷ es) xid =
      elim (nat_eq xid e.0) as
      (λ b. cond b (Some (listed e.1)) (lookup (nat_eq xid) (listed_entries es))
      ≡ option_map listed (cond b (Some e.1) (lookup (nat_eq xid) es))) [
        | true ↦ refl
        | false ↦ lookup-listed es xid
      ]

  choice : (b : Bool) (x y : Option T) → option_map listed (cond b x y) ≡ cond b (option_map listed x) (option_map listed y)
  choice true x y = refl
  choice false x y = refl

  pub listed_there : (entries : List (ℕ × T)) (xid : ℕ) (items : T) → Some items ≡ lookup (nat_eq xid) entries
      → Some (listed items) ≡ lookup (nat_eq xid) (listed_entries entries)
  listed_there entries xid items found = ap (option_map listed) found ∙ sym (lookup-listed entries xid)

  pub listed_absent : (entries : List (ℕ × T)) (xid : ℕ) → None ≡ lookup (nat_eq xid) entries
      → None ≡ lookup (nat_eq xid) (listed_entries entries)
  listed_absent entries xid none = ap (option_map listed) none ∙ sym (lookup-listed entries xid)

  some_listed : (o : Option T) → is_some (option_map listed o) ≡ is_some o
  some_listed None = refl
  some_listed (Some x) = refl

  pub contains_key-held_by : (entries : List (ℕ × T)) (xid : ℕ)
      → map.contains_key (held_by listed entries) xid ≡ is_some (lookup (nat_eq xid) entries)
  contains_key-held_by entries xid =
      contains_key-spooled_of (listed_entries entries) xid ∙ ap is_some (lookup-listed entries xid)
      ∙ some_listed (lookup (nat_eq xid) entries)

  -- the map after one entry is put or taken out, by its look-ups
  pub held_by-put : (old new : List (ℕ × T)) (xid : ℕ) (items : T)
      → ((q : ℕ) → lookup (nat_eq q) new ≡ cond (nat_eq xid q) (Some items) (lookup (nat_eq q) old))
      → held_by listed new ≡ map.insert (held_by listed old) xid (listed items)
  held_by-put old new xid items looks = spooled_of-put (listed_entries old) (listed_entries new) xid (listed items) (λ q.
      lookup-listed new q ∙ ap (option_map listed) (looks q) ∙ choice (nat_eq xid q) (Some items) (lookup (nat_eq q) old)
      ∙ ap (cond (nat_eq xid q) (Some (listed items))) (sym (lookup-listed old q)))

  pub held_by-taken : (old new : List (ℕ × T)) (xid : ℕ)
      → ((q : ℕ) → lookup (nat_eq q) new ≡ cond (nat_eq xid q) None (lookup (nat_eq q) old))
      → held_by listed new ≡ map.remove (held_by listed old) xid
  held_by-taken old new xid looks = spooled_of-taken (listed_entries old) (listed_entries new) xid (λ q.
      lookup-listed new q ∙ ap (option_map listed) (looks q) ∙ choice (nat_eq xid q) None (lookup (nat_eq q) old)
      ∙ ap (cond (nat_eq xid q) None) (sym (lookup-listed old q)))
