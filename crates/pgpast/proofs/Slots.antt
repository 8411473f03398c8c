-- The records in a file's slots, and those that were noted one behind the other.
use Rattle.std.proofs.Common.{◌≡◌, ◌<◌, ◌≤◌, ◌+◌, ◌∙◌, ℕ, List, [], ◌∷◌, ◌++◌, Bool, true, false}
use Rattle.std.proofs.Common.{Option, None, Some, inl, inr, refl, sym, ap, subst, arith}
use Rattle.std.proofs.Common.{length, if◌then◌else◌}
use Rattle.std.specs.Option.{IfSome}
use Rattle.std.specs.Prelude.{nat_le}
use Rattle.std.proofs.lemmas.Bool.{cases_lt}
use Rattle.std.proofs.lemmas.List.{length-append}
use Rattle.std.proofs.lemmas.Bool.Decides.{nat_tests}
use Rattle.pgpast.specs.declared.record.Record.{Record}
use Rattle.pgpast.specs.Records.{IsFit}
use Rattle.pgpast.specs.Loaded.{AreDown, AreUpTo, AreWhole, EndsUpTo, IsAt, IsFirstOf, IsLast}
use Rattle.pgpast.specs.Loaded.{IsChain, IsNone, IsWhole, MayFollow, later, slot_below, slot_under}
use Rattle.pgpast.specs.Loaded.{slots_of}
use Rattle.pgpast.proofs.Chains.{chain_push}
use Rattle.pgpast.proofs.Fields.{same_record}

-- a slot has one record at most
one_at : (bytes : List ℕ) (slot : ℕ) (r s : Record) → IsFit r → IsFit s → IsAt bytes slot r → IsAt bytes slot s → r ≡ s
one_at bytes slot r s fit fits at other = same_record r s fit fits (sym at.1 ∙ other.1)

-- ---- the record that ends last

above : (a b : ℕ) → nat_le a b ≡ false → b ≤ a
above a b e = grind (arith, nat_tests)

below : (a b : ℕ) → nat_le a b ≡ true → a ≤ b
below a b e = grind (arith, nat_tests)

ends_later : (newest : Option (ℕ × Record)) (slot : ℕ) (r s : Record) → EndsUpTo newest s → EndsUpTo (later newest slot r) s
ends_later None slot r s ends = absurd ends
ends_later (Some it) slot r s ends = go (nat_le r.commit.end it.1.commit.end) refl
  where
    go : (b : Bool) → nat_le r.commit.end it.1.commit.end ≡ b → EndsUpTo (if b then Some it else Some (slot, r)) s
    go true e = ends
    go false e = omega (arith, ends, above r.commit.end it.1.commit.end e)

own_later : (newest : Option (ℕ × Record)) (slot : ℕ) (r : Record) → EndsUpTo (later newest slot r) r
own_later None slot r = omega arith
own_later (Some it) slot r = go (nat_le r.commit.end it.1.commit.end) refl
  where
    go : (b : Bool) → nat_le r.commit.end it.1.commit.end ≡ b → EndsUpTo (if b then Some it else Some (slot, r)) r
    go true e = below r.commit.end it.1.commit.end e
    go false e = omega arith

pub last_later : (bytes : List ℕ) (slot : ℕ) (newest : Option (ℕ × Record)) (r : Record) → IsLast bytes slot newest → IsFit r
    → IsAt bytes slot r → IsLast bytes (slot + 1) (later newest slot r)
last_later bytes slot newest r last fit at place s lt fits there = elim (cases_lt place slot) [
  | inl before ↦ ends_later newest slot r s (last place s before fits there)
  | inr behind ↦
      let e : place ≡ slot = omega (arith, lt, behind) in
      let same : r ≡ s = one_at bytes slot r s fit fits at (subst (λ k. IsAt bytes k s) e there) in
      subst (EndsUpTo (later newest slot r)) same (own_later newest slot r)
]

pub last_none : (bytes : List ℕ) (slot : ℕ) (newest : Option (ℕ × Record)) → IsLast bytes slot newest
    → ((r : Record) → IsAt bytes slot r → ⊥) → IsLast bytes (slot + 1) newest
last_none bytes slot newest last none place s lt fits there = elim (cases_lt place slot) [
  | inl before ↦ last place s before fits there
  | inr behind ↦
      let e : place ≡ slot = omega (arith, lt, behind) in absurd (none s (subst (λ k. IsAt bytes k s) e there))
]

pub some_later : (P : ℕ × Record → Type 0) (newest : Option (ℕ × Record)) (slot : ℕ) (r : Record) → IfSome newest P → P (slot, r)
    → IfSome (later newest slot r) P
some_later P None slot r old new = new
some_later P (Some it) slot r old new = go (nat_le r.commit.end it.1.commit.end)
  where
    go : (b : Bool) → IfSome (if b then Some it else Some (slot, r)) P
    go true = old
    go false = new

-- ---- those that were noted one behind the other

pub none_goes : (bytes : List ℕ) (slot : ℕ) (rs : List Record) (r : Record) → IsFit r → IsAt bytes slot r → (MayFollow rs r → ⊥)
    → IsNone bytes slot rs
none_goes bytes slot rs r fit at not s fits there may = not (subst (MayFollow rs) (one_at bytes slot s r fits fit there at) may)

pub first_push : (rs : List Record) (f r : Record) → IsFirstOf rs f → IsFirstOf (rs ++ r ∷ []) f
first_push [] f r first = absurd first
first_push (s ∷ rs) f r first = first

pub down_push : (bytes : List ℕ) (slot : ℕ) (rs : List Record) (r : Record) → AreDown bytes slot rs
    → IsAt bytes (slot_below (slots_of bytes) slot rs) r → AreDown bytes slot (rs ++ r ∷ [])
down_push bytes slot [] r down at = (at, tt)
down_push bytes slot (s ∷ rs) r down at = (down.0, down_push bytes (slot_under (slots_of bytes) slot) rs r down.1 at)

pub below_push : (count slot : ℕ) (rs : List Record) (r : Record)
    → slot_below count slot (rs ++ r ∷ []) ≡ slot_under count (slot_below count slot rs)
below_push count slot [] r = refl
below_push count slot (s ∷ rs) r = below_push count (slot_under count slot) rs r

pub are_up_to : (bytes : List ℕ) (rs : List Record) (slot : ℕ) (f : Record) → IsFirstOf rs f
    → IsLast bytes (slots_of bytes) (Some (slot, f)) → AreUpTo bytes rs
are_up_to bytes [] slot f first last place s lt fits there = absurd first
are_up_to bytes (r ∷ rs) slot f first last place s lt fits there =
    subst (λ (x : Record). s.commit.end ≤ x.commit.end) (sym first) (last place s lt fits there)

pub are_whole : (bytes : List ℕ) (rs : List Record) (slot : ℕ) (f : Record) → IsFirstOf rs f → slot < slots_of bytes
    → IsWhole bytes slot rs → AreWhole bytes rs
are_whole bytes [] slot f first lt whole = absurd first
are_whole bytes (r ∷ rs) slot f first lt whole = (slot, lt, whole)

-- ---- with each slot that is looked at

abbrev pub IsThere : List ℕ → ℕ × Record → Type 0
IsThere bytes it = (it.0 < slots_of bytes) × IsAt bytes it.0 it.1

module _ (bytes : List ℕ) (slot : ℕ) (newest new : Option (ℕ × Record)) (some : IfSome newest (IsThere bytes))
    (last : IsLast bytes slot newest) where
  pub stepped : slot < slots_of bytes → (r : Record) → IsFit r → IsAt bytes slot r → new ≡ later newest slot r
      → IfSome new (IsThere bytes) × IsLast bytes (slot + 1) new
  stepped lt r fit at e =
      subst (λ x. IfSome x (IsThere bytes) × IsLast bytes (slot + 1) x) (sym e)
      (some_later (IsThere bytes) newest slot r some (lt, at), last_later bytes slot newest r last fit at)

  pub passed : ((r : Record) → IsAt bytes slot r → ⊥) → new ≡ newest → IfSome new (IsThere bytes) × IsLast bytes (slot + 1) new
  passed none e =
      subst (λ x. IfSome x (IsThere bytes) × IsLast bytes (slot + 1) x) (sym e) (some, last_none bytes slot newest last none)

-- these are the records from the newest one down to a slot
abbrev pub AreFrom : List ℕ → ℕ → Record → List Record → ℕ → Type 0
AreFrom bytes newest first rs slot =
    IsChain bytes rs × IsFirstOf rs first × AreDown bytes newest rs
    × (slot_below (slots_of bytes) newest rs ≡ slot_under (slots_of bytes) slot) × (slot < slots_of bytes)
    × (length rs ≤ slots_of bytes)

module _ (bytes : List ℕ) (newest : ℕ) (first : Record) where
  pub begun_from : (rs : List Record) → rs ≡ first ∷ [] → newest < slots_of bytes → IsAt bytes newest first
      → AreFrom bytes newest first rs newest
  begun_from rs e lt at =
      subst (λ xs. AreFrom bytes newest first xs newest) (sym e)
      (record { there = ((newest, at), tt); linked = tt }, refl, (at, tt), refl, lt, omega (arith, lt))

  pub grown_from : (rs new : List Record) (slot next : ℕ) (r : Record) → AreFrom bytes newest first rs slot
      → next ≡ slot_under (slots_of bytes) slot → next < slots_of bytes → length rs < slots_of bytes → IsAt bytes next r
      → MayFollow rs r → new ≡ rs ++ r ∷ [] → AreFrom bytes newest first new next
  grown_from rs new slot next r i e lt few at may is =
      subst (λ xs. AreFrom bytes newest first xs next) (sym is) (
        chain_push bytes rs next r i.0 at may,
        first_push rs first r i.1,
        down_push bytes newest rs r i.2 (subst (λ k. IsAt bytes k r) (e ∙ sym i.3) at),
        below_push (slots_of bytes) newest rs r ∙ ap (slot_under (slots_of bytes)) (i.3 ∙ sym e),
        lt,
        omega (arith, few, length-append rs (r ∷ [])),
      )
