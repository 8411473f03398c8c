-- What is read of a database that was opened.
use Rattle.std.specs.Prelude.{◌≡◌, ◌<◌, ◌^◌, ℕ, ℤ, pos, List, [], ◌∷◌, None, Some, T}
use Rattle.std.specs.List.{AllZip}
use Rattle.std.specs.Int.{w64, to_be_bytes}
use Rattle.std.specs.Ordering.{nat_cmp}
use Rattle.std.specs.FinMap.{get, find, is_sorted}
use Rattle.sqlite.specs.declared.types.Value.TheVariants.{Int, Text, Blob}
use Rattle.sqlite.specs.Order.{Row, column}
use Rattle.sqlite.specs.Tree.{IsAscending}
use Rattle.pgtables.specs.declared.opened.FoundPosition.{FoundPosition}
use Rattle.pgtables.specs.declared.opened.FoundPosition.TheVariants.{Missing, At, Malformed}
use Rattle.pgtables.specs.Kept.{Copies, Definition, Tables, pos_row}

-- the definitions by rising OID: an entry for each that stands there, and no other
pub record ListsDefinitions (t : Tables) (found : List (ℕ × Definition)) : Type 0 where
  pub rises : T (is_sorted nat_cmp found)
  pub each : (oid : ℕ) → find nat_cmp oid found ≡ get t.defined oid

-- each row stands by the OID and the identity of a relation, and is accepted there
pub record AreAccepted {C : Type 0} (accepts : C → ℕ → List ℕ → Copies → Type 0) (check : C) (t : Tables) : Type 0 where
  pub each : (oid : ℕ) (ident : List ℕ) (kept : Copies) → get t.rows (oid ∷ ident) ≡ Some kept → accepts check oid ident kept
  pub keyed : get t.rows [] ≡ None

-- the rows of `pos` are those of this position
abbrev pub IsFoundPosition : List Row → FoundPosition → Type 0
IsFoundPosition rows Missing = rows ≡ []
IsFoundPosition rows (At position) = (rows ≡ pos_row (to_be_bytes w64 position) ∷ []) × (position < 2 ^ 64)
IsFoundPosition rows Malformed = Unit {0}

-- what is read of a row of `rel`
pub record IsDefinitionRead (shown : Row) (oid : ℕ) (d : Definition) : Type 0 where
  pub oid_is : column shown 0 ≡ Int (pos oid)
  pub namespace_is : column shown 1 ≡ Text d.namespace
  pub name_is : column shown 2 ≡ Text d.name
  pub letter_is : column shown 3 ≡ Int (pos d.letter)
  pub columns_are : column shown 4 ≡ Blob d.columns

-- what is read of a row of `held`, which was accepted
pub record IsRowAccepted {C : Type 0} (accepts : C → ℕ → List ℕ → Copies → Type 0) (check : C) (shown : Row) (id : ℤ) : Type 0 where
  pub oid : ℕ
  pub ident : List ℕ
  pub kept : Copies
  pub id_is : column shown 0 ≡ Int id
  pub oid_is : column shown 1 ≡ Int (pos oid)
  pub ident_is : column shown 2 ≡ Blob ident
  pub body_is : column shown 3 ≡ Blob kept.body
  pub copies_are : column shown 4 ≡ Int (pos kept.copies)
  pub accepted : accepts check oid ident kept

-- the definitions that are read of rows, whose OIDs rise
pub record AreDefinitionsRead (shown : List Row) (all : List (ℕ × Definition)) : Type 0 where
  pub each : AllZip (λ r e. IsDefinitionRead r e.0 e.1) shown all
  pub rises : IsAscending (λ a b. a.0 < b.0) all

-- what is read of a row of `pos`
abbrev pub IsPlaceRead : Row → FoundPosition → Type 0
IsPlaceRead shown Missing = ⊥
IsPlaceRead shown (At position) = (column shown 0 ≡ Int (pos 0)) × (column shown 1 ≡ Blob (to_be_bytes w64 position)) × (position < 2 ^ 64)
IsPlaceRead shown Malformed = Unit {0}

-- what is read of all rows of `pos`
abbrev pub ArePlacesRead : List Row → FoundPosition → Type 0
ArePlacesRead shown Missing = shown ≡ []
ArePlacesRead shown (At position) = (row : Row) × (shown ≡ row ∷ []) × IsPlaceRead row (At position)
ArePlacesRead shown Malformed = Unit {0}
