-- Part of the statement.
-- The changes of what differs alone, by which a copy's rows become those of its server.
-- PostgreSQL documentation, ALTER TABLE, REPLICA IDENTITY; Logical Replication, Publication;
-- Logical Replication Message Formats, Insert, Update, Delete.
use Rattle.std.specs.Prelude.{◌≡◌, ◌≢◌, ◌⊎◌, ◌≤◌, ◌-◌, ℕ, suc, zero, List, [], ◌∷◌, ◌++◌, Option}
use Rattle.std.specs.Prelude.{Some, None, true, false, if◌then◌else◌}
use Rattle.std.specs.FinMap as finite
use Rattle.std.specs.List.{AllByRecursion, flat_map}
use Rattle.pgtuple.specs.declared.cell.Cell.{Cell}
use Rattle.pgtuple.specs.declared.cell.Cell.TheVariants.{Null}
use Rattle.pgtuple.specs.Limits.{IsTuple}
use Rattle.pglogical.specs.declared.message.Column.{Column}
use Rattle.pglogical.specs.declared.message.RelationDef.{RelationDef}
use Rattle.pglogical.specs.declared.message.OldKind.TheVariants.{Key, Full}
use Rattle.pglogical.specs.declared.message.Item.{Item}
use Rattle.pglogical.specs.declared.message.Item.TheVariants.{Insert, Update, Delete}
use Rattle.pgrel.specs.Identity.{keyed, same_shape, identity_full}
use Rattle.pgapply.specs.Value.{Row, Rows, Table, Tables}
use Rattle.pgapply.specs.CarriedCopies.{copies_at}

-- a row's key: the other cells are null
abbrev pub key_alone : List Column → List Cell → List Cell
key_alone [] cells = []
key_alone (column ∷ columns) [] = []
key_alone (column ∷ columns) (cell ∷ cells) =
    (if column.key then cell else Null) ∷ key_alone columns cells

-- What differs at an identity, the server's row first. With a key at most one row stands on each
-- side: it comes, is replaced by the one of the same key, or goes by the key.
abbrev pub keyed_changes : RelationDef → Option Row → Option Row → List Item
keyed_changes def None None = []
keyed_changes def (Some theirs) None = Insert def.oid theirs.cells ∷ []
keyed_changes def (Some theirs) (Some ours) = Update def.oid None theirs.cells ∷ []
keyed_changes def None (Some ours) = Delete def.oid Key (key_alone def.columns ours.cells) ∷ []

abbrev pub times : ℕ → Item → List Item
times zero i = []
times (suc n) i = i ∷ times n i

-- Without a key as many copies of the row come or go as one side has more than the other.
abbrev pub bag_changes : RelationDef → Option Row → Option Row → List Item
bag_changes def None None = []
bag_changes def (Some theirs) None = times theirs.copies (Insert def.oid theirs.cells)
bag_changes def (Some theirs) (Some ours) =
    times (theirs.copies - ours.copies) (Insert def.oid theirs.cells)
    ++ times (ours.copies - theirs.copies) (Delete def.oid Full ours.cells)
bag_changes def None (Some ours) = times ours.copies (Delete def.oid Full ours.cells)

-- the changes at an identity, by the rows of the server and those of the copy
abbrev pub changes_at : RelationDef → Rows → Rows → List ℕ → List Item
changes_at def theirs ours place =
    if keyed def
    then keyed_changes def (finite.get theirs place) (finite.get ours place)
    else bag_changes def (finite.get theirs place) (finite.get ours place)

-- a table's part of a repair: its Relation message, and its changes
pub record Mended : Type 0 where
  pub definition : RelationDef
  pub changes : List Item

abbrev pub IsNotAmong : List ℕ → List (List ℕ) → Type 0
IsNotAmong place places = AllByRecursion (λ (other : List ℕ). other ≢ place) places

abbrev pub AreDistinct : List (List ℕ) → Type 0
AreDistinct [] = Unit {0}
AreDistinct (place ∷ places) = IsNotAmong place places × AreDistinct places

-- the copy's rows of a table under this definition: none where it doesn't have the table
abbrev pub AreFound : RelationDef → Rows → Option Table → Type 0
AreFound def rows None = rows ≡ finite.empty
AreFound def rows (Some table) =
    (same_shape table.definition def ≡ true) × (rows ≡ table.rows)

-- A change tells which row goes: by a key, or by the whole row under REPLICA IDENTITY FULL. No row
-- goes from any other table.
abbrev pub TellsRows : RelationDef → Rows → Rows → Type 0
TellsRows def theirs ours =
    (keyed def ≡ true)
    ⊎ ((def.letter ≡ identity_full)
    ⊎ ((place : List ℕ) → copies_at ours place ≤ copies_at theirs place))

-- Rows that stand at an identity on both sides are tuples that the protocol can hold, so that they
-- are the same where the whole row is the identity.
abbrev pub AreTuples : Rows → Rows → Type 0
AreTuples theirs ours =
    (place : List ℕ) (row old : Row) → finite.get theirs place ≡ Some row
    → finite.get ours place ≡ Some old → IsTuple row.cells × IsTuple old.cells

-- These are a table's changes, where `copy` is what the copy has at the point, and `server` what
-- the server has there. `places` are the identities at which they differ, in any order.
pub record IsMended (copy server : Tables) (t : Mended) : Type 0 where
  pub ours : Rows
  pub theirs : Rows
  pub found : AreFound t.definition ours (finite.get copy t.definition.oid)
  pub wanted :
      finite.get server t.definition.oid
      ≡ Some (record { definition = t.definition; rows = theirs })
  pub places : List (List ℕ)
  pub once : AreDistinct places
  pub others :
      (place : List ℕ) → IsNotAmong place places
      → finite.get ours place ≡ finite.get theirs place
  pub changes : t.changes ≡ flat_map (changes_at t.definition theirs ours) places
  pub some : t.changes ≢ []
  pub tells : TellsRows t.definition theirs ours
  pub tuples : keyed t.definition ≡ false → AreTuples theirs ours
