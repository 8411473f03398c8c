-- What the definitions of identity and shape give, said in other words.
-- PostgreSQL documentation, ALTER TABLE, REPLICA IDENTITY.
use Rattle.std.specs.Prelude.{◌≡◌, ◌≤◌, ◌↔◌, List, length, count_by, false, IsTrue}
use Rattle.pgtuple.specs.declared.cell.Cell.{Cell}
use Rattle.pglogical.specs.declared.message.RelationDef.{RelationDef}
use Rattle.pglogical.specs.declared.message.Column.{Column}
use Rattle.pgrel.specs.Identity.{keyed, IsKeyed, identity, identity_full, shape, same_shape}
use Rattle.pgrel.specs.Identity.{has_unchanged, resolved}
use Rattle.pgrel.specs.Carried.{carried, placed_cells, places}

-- the test for one shape tells whether the shapes are equal
abbrev pub SameShapeMeansEqualShapes : Type 0
SameShapeMeansEqualShapes = (a b : RelationDef) → IsTrue (same_shape a b) ↔ (shape a ≡ shape b)

-- two definitions of one shape are keyed alike, and know each row alike
pub record ShapeGivesIdentity (a b : RelationDef) : Type 0 where
  pub same_keyed : keyed a ≡ keyed b
  pub same_identity : (row : List Cell) → identity a row ≡ identity b row

abbrev pub SameShapeMeansSameIdentity : Type 0
SameShapeMeansSameIdentity = (a b : RelationDef) → shape a ≡ shape b → ShapeGivesIdentity a b

-- a table is keyed exactly if its letter is d or i and some column is part of the key
abbrev pub KeyedMeansKeyColumns : Type 0
KeyedMeansKeyColumns = (def : RelationDef) → IsTrue (keyed def) ↔ IsKeyed def

-- a table with replica identity FULL is a bag, whatever its flags
abbrev pub FullIsNeverKeyed : Type 0
FullIsNeverKeyed = (def : RelationDef) → def.letter ≡ identity_full → keyed def ≡ false

-- In a bag the identity is the row. In a keyed table it has one cell for each key column.
abbrev pub IdentityOfBagIsRow : Type 0
IdentityOfBagIsRow = (def : RelationDef) (row : List Cell) → keyed def ≡ false → identity def row ≡ row

abbrev pub KeyHasCellForEachKeyColumn : Type 0
KeyHasCellForEachKeyColumn = (def : RelationDef) (row : List Cell) → IsTrue (keyed def) → length row ≡ length def.columns
    → length (identity def row) ≡ count_by (λ (c : Column). c.key) def.columns

-- an identity has no more cells than its row
abbrev pub IdentityIsNoWiderThanRow : Type 0
IdentityIsNoWiderThanRow = (def : RelationDef) (row : List Cell) → length (identity def row) ≤ length row

-- A new row keeps its width when its missing cells are filled in. If the old row has as many cells
-- and all of them, so does it then.
abbrev pub ResolvedKeepsWidth : Type 0
ResolvedKeepsWidth = (new old : List Cell) → length (resolved new old) ≡ length new

abbrev pub ResolvedHasAllCells : Type 0
ResolvedHasAllCells = (new old : List Cell) → length new ≡ length old → has_unchanged old ≡ false → has_unchanged (resolved new old) ≡ false

-- a row all of whose cells were sent stays as it is
abbrev pub SentRowStays : Type 0
SentRowStays = (new old : List Cell) → has_unchanged new ≡ false → resolved new old ≡ new

-- a carried row has the new definition's width, and has all its cells if it had them before
abbrev pub CarriedHasNewWidth : Type 0
CarriedHasNewWidth = (old new : RelationDef) (cells : List Cell) → length (carried old new cells) ≡ length new.columns

abbrev pub CarriedHasAllCells : Type 0
CarriedHasAllCells = (old new : RelationDef) (cells : List Cell) → has_unchanged cells ≡ false
    → has_unchanged (carried old new cells) ≡ false

-- a row whose cells are taken by index is the row by name
abbrev pub CarriedByPlaces : Type 0
CarriedByPlaces = (old new : RelationDef) (cells : List Cell) → placed_cells cells (places old.columns new.columns) ≡ carried old new cells
