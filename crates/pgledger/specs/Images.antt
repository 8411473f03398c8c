-- What changes do to single rows: each row whole, as it was before and as it is after. PostgreSQL
-- documentation, Logical Replication Message Formats, Insert, Update, Delete, Truncate; ALTER
-- TABLE, REPLICA IDENTITY.
use Rattle.std.specs.Prelude.{◌≡◌, ◌||◌, ◌==◌, List, [], ◌∷◌, length, false, ⊤, Option, Some, None}
use Rattle.std.specs.Prelude.{Result, Ok, Err, if◌then◌else◌}
use Rattle.std.specs.FinMap as map
use Rattle.pgtuple.specs.declared.cell.Cell.{Cell}
use Rattle.pglogical.specs.declared.message.RelationDef.{RelationDef}
use Rattle.pglogical.specs.declared.message.OldKind.{OldKind}
use Rattle.pgrel.specs.declared.fault.RelFault.{RelFault}
use Rattle.pgrel.specs.Identity.{has_unchanged, resolved, same_shape, searched_identity}
use Rattle.pgapply.specs.declared.op.Op.{Op}
use Rattle.pgapply.specs.declared.op.Op.TheVariants.{Insert, Update, Delete, Truncate}
use Rattle.pgapply.specs.declared.fault.StoreFault.{StoreFault}
use Rattle.pgapply.specs.Value.{Row, Rows, Table, Tables, AreTables, identity_key}
use Rattle.pgapply.specs.Apply.{Change, carry_rows, found_rows, with_row, without_row, row_at}
use Rattle.pgapply.specs.Apply.{apply, fold_changes}
use Rattle.pgledger.specs.declared.image.Image.{Image}
use Rattle.pgledger.specs.declared.image.Image.TheVariants.{Inserted, Updated, Deleted, Truncated}
use Rattle.pgledger.specs.declared.image.Image.TheVariants.{Missed}

-- the cells that weren't sent are those of the row that was found
abbrev pub updated_image : Option (OldKind × List Cell) → List Cell → Option Row → Image
updated_image prior cells None = Missed prior (Some cells)
updated_image prior cells (Some row) = Updated row.cells (resolved cells row.cells)

abbrev pub deleted_image : OldKind → List Cell → Option Row → Image
deleted_image kind cells None = Missed (Some (kind, cells)) None
deleted_image kind cells (Some row) = Deleted row.cells

-- the row with the identity that is searched; a search that is refused finds none
abbrev pub searched_row : Result (List Cell) RelFault → Rows → Option Row
searched_row (Ok searched) rows = row_at searched rows
searched_row (Err fault) rows = None

-- of a change to these rows
unfoldable pub image_of : RelationDef → Op → Rows → Image
image_of def (Insert row) rows = Inserted row
image_of def (Update prior row) rows = updated_image prior row (searched_row (searched_identity def prior (Some row)) rows)
image_of def (Delete kind row) rows = deleted_image kind row (searched_row (searched_identity def (Some (kind, row)) None) rows)
image_of def Truncate rows = Truncated

abbrev pub rows_or_none : Result Rows StoreFault → Rows
rows_or_none (Ok rows) = rows
rows_or_none (Err fault) = map.empty

-- over the rows that the change finds; rows of another shape are carried over first
abbrev pub change_image : Tables → Change → Image
change_image tables change =
    image_of change.definition change.op (rows_or_none (found_rows (map.get tables change.definition.oid) change.definition change.op))

-- of the changes after one that is made
abbrev pub images_after : Result Tables StoreFault → (Tables → List Image) → List Image
images_after (Ok next) rest = rest next
images_after (Err fault) rest = []

-- one for each change of a commit, each over what the ones before it leave
unfoldable pub images : Tables → List Change → List Image
images tables [] = []
images tables (change ∷ changes) = change_image tables change ∷ images_after (apply tables change) (λ next. images next changes)

-- ---- what they are good for: who has the rows before a commit gets those after it, by whole rows
-- alone

-- a cell for each column, all of them sent
abbrev pub IsWhole : RelationDef → List Cell → Type 0
IsWhole def cells = (length cells ≡ length def.columns) × (has_unchanged cells ≡ false)

-- a row goes, of several copies one; it is found by its own cells
abbrev pub Goes : RelationDef → List Cell → Rows → Rows → Type 0
Goes def cells rows next =
    (row : Row) × IsWhole def cells × (map.get rows (identity_key def cells) ≡ Some row) × (row.cells ≡ cells)
    × (next ≡ without_row (identity_key def cells) row rows)

-- a row comes
abbrev pub Comes : RelationDef → List Cell → Rows → Rows → Type 0
Comes def cells rows next = IsWhole def cells × (with_row def cells rows ≡ Ok next)

-- what an image says of the rows of its relation
abbrev pub Leads : RelationDef → Image → Rows → Rows → Type 0
Leads def (Inserted row) rows next = Comes def row rows next
Leads def (Updated old new) rows next = (mid : Rows) × Goes def old rows mid × Comes def new mid next
Leads def (Deleted row) rows next = Goes def row rows next
Leads def Truncated rows next = next ≡ map.empty
Leads def (Missed old new) rows next = next ≡ rows

-- a definition, and what a change did to one row under it
pub record Line : Type 0 where
  pub definition : RelationDef
  pub image : Image

-- each change's definition with its image
abbrev pub lines : List Change → List Image → List Line
lines [] more = []
lines (change ∷ changes) [] = []
lines (change ∷ changes) (image ∷ more) = record { definition = change.definition; image = image } ∷ lines changes more

-- the rows of a relation under a definition: those of another shape are carried over
abbrev pub rows_under : Option Table → RelationDef → Result Rows StoreFault
rows_under None def = Ok map.empty
rows_under (Some table) def =
    if same_shape table.definition def || map.len table.rows == 0 then Ok table.rows
    else carry_rows table.definition def (map.entries table.rows) map.empty

-- the rows that an image speaks of; a truncation doesn't ask
abbrev pub Finds : Option Table → RelationDef → Image → Rows → Type 0
Finds there def (Inserted row) rows = rows_under there def ≡ Ok rows
Finds there def (Updated old new) rows = rows_under there def ≡ Ok rows
Finds there def (Deleted row) rows = rows_under there def ≡ Ok rows
Finds there def Truncated rows = ⊤
Finds there def (Missed old new) rows = rows_under there def ≡ Ok rows

pub record LineLeads (tables : Tables) (line : Line) (next : Tables) : Type 0 where
  pub found : Rows
  pub after : Rows
  pub finds : Finds (map.get tables line.definition.oid) line.definition line.image found
  pub leads : Leads line.definition line.image found after
  pub is : next ≡ map.insert tables line.definition.oid (record { definition = line.definition; rows = after })

abbrev pub LinesLead : Tables → List Line → Tables → Type 0
LinesLead tables [] next = next ≡ tables
LinesLead tables (line ∷ more) next = (mid : Tables) × LineLeads tables line mid × LinesLead mid more next

-- the lines of a commit lead from the rows before it to those after it
abbrev pub LinesOfCommitsLead : Type 0
LinesOfCommitsLead =
    (changes : List Change) (tables next : Tables) → AreTables tables → fold_changes tables changes ≡ Ok next
    → LinesLead tables (lines changes (images tables changes)) next
