-- What changes do to single rows, as it is found before each change is made.
use Rattle.std.specs.Prelude.{◌≡◌, ◌++◌, ℕ, Bool, List, [], ◌∷◌, Option, Some, None, Ok}
use Rattle.std.specs.Prelude.{if◌then◌else◌}
use Rattle.sqlite.specs.Store.{Ghosts}
use Rattle.pgtuple.specs.declared.cell.Cell.{Cell}
use Rattle.pgtuple.specs.Cells.{tuple_spelling}
use Rattle.pglogical.specs.declared.message.RelationDef.{RelationDef}
use Rattle.pglogical.specs.declared.message.OldKind.{OldKind}
use Rattle.pgrel.specs.Identity.{searched_identity}
use Rattle.pgtables.specs.Kept as stored
use Rattle.pgrows.specs.Rows.{tables_of}
use Rattle.pgapply.specs.declared.op.Op.{Op}
use Rattle.pgapply.specs.declared.fault.StoreFault.{StoreFault}
use Rattle.pgapply.specs.Value.{Row, Rows, Tables}
use Rattle.pgapply.specs.Works.{change_values}
use Rattle.pgapply.specs.declared.commit.About.{About}
use Rattle.pgapply.specs.Apply.{Change, in_store, row_at}
use Rattle.pgapply.specs.Stored.{IsFault}
use Rattle.pgledger.specs.declared.image.Image.{Image}
use Rattle.pgledger.specs.Images.{image_of, images}
use Rattle.pgledger.specs.declared.heard.Heard.{Heard}
use Rattle.pgledger.specs.Entries.{Entry, entry_of}
use Rattle.pgledger.specs.Ledgers.{Appends}
use Rattle.pgencoded.specs.Spelled.{IsChanging, IsStored}
use Rattle.pgencoded.specs.Acts.{AreGiven, GoesOpen, IsFound}

-- images are told where they are wanted
abbrev pub begun_telling : Bool → Option (List Image)
begun_telling is_wanted = if is_wanted then Some [] else None

abbrev pub told_more : Option (List Image) → List Image → Option (List Image)
told_more None more = None
told_more (Some images) more = Some (images ++ more)

-- the row that has the identity that is searched, as it is stored
abbrev pub IsRowAt : Rows → List Cell → Option stored.Copies → Type 0
IsRowAt rows searched None = row_at searched rows ≡ None
IsRowAt rows searched (Some there) = (was : Row) × IsFound rows (tuple_spelling searched) there was

module _ {S : Type 0} (g : Ghosts S) where
  -- a transaction goes on, and nothing changes
  abbrev pub StaysOpen : S → S → Type 0
  StaysOpen old new = GoesOpen g old new × (tables_of g new ≡ tables_of g old)

  module _ (old : S) (def : RelationDef) where
    abbrev pub FindsRow : Option (OldKind × List Cell) → Option (List Cell) → Option stored.Copies → Type 0
    FindsRow prior row there =
        (searched : List Cell) × (searched_identity def prior row ≡ Ok searched)
        × ((v : Tables) (rows : Rows) → IsChanging v def rows (tables_of g old) → IsRowAt rows searched there)

    abbrev pub RefusesToFind : Option (OldKind × List Cell) → Option (List Cell) → StoreFault → Type 0
    RefusesToFind prior row fault = (v : Tables) (rows : Rows) → IsChanging v def rows (tables_of g old)
        → IsFault fault (in_store (searched_identity def prior row))

    -- whatever the rows are, this is the image of the change to them
    abbrev pub IsImage : Op → Image → Type 0
    IsImage op image = (v : Tables) (rows : Rows) → IsChanging v def rows (tables_of g old) → image ≡ image_of def op rows

    -- it is told
    abbrev pub Tells : Op → Option (List Image) → Option (List Image) → Type 0
    Tells op before after = (v : Tables) (rows : Rows) → IsChanging v def rows (tables_of g old)
        → after ≡ told_more before (image_of def op rows ∷ [])

-- the images of several changes are told, from what was given on
abbrev pub TellsAll : {S : Type 0} → Ghosts S → S → List RelationDef → (ℕ → Option ℕ) → List (ℕ × Op) → Option (List Image)
    → Option (List Image) → Type 0
TellsAll g old definitions given entries before after =
    (v : Tables) → IsStored v (tables_of g old) → AreGiven definitions given v
    → after ≡ told_more before (images v (change_values definitions entries))

-- those of the changes of a commit
abbrev pub TellsFrom : stored.Tables → List RelationDef → List (ℕ × Op) → Option (List Image) → Option (List Image) → Type 0
TellsFrom t definitions changes before after = (v : Tables) → IsStored v t
    → after ≡ told_more before (images v (change_values definitions changes))

-- the ledger has the commit with these messages, and with its images over these tables
abbrev pub AppendsFrom : {L : Type 0} → (L → List Entry → Type 0) → stored.Tables → ℕ → Option About → List Heard → List Change → L → L
    → Type 0
AppendsFrom keeps t end about messages changes old new = (v : Tables) → IsStored v t
    → Appends keeps (entry_of end about messages changes (images v changes)) old new
