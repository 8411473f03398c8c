-- The rows that a feed tells are whole: only what was sent for a change that found no row may lack
-- cells.
use Rattle.std.specs.Prelude.{◌≡◌, List, false, ⊤}
use Rattle.std.specs.List.{AllByRecursion}
use Rattle.pgrel.specs.Identity.{has_unchanged}
use Rattle.pgapply.specs.Value.{Tables}
use Rattle.pgledger.specs.declared.image.Image.{Image}
use Rattle.pgledger.specs.declared.image.Image.TheVariants.{Inserted, Updated, Deleted, Truncated}
use Rattle.pgledger.specs.declared.image.Image.TheVariants.{Missed}
use Rattle.pgledger.specs.Images.{Line, LinesLead}

abbrev pub TellsWhole : Image → Type 0
TellsWhole (Inserted row) = has_unchanged row ≡ false
TellsWhole (Updated old new) = (has_unchanged old ≡ false) × (has_unchanged new ≡ false)
TellsWhole (Deleted row) = has_unchanged row ≡ false
TellsWhole Truncated = ⊤
TellsWhole (Missed old new) = ⊤

-- of lines that lead from some rows to others, as those of a commit do
abbrev pub LinesTellWholeRows : Type 0
LinesTellWholeRows = (tables next : Tables) (ls : List Line) → LinesLead tables ls next
    → AllByRecursion (λ (line : Line). TellsWhole line.image) ls
