-- Trees of which a database was just opened, and the store in them.
use Rattle.std.specs.Prelude.{◌≡◌, ℕ}
use Rattle.sqlite.specs.Held as connection
use Rattle.sqlite.specs.Held.{Held}
use Rattle.sqlite.specs.Recovery.{Image}
use Rattle.sqlite.specs.State.{HasCleanDisk}
use Rattle.sqlite.specs.Steps.{IsFresh}
use Rattle.sqlite.specs.Store.{Ghosts}
use Rattle.sqlite.specs.Tree.{Trees}
use Rattle.sqlite.specs.View.{IsClean}
use Rattle.pgopening.specs.Found.{AreOpened}
use Rattle.pgapply.specs.Stored.{Stored}
use Rattle.pgencoded.specs.DatabaseValue.{AreOf}
use Rattle.pgstore.specs.Reopened.{HoldsContent, StaysAsFound}
use Rattle.pgstore.specs.StoreValue.{IsHonest, StoreValue}

-- the trees hold some tables, at this position
abbrev pub HaveValue : Trees → ℕ → Type 0
HaveValue db position = (v : Stored) × AreOf v db × (v.position ≡ position)

module _ {S : Type 0} (g : Ghosts S) where
  -- nothing was written since the trees were opened
  abbrev pub IsJustOpened : S → Type 0
  IsJustOpened s = IsClean (g.view s) → IsFresh (g.view s)

  -- The store holds what is stored in the files, whatever their content is, of which these trees
  -- were opened.
  abbrev pub HoldsOpened : S → StoreValue S → Type 0
  HoldsOpened opened s = IsHonest g s
      → IsClean (g.view opened) × ((content : Image) → AreOpened content (g.view opened) → HoldsContent g content s)

  -- The database in those files stays as it was found.
  abbrev pub StaysOpened : S → Held S → Type 0
  StaysOpened opened conn =
      HasCleanDisk (connection.state g conn)
      → IsClean (g.view opened) × ((content : Image) → AreOpened content (g.view opened) → StaysAsFound g content conn)
