-- How the rows of a store are printed as they are read, and what is printed where that stops.
use Rattle.std.specs.Prelude.{◌≡◌, ◌++◌, ◌⊎◌, ⊤, ℕ, List, [], ◌∷◌, Option, None, Some, Result, Ok}
use Rattle.std.specs.Prelude.{Err}
use Rattle.pgapply.specs.declared.rows.DumpRow.{DumpRow}
use Rattle.pgsub_core.specs.declared.fault.Fault.{Fault}
use Rattle.pgsub_core.specs.Machine.Faults.{IsReadFault}
use Rattle.pgsub_cli.specs.declared.fault.Ending.{Ending}
use Rattle.pgsub_cli.specs.declared.fault.Ending.TheVariants.{Done, Differs}
use Rattle.pgsub_cli.specs.declared.fault.RunFault.{RunFault}
use Rattle.pgsub_cli.specs.declared.fault.RunFault.TheVariants as run
use Rattle.pgsub_cli.specs.DumpText.{dump_of}

-- the bytes of pieces, of which the newest comes first
abbrev pub joined : List (List ℕ) → List ℕ
joined [] = []
joined (piece ∷ pieces) = joined pieces ++ piece

module _ {W : Type 0} (takes : W → List ℕ → W → Type 0) where
  -- these pieces were written one after the other, the newest of which comes first
  abbrev pub AreWritten : W → List (List ℕ) → W → Type 0
  AreWritten old [] new = new ≡ old
  AreWritten old (piece ∷ pieces) new = (mid : W) × AreWritten old pieces mid × takes mid piece new

  -- these bytes were written, some at a time
  abbrev pub Written : W → List ℕ → W → Type 0
  Written old bytes new = (pieces : List (List ℕ)) × (joined pieces ≡ bytes) × AreWritten old pieces new

  -- some front of these bytes was written
  abbrev pub WrittenFront : W → List ℕ → W → Type 0
  WrittenFront old bytes new = (front : List ℕ) × (rest : List ℕ) × (bytes ≡ front ++ rest) × Written old front new

-- Printing ends well, by such a fault of what is printed, or by a write that failed.
abbrev pub EndsPrinting : (Fault → Type 0) → Result Ending RunFault → Type 0
EndsPrinting lost (Ok Done) = ⊤
EndsPrinting lost (Ok Differs) = ⊥
EndsPrinting lost (Err (run.Stream f)) = lost f
EndsPrinting lost (Err run.CannotWrite) = ⊤
EndsPrinting lost (Err _) = ⊥

module _ {W : Type 0} (takes : W → List ℕ → W → Type 0) (failed : W → Type 0) where
  -- These lines are printed; where that stops, some front of them, up to a write that failed.
  abbrev pub PrintsLines : List ℕ → W → W → Result Ending RunFault → Type 0
  PrintsLines lines old new (Ok Done) = Written takes old lines new
  PrintsLines lines old new (Ok Differs) = ⊥
  PrintsLines lines old new (Err (run.Stream f)) = IsReadFault f × WrittenFront takes old lines new
  PrintsLines lines old new (Err run.CannotWrite) = (mid : W) × WrittenFront takes old lines mid × failed mid
  PrintsLines lines old new (Err _) = ⊥

  -- the rows and the position, a line each
  abbrev pub Dumps : List DumpRow → ℕ → W → W → Result Ending RunFault → Type 0
  Dumps rows position old new ended = PrintsLines (dump_of rows position) old new ended

  -- A run ends, and the lines of what it leaves are printed, whatever stopped it. `leaves` says of
  -- them, where this stopped it, that they are so. Where reading them stops, memory runs out or a
  -- write fails, nothing is printed or some front of them, as `left` says.
  abbrev pub PrintsLeft : (Option Fault → (List ℕ → Type 0) → Type 0) → ((List ℕ → Type 0) → Type 0) → W → W → Result Ending RunFault
      → Type 0
  PrintsLeft leaves left old new (Ok Done) = leaves None (λ lines. Written takes old lines new)
  PrintsLeft leaves left old new (Ok Differs) = ⊥
  PrintsLeft leaves left old new (Err (run.Stream f)) =
      leaves (Some f) (λ lines. Written takes old lines new)
      ⊎ (IsReadFault f × ((new ≡ old) ⊎ left (λ lines. WrittenFront takes old lines new)))
  PrintsLeft leaves left old new (Err run.CannotWrite) = left (λ lines. (mid : W) × WrittenFront takes old lines mid × failed mid)
  PrintsLeft leaves left old new (Err _) = ⊥

  -- by which lines it leaves where this stopped it
  abbrev pub PrintsHeld : (Option Fault → List ℕ → Type 0) → W → W → Result Ending RunFault → Type 0
  PrintsHeld prints old new ended =
      PrintsLeft (λ stopped said. (lines : List ℕ) × prints stopped lines × said lines)
      (λ said. (stopped : Option Fault) × (lines : List ℕ) × prints stopped lines × said lines) old new ended
