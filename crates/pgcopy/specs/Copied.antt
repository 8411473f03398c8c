-- What a reader of COPY text holds, and what a call does to it.
use Rattle.std.specs.Prelude.{◌≡◌, ◌≢◌, ◌≤◌, ℕ, List, [], ◌∷◌, ◌++◌, Bool, false, length, take}
use Rattle.std.specs.Prelude.{Option, Some, None, Result, Ok, Err, if◌then◌else◌}
use Rattle.std.specs.List.{AllByRecursion}
use Rattle.pgtuple.specs.declared.cell.Cell.{Cell}
use Rattle.pgtuple.specs.Cells.{tuple_spelling}
use Rattle.pgtuple.specs.Limits.{IsWireTuple}
use Rattle.pgcopy.specs.declared.fault.CopyFault.{CopyFault}
use Rattle.pgcopy.specs.declared.fault.CopyFault.TheVariants.{Line, Memory}
use Rattle.pgcopy.specs.declared.fault.Reason.{Reason}
use Rattle.pgcopy.specs.declared.fed.Fed.{Fed}
use Rattle.pgcopy.specs.declared.fed.Fed.TheVariants.{Waits, Row, Ended}
use Rattle.pgcopy.specs.Reading.{Format, Reading, End, Marked, Fails, newline, ends}
use Rattle.pgcopy.specs.Reading.{with_rows, reading}

-- The number of the next line, what has come of it, whether the end-of-data marker has come, and
-- what was wrong with a line.
pub record Copied : Type 0 where
  pub format : Format
  pub number : ℕ
  pub held : List ℕ
  pub marked : Bool
  pub fault : Option Reason

abbrev pub fresh : Format → Copied
fresh format = record { format = format; number = 1; held = []; marked = false; fault = None }

abbrev pub reading_with : Option Reason → Copied → List ℕ → Reading
reading_with (Some reason) state bytes = ends (Fails state.number reason)
reading_with None state bytes = if state.marked then ends (Marked bytes) else reading state.format state.number state.held bytes

-- what these bytes say behind all that has come
unfoldable pub reading_behind : Copied → List ℕ → Reading
reading_behind state bytes = reading_with state.fault state bytes

abbrev pub NoNewline : List ℕ → Type 0
NoNewline bytes = AllByRecursion (λ byte. byte ≢ newline) bytes

-- less than a line, and not more than one may have
pub record IsPartLine (max : ℕ) (line : List ℕ) : Type 0 where
  pub cut : NoNewline line
  pub most : length line ≤ max

-- a line goes on in this state
pub record IsOpen (state : Copied) : Type 0 where
  pub whole : state.fault ≡ None
  pub going : state.marked ≡ false
  pub most : length state.held ≤ state.format.max_line

-- Of a reader's state: whatever bytes follow these, they say these rows and then what the new state
-- has them say.
abbrev pub GoesOn : Copied → List ℕ → List (List Cell) → Copied → Type 0
GoesOn old taken added new =
    (more : List ℕ) → reading_behind old (taken ++ more) ≡ with_rows added (reading_behind new more)

-- nothing but this follows
abbrev pub HasEnded : Copied → (List ℕ → End) → Type 0
HasEnded state end = (more : List ℕ) → reading_behind state more ≡ ends (end more)

-- A piece was fed. Bytes are taken until a row is whole, the end-of-data marker has come or the
-- piece is used up. A row is added to the buffer in the encoding of TupleData. What is wrong with a
-- line is returned from then on; out of memory changes nothing.
abbrev pub IsFed : Copied → List ℕ → List ℕ → Result Fed CopyFault → Copied → List ℕ → Type 0
IsFed old piece before (Ok Waits) new after = (after ≡ before) × GoesOn old piece [] new
IsFed old piece before (Ok (Row taken)) new after =
    (taken ≤ length piece) × (row : List Cell) × IsWireTuple row × (after ≡ before ++ tuple_spelling row)
    × GoesOn old (take taken piece) (row ∷ []) new
IsFed old piece before (Ok (Ended taken)) new after =
    (taken ≤ length piece) × (after ≡ before) × GoesOn old (take taken piece) [] new × HasEnded new Marked
IsFed old piece before (Err Memory) new after = (after ≡ before) × (new ≡ old)
IsFed old piece before (Err (Line number reason)) new after =
    (after ≡ before) × GoesOn old piece [] new × HasEnded new (λ _. Fails number reason)
