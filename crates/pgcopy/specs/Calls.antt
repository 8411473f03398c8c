-- Calls of a reader of COPY text, which took these bytes and filled this buffer.
use Rattle.std.specs.Prelude.{◌≡◌, ℕ, List, [], ◌∷◌, ◌++◌, take, Result, Ok, Err}
use Rattle.pgcopy.specs.declared.fault.CopyFault.{CopyFault}
use Rattle.pgcopy.specs.declared.fault.CopyFault.TheVariants.{Line, Memory}
use Rattle.pgcopy.specs.declared.fed.Fed.{Fed}
use Rattle.pgcopy.specs.declared.fed.Fed.TheVariants.{Waits, Row, Ended}
use Rattle.pgcopy.specs.Reading.{Format, End}
use Rattle.pgcopy.specs.Copied.{Copied, fresh, reading_behind, IsFed}

pub data Call : Type 0 where
  Feed : (piece : List ℕ) (result : Result Fed CopyFault) → Call

-- the bytes that a call took; of a piece with a line that is no row, all
abbrev pub taken_of : List ℕ → Result Fed CopyFault → List ℕ
taken_of piece (Ok Waits) = piece
taken_of piece (Ok (Row taken)) = take taken piece
taken_of piece (Ok (Ended taken)) = take taken piece
taken_of piece (Err Memory) = []
taken_of piece (Err (Line number reason)) = piece

-- the calls, the last one first, lead from a new reader and an empty buffer to these
abbrev pub Leads : Format → List Call → List ℕ → List ℕ → Copied → Type 0
Leads format [] taken buffer state = (taken ≡ []) × (buffer ≡ []) × (state ≡ fresh format)
Leads format (Feed piece result ∷ calls) taken buffer state =
    (before : List ℕ) × (filled : List ℕ) × (old : Copied) × Leads format calls before filled old
    × IsFed old piece filled result state buffer × (taken ≡ before ++ taken_of piece result)

-- how the text stands for a reader in this state
abbrev pub end_of : Copied → End
end_of state = (reading_behind state []).end
