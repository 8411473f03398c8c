-- What comes behind the entries of a segment.
use Rattle.std.specs.Prelude.{◌≡◌, ◌<◌, ◌≤◌, ◌+◌, ◌++◌, ◌⊎◌, ℕ, List, [], length, string_bytes}
use Rattle.sqlite_disk.specs.Disk.{Holds}
use Rattle.pgledger.specs.Entries.{Entry}
use Rattle.pgfeed.specs.declared.entries.Piece.{Piece}
use Rattle.pgfeed.specs.declared.segment.Segment.{Segment}
use Rattle.pgfeed.specs.declared.told.Told.{Told}
use Rattle.pgfeed.specs.Fits.{FitsEntry}
use Rattle.pgfeed.specs.Texts.{entry_body, entry_text, entry_told}

-- the lines that an entry has there, and which definitions are told behind them
abbrev pub next_body : {D : Type 0} → Segment D → Entry → List ℕ
next_body s e = entry_body s.told.items (s.size + 256) e

abbrev pub next_told : {D : Type 0} → Segment D → Entry → List Told
next_told s e = entry_told s.told.items (s.size + 256) e

abbrev pub FitsNext : {D : Type 0} → Segment D → Entry → Type 0
FitsNext s e = FitsEntry s.last e (next_body s e)

-- its text
abbrev pub next_text : {D : Type 0} → Segment D → Entry → List ℕ
next_text s e = entry_text s.last e (next_body s e)

-- of definitions that stand in the segment all are remembered, or none where they are too many
abbrev pub Remembers : List Told → List Told → Type 0
Remembers told now = ((length told ≤ 1024) × (now ≡ told)) ⊎ ((1024 < length told) × (now ≡ []))

-- this is the text of the entry there, and these are the definitions that it tells
pub record IsNext {D : Type 0} (s : Segment D) (e : Entry) (piece : Piece) : Type 0 where
  pub above : s.last < e.end
  pub fits : FitsNext s e
  pub text : string_bytes piece.text ≡ next_text s e
  pub told : s.told.items ++ piece.told.items ≡ next_told s e

-- a commit is written, and what it tells is remembered
pub record Adds {D : Type 0} (seen : D → List ℕ) (old new : Segment D) (e : Entry) : Type 0 where
  pub above : old.last < e.end
  pub fits : FitsNext old e
  pub holds : Holds (seen new.disk) old.size (next_text old e)
  pub size_is : new.size ≡ old.size + length (next_text old e)
  pub last_is : new.last ≡ e.end
  pub told_is : Remembers (next_told old e) new.told.items
