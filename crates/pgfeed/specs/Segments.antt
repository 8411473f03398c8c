-- A segment of a feed in a file: what the file has, what a crash leaves of it, and opening what was
-- left.
use Rattle.std.specs.Prelude.{◌≡◌, ◌<◌, ◌≤◌, ◌+◌, ◌^◌, ℕ, List, [], ◌++◌, length, take, drop, min}
use Rattle.std.specs.Prelude.{slice_index}
use Rattle.std.specs.List.{AllByRecursion}
use Rattle.sqlite_disk.specs.Disk.{Follows, Only}
use Rattle.pgledger.specs.Entries.{Entry, last_end}
use Rattle.pgfeed.specs.declared.mark.Mark.{Mark}
use Rattle.pgfeed.specs.declared.told.Told.{Told}
use Rattle.pgfeed.specs.Reading.{AreEntries, AreWritten, BeginsWith, HasItsCrc, Stands, Walks}
use Rattle.pgfeed.specs.Texts.{Bodies, closing_line, entries_text, segment_front, segment_head}

-- the head of a segment that begins at this LSN
pub record IsHead (base : ℕ) (head : List ℕ) : Type 0 where
  pub system : List ℕ
  pub database : List ℕ
  pub slot : List ℕ
  pub head_is : head ≡ segment_head base system database slot
  pub size : length head ≡ 1024
  pub base_fits : base < 2 ^ 64

-- The file has a head and these entries one after the other, in so many bytes, and maybe something
-- behind them. The last one ends there. The definitions stand in these bytes where they are said
-- to.
pub record KeepsEntries (base last size : ℕ) (told : List Told) (file : List ℕ) (es : List Entry) : Type 0 where
  pub head : List ℕ
  pub bodies : Bodies
  pub rest : List ℕ
  pub is_head : IsHead base head
  pub file_is : file ≡ head ++ (entries_text bodies base es ++ rest)
  pub size_is : size ≡ 1024 + length (entries_text bodies base es)
  pub entries : AreEntries base es
  pub written : AreWritten bodies head base es
  pub stand : AllByRecursion (Stands (head ++ entries_text bodies base es)) told
  pub last_is : last ≡ last_end base es

-- a head and entries up to the one that ends at this LSN
pub record IsFront (base place : ℕ) (front : List ℕ) : Type 0 where
  pub head : List ℕ
  pub bodies : Bodies
  pub told : List Entry
  pub is_head : IsHead base head
  pub entries : AreEntries base told
  pub written : AreWritten bodies head base told
  pub ends : last_end base told ≡ place
  pub front_is : front ≡ head ++ entries_text bodies base told

abbrev pub Begins : List ℕ → List ℕ → Type 0
Begins front text = (rest : List ℕ) × (text ≡ front ++ rest)

-- the text begins as that of a segment which begins at this LSN
abbrev pub HasHead : ℕ → List ℕ → Type 0
HasHead base text = (front : List ℕ) × IsFront base base front × Begins front text

-- Whatever a crash leaves begins with this front of a head and entries up to the LSN, which no
-- later call writes to.
pub record LastsAs (base size : ℕ) (outcomes : List ℕ → Type 0) (place : ℕ) (front : List ℕ) : Type 0 where
  pub is_front : IsFront base place front
  pub within : length front ≤ size
  pub each : (text : List ℕ) → outcomes text → Begins front text

abbrev pub Lasts : ℕ → ℕ → (List ℕ → Type 0) → ℕ → Type 0
Lasts base size outcomes place = (front : List ℕ) × LastsAs base size outcomes place front

-- the text has what lasts up to the LSN
abbrev pub HasWhatLasts : ℕ → ℕ → (List ℕ → Type 0) → ℕ → List ℕ → Type 0
HasWhatLasts base size outcomes place text = (front : List ℕ) → LastsAs base size outcomes place front → Begins front text

-- A segment with that base was found in the text, with an entry that ends at the LSN or none where
-- it begins there. So many bytes are its head and its entries up to that one.
pub record IsFound (base place : ℕ) (text : List ℕ) (size : ℕ) : Type 0 where
  pub marks : List Mark
  pub entries_size : ℕ
  pub more : List ℕ
  pub head : take 1024 text ≡ segment_front base ++ more
  pub head_within : 1024 ≤ length text
  pub walk : Walks base marks (drop 1024 text) place entries_size
  pub size_is : size ≡ 1024 + entries_size

-- Opening tests the checksum of one commit, the last one, if no more bytes than these follow its
-- line.
abbrev pub most_tested : ℕ
most_tested = 16777216

-- The last of so many bytes are the commit that ends at the LSN, and it has its checksum.
pub record EndsTested (place : ℕ) (text : List ℕ) (size : ℕ) : Type 0 where
  pub prev : ℕ
  pub mark : Mark
  pub offset : ℕ
  pub begins : BeginsWith prev mark (drop offset text)
  pub ends : mark.end ≡ place
  pub size_is : size ≡ offset + (256 + mark.bytes)
  pub tested : mark.bytes ≤ most_tested → HasItsCrc mark.bytes (drop offset text)

-- what was found is all that the file has, also after a crash
pub record IsCut (text : List ℕ) (size : ℕ) (file : List ℕ) (outcomes : List ℕ → Type 0) : Type 0 where
  pub file_is : file ≡ take size text
  pub synced : Only file outcomes

-- what a file has of its first bytes, so many of them, stays
pub record StaysBefore (size : ℕ) (old new : List ℕ) : Type 0 where
  pub no_shorter : min (length old) size ≤ length new
  pub below : (i : ℕ) → i < length old → i < size → slice_index new i ≡ slice_index old i

-- a call may have changed what is behind so many bytes
abbrev pub ChangesBehind : ℕ → List ℕ → List ℕ → (List ℕ → Type 0) → (List ℕ → Type 0) → Type 0
ChangesBehind size old new before after = StaysBefore size old new × Follows (StaysBefore size) before after

-- Another segment was opened at the LSN on a text that has what lasts up to it. It has told no
-- definition.
pub record Reopens (base size : ℕ) (outcomes : List ℕ → Type 0) (place new_base new_last new_size : ℕ) (new_told : List Told)
    (file : List ℕ) (after : List ℕ → Type 0) : Type 0 where
  pub text : List ℕ
  pub has : HasWhatLasts base size outcomes place text
  pub base_is : new_base ≡ base
  pub last_is : new_last ≡ place
  pub untold : new_told ≡ []
  pub found : IsFound base place text new_size
  pub cut : IsCut text new_size file after

-- A segment that has ended: a head, these entries and the line that ends it, also after a crash.
pub record IsFinished (base last : ℕ) (es : List Entry) (file : List ℕ) (outcomes : List ℕ → Type 0) : Type 0 where
  pub head : List ℕ
  pub bodies : Bodies
  pub is_head : IsHead base head
  pub file_is : file ≡ head ++ (entries_text bodies base es ++ closing_line last)
  pub entries : AreEntries base es
  pub written : AreWritten bodies head base es
  pub last_is : last ≡ last_end base es
  pub synced : Only file outcomes

-- It has ended behind where it began, and a crash leaves its text as it is.
pub record IsEnded (base last : ℕ) (own : List Entry) (outcomes : List ℕ → Type 0) : Type 0 where
  pub rises : base < last
  pub text : List ℕ
  pub finished : IsFinished base last own text outcomes
