-- How the text of entries is read: the line of each commit tells where the next one is.
use Rattle.std.specs.Prelude.{◌≡◌, ◌<◌, ◌≤◌, ◌+◌, ◌^◌, ℕ, suc, List, [], ◌∷◌, ◌++◌, length, map}
use Rattle.std.specs.Prelude.{take, drop, ⊤}
use Rattle.std.specs.List.{AllByRecursion}
use Rattle.pgledger.specs.Entries.{Entry, last_end}
use Rattle.pgledger.specs.Images.{Line}
use Rattle.pgfeed.specs.declared.mark.Mark.{Mark}
use Rattle.pgcrc.specs.Crc.{crc32}
use Rattle.pgfeed.specs.Texts.{Bodies, commit_front, crc_text, entries_text, entry_body}
use Rattle.pgfeed.specs.Texts.{entry_line, entry_text, image_line, table_line}
use Rattle.pgfeed.specs.declared.told.Told.{Told}
use Rattle.pgfeed.specs.Fits.{FitsEntry, FitsHeard}

abbrev pub mark_of : Bodies → Entry → Mark
mark_of bodies e = record { end = e.end; bytes = length (bodies e.end) }

-- the first 256 bytes begin as the line of a commit behind that LSN, and so many bytes as it tells
-- are behind them
pub record BeginsWith (at : ℕ) (mark : Mark) (text : List ℕ) : Type 0 where
  pub above : at < mark.end
  pub end_fits : mark.end < 2 ^ 64
  pub bytes_fit : mark.bytes < 2 ^ 64
  pub more : List ℕ
  pub line : take 256 text ≡ commit_front mark.end at mark.bytes ++ more
  pub within : 256 + mark.bytes ≤ length text

-- Read from this LSN on, the text begins with commits up to the one that ends at that LSN, in so
-- many bytes. No byte is looked at but those of their lines.
abbrev pub Walks : ℕ → List Mark → List ℕ → ℕ → ℕ → Type 0
Walks at [] text place size = (place ≡ at) × (size ≡ 0)
Walks at (mark ∷ marks) text place size =
    BeginsWith at mark text × ((rest : ℕ) × (size ≡ 256 + mark.bytes + rest)
    × Walks mark.end marks (drop (256 + mark.bytes) text) place rest)

-- The first 256 bytes tell a checksum: that of what stands before it, and then of so many bytes
-- behind these.
pub record HasItsCrc (bytes : ℕ) (text : List ℕ) : Type 0 where
  pub told : List ℕ
  pub more : List ℕ
  pub line : take 256 text ≡ told ++ (crc_text (crc32 (told ++ take bytes (drop 256 text))) ++ more)

-- each entry ends after the one before it
abbrev pub AreEntries : ℕ → List Entry → Type 0
AreEntries at [] = ⊤
AreEntries at (e ∷ es) = (at < e.end) × AreEntries e.end es

-- ---- what the lines of a commit tell

-- these bytes of a segment have the line of the definition, where it is said to begin
pub record Stands (text : List ℕ) (told : Told) : Type 0 where
  pub before : List ℕ
  pub more : List ℕ
  pub is : text ≡ before ++ (table_line told.definition ++ more)
  pub offset_is : told.offset ≡ length before

-- Behind these bytes of a segment the lines tell the messages and then the changes of the entry.
-- Definitions that stand in these bytes aren't told again.
pub record IsBody (front : List ℕ) (e : Entry) (body : List ℕ) : Type 0 where
  pub told : List Told
  pub stand : AllByRecursion (Stands front) told
  pub body_is : body ≡ entry_body told (length front) e

-- Behind these bytes of a segment, and the commit that ends at this LSN, the entries have these
-- lines, which tell what they did, and their numbers are of 64 bits.
abbrev pub AreWritten : Bodies → List ℕ → ℕ → List Entry → Type 0
AreWritten bodies front at [] = ⊤
AreWritten bodies front at (e ∷ es) =
    FitsEntry at e (bodies e.end) × IsBody (front ++ entry_line at e (bodies e.end)) e (bodies e.end)
    × AreWritten bodies (front ++ entry_text at e (bodies e.end)) e.end es

-- the bytes have the line of the change, which names where they have the line of its definition
pub record Names (text : List ℕ) (n : ℕ) (line : Line) : Type 0 where
  pub at : ℕ
  pub stands : Stands text (record { definition = line.definition; offset = at })
  pub before : List ℕ
  pub more : List ℕ
  pub is : text ≡ before ++ (image_line at n line.image ++ more)

abbrev pub AllName : List ℕ → ℕ → List Line → Type 0
AllName text n [] = ⊤
AllName text n (line ∷ lines) = Names text n line × AllName text (suc n) lines

-- The lines of a commit tell its messages, in their order, and in one way: commits that have the
-- same lines, wherever these stand, have the same messages.
abbrev pub MessagesAreTold : Type 0
MessagesAreTold =
    (front other : List ℕ) (e f : Entry) (body : List ℕ) → AllByRecursion FitsHeard e.messages → AllByRecursion FitsHeard f.messages
    → IsBody front e body → IsBody other f body → e.messages ≡ f.messages

-- Each change names where in the segment its definition stands, in the lines of its commit or
-- before them.
abbrev pub ChangesNameDefinitions : Type 0
ChangesNameDefinitions = (front : List ℕ) (e : Entry) (body : List ℕ) → IsBody front e body → AllName (front ++ body) 0 e.lines

-- ---- how they are read

-- The lines of commits lead over the entries, whatever follows.
abbrev pub LinesLeadOver : Type 0
LinesLeadOver = (bodies : Bodies) (front : List ℕ) (at : ℕ) (es : List Entry) (rest : List ℕ) → AreEntries at es
    → AreWritten bodies front at es
    → Walks at (map (mark_of bodies) es) (entries_text bodies at es ++ rest) (last_end at es) (length (entries_text bodies at es))

-- A text is read in one way up to an LSN.
abbrev pub TextIsReadInOneWay : Type 0
TextIsReadInOneWay =
    (at place size other : ℕ) (marks others : List Mark) (text : List ℕ) → at < 2 ^ 64 → Walks at marks text place size
    → Walks at others text place other → (marks ≡ others) × (size ≡ other)

-- The text of an entry has its checksum, whatever follows.
abbrev pub EntriesHaveTheirCrc : Type 0
EntriesHaveTheirCrc =
    (at : ℕ) (e : Entry) (body rest : List ℕ) → FitsEntry at e body → HasItsCrc (length body) (entry_text at e body ++ rest)
