-- A commit of a segment that comes in parts: what its lines are before it has a line of its own.
use Rattle.std.specs.Prelude.{◌≡◌, ◌<◌, ◌+◌, ◌++◌, ℕ, List, Option, Some, None, IsSome, length}
use Rattle.sqlite_disk.specs.Disk.{Holds}
use Rattle.pgapply.specs.declared.commit.About.{About}
use Rattle.pgcrc.specs.Covering.{Covers}
use Rattle.pgledger.specs.declared.heard.Heard.{Heard}
use Rattle.pgledger.specs.Entries.{Entry}
use Rattle.pgledger.specs.Images.{Line}
use Rattle.pgfeed.specs.declared.draft.Draft.{Draft}
use Rattle.pgfeed.specs.declared.segment.Segment.{Segment}
use Rattle.pgfeed.specs.declared.told.Told.{Told}
use Rattle.pgfeed.specs.Fits.{FitsEntry}
use Rattle.pgfeed.specs.Texts.{body_text, entry_line, messages_text, told_after}

-- where the lines of the changes begin, in a segment that has so many bytes
abbrev pub changes_at : ℕ → List Heard → ℕ
changes_at size messages = size + 256 + length (messages_text messages)

-- In a segment of so many bytes that has these definitions, the draft is of these messages and of
-- these lines of changes, and this is their text.
pub record IsDraft (told : List Told) (size : ℕ) (messages : List Heard) (ls : List Line) (body : List ℕ) (draft : Draft) : Type 0 where
  pub body_is : body ≡ messages_text messages ++ body_text told (changes_at size messages) 0 ls
  pub told_is : told ++ draft.told.items ≡ told_after told (changes_at size messages) 0 ls
  pub size_is : draft.size ≡ length body
  pub count_is : draft.count ≡ length ls
  pub covers : Covers draft.crc body

abbrev pub drafted : ℕ → Option About → List Heard → List Line → Entry
drafted end about messages ls = record { end = end; about = about; messages = messages; lines = ls }

-- the line of the commit, whose numbers are of 64 bits
pub record IsLineOf (prev end : ℕ) (about : Option About) (messages : List Heard) (ls : List Line) (body line : List ℕ) : Type 0 where
  pub is : line ≡ entry_line prev (drafted end about messages ls) body
  pub fits : FitsEntry prev (drafted end about messages ls) body

-- The segment has a draft of these messages and of these lines of changes. Their text is in the
-- file, behind the room for the line of the commit.
pub record HasDraft {D : Type 0} (seen : D → List ℕ) (s : Segment D) (messages : List Heard) (ls : List Line) : Type 0 where
  pub draft : Draft
  pub body : List ℕ
  pub there : s.draft ≡ Some draft
  pub is_draft : IsDraft s.told.items s.size messages ls body draft
  pub holds : 0 < length body → Holds (seen s.disk) (s.size + 256) body

-- There is no draft, and what the file had of one behind the commits is truncated.
pub record DropsDraft {D : Type 0} (seen : D → List ℕ) (old new : Segment D) : Type 0 where
  pub none : new.draft ≡ None
  pub cut : IsSome old.draft → length (seen new.disk) ≡ old.size
