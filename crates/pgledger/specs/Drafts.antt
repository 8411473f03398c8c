-- A commit that comes in parts: which lines a ledger has of it before it keeps them.
use Rattle.std.specs.Prelude.{ℕ, ◌++◌, List, [], Option}
use Rattle.pgapply.specs.declared.commit.About.{About}
use Rattle.pgledger.specs.declared.heard.Heard.{Heard}
use Rattle.pgledger.specs.Entries.{Entry, messages_of}
use Rattle.pgledger.specs.Images.{Line}
use Rattle.pgledger.specs.Ledgers.{Appends}

module _ {L : Type 0} (drafts : L → List Line → Type 0) where
  -- it has some lines of a commit that was begun
  abbrev pub HasDraft : L → Type 0
  HasDraft l = (ls : List Line) × drafts l ls

  -- it has begun a commit, and has no line of it
  abbrev pub BeginsDraft : L → Type 0
  BeginsDraft new = drafts new []

  -- it has these lines behind those that it had
  abbrev pub AddsLines : List Line → L → L → Type 0
  AddsLines more old new = (ls : List Line) → drafts old ls → drafts new (ls ++ more)

  -- it keeps the commit with the lines that it had, and with what was heard
  abbrev pub KeepsDraft : (L → List Entry → Type 0) → ℕ → Option About → Option (List Heard) → L → L → Type 0
  KeepsDraft keeps end about heard old new =
      (ls : List Line) → drafts old ls
      → Appends keeps (record { end = end; about = about; messages = messages_of heard; lines = ls }) old new
