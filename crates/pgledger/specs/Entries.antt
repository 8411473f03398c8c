-- The entries of a ledger: what commits did to rows, one after the other.
-- PostgreSQL documentation, Logical Replication, Subscription.
use Rattle.std.specs.Prelude.{◌≡◌, ◌<◌, ◌++◌, ℕ, List, [], ◌∷◌, Option, Some, None, Ok}
use Rattle.pgapply.specs.declared.commit.About.{About}
use Rattle.pgapply.specs.declared.message.LogicalMessage.{LogicalMessage}
use Rattle.pgapply.specs.Value.{Tables}
use Rattle.pgapply.specs.Apply.{Change, fold_changes}
use Rattle.pgledger.specs.declared.heard.Heard.{Heard}
use Rattle.pgledger.specs.declared.image.Image.{Image}
use Rattle.pgledger.specs.Images.{Line, images, lines}

-- one commit, by the end LSN of its commit
pub record Entry : Type 0 where
  pub end : ℕ
  pub about : Option About
  pub messages : List Heard
  pub lines : List Line

-- a commit that is told with these messages and images
abbrev pub entry_of : ℕ → Option About → List Heard → List Change → List Image → Entry
entry_of end about messages changes told = record { end = end; about = about; messages = messages; lines = lines changes told }

-- a message that is heard
abbrev pub heard_of : LogicalMessage → Heard
heard_of m = record { lsn = m.lsn; prefix = m.prefix.now; content = m.content.now }

-- behind those that were heard; where not all of these were kept, nothing is
abbrev pub with_heard : Option (List Heard) → LogicalMessage → Option (List Heard)
with_heard None m = None
with_heard (Some ms) m = Some (ms ++ heard_of m ∷ [])

-- what was heard, where all of it was kept
abbrev pub messages_of : Option (List Heard) → List Heard
messages_of None = []
messages_of (Some ms) = ms

-- the LSN at which these entries end, where they begin at that one
abbrev pub last_end : ℕ → List Entry → ℕ
last_end at [] = at
last_end at (e ∷ es) = last_end e.end es

-- From these tables at this LSN the entries lead, commit by commit, to those tables at that one:
-- each is of a commit whose changes can be made, with their images, and ends later than the one
-- before it. Messages lead nowhere: a commit may have any.
abbrev pub LeadTo : Tables → ℕ → List Entry → Tables → ℕ → Type 0
LeadTo tables at [] tables' at' = (tables' ≡ tables) × (at' ≡ at)
LeadTo tables at (e ∷ es) tables' at' =
    (at < e.end) × ((changes : List Change) × (e ≡ entry_of e.end e.about e.messages changes (images tables changes))
    × ((mid : Tables) × (fold_changes tables changes ≡ Ok mid) × LeadTo mid e.end es tables' at'))
