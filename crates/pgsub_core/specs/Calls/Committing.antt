-- What a commit does to a store of which it is said what tables it holds.
use Rattle.std.specs.Prelude.{◌≡◌, ◌<◌, ℕ, List, Option, Some, None}
use Rattle.pglogical.specs.declared.message.Item.{Item}
use Rattle.pglogical.specs.declared.message.Message.{Message}
use Rattle.pglogical.specs.declared.message.Message.TheVariants as message
use Rattle.pgapply.specs.declared.commit.About.{About}
use Rattle.pgapply.specs.Value.{Tables}
use Rattle.pgsub_core.specs.declared.fault.Fault.{Fault}
use Rattle.pgsub_core.specs.Machine.Replica.{Replica, RelationCache, Halt, Running, Stopped}
use Rattle.pgsub_core.specs.Machine.Replica.{GoesOrStops, IsOfStore, on_commit}
use Rattle.pgsub_core.specs.Machine.Taking.{fault_of}
use Rattle.pgsub_core.specs.Subscriber.Causes.{Cause, OutOfMemory, StatementRefused, HeaderTooLarge}
use Rattle.pgsub_core.specs.Subscriber.Causes.{ForeignBytes, NextMessage, NeverAnswered, cause}
use Rattle.pgsub_core.specs.Subscriber.Causes.{SpoolFailed}

abbrev pub replica_with : Tables → ℕ → ℕ → RelationCache → Replica
replica_with tables position confirmed relations =
    record { tables = tables; position = position; confirmed = confirmed; relations = relations }

-- What the message of a commit tells of its transaction.
-- PostgreSQL documentation, Logical Replication Message Formats, Commit and Stream Commit.
abbrev pub about_of : Message → ℕ → Option About
about_of (message.Commit lsn end time) xid = Some (record { final_lsn = lsn; xid = xid; time = time })
about_of (message.StreamCommit top lsn end time) xid = Some (record { final_lsn = lsn; xid = xid; time = time })
about_of _ xid = None

-- why a commit of these items isn't taken
abbrev pub StopsAtCommit : Replica → ℕ → List Item → Fault → Cause → Type 0
StopsAtCommit old end items f OutOfMemory = Unit {0}
StopsAtCommit old end items f SpoolFailed = Unit {0}
StopsAtCommit old end items f StatementRefused = (old.position < end) × GoesOrStops IsOfStore (on_commit old end items)
StopsAtCommit old end items f HeaderTooLarge = ⊥
StopsAtCommit old end items f ForeignBytes = ⊥
StopsAtCommit old end items f NextMessage = (why : Halt) × (on_commit old end items ≡ Stopped old why) × (f ≡ fault_of why)
StopsAtCommit old end items f NeverAnswered = ⊥

module _ {C : Type 0} (holds : C → Tables → Type 0) (place : C → ℕ) where
  -- the commit is taken, or is a repeat
  abbrev pub Commits : ℕ → List Item → C → ℕ → RelationCache → C → ℕ → RelationCache → Type 0
  Commits end items old confirmed relations new confirmed' relations' =
      (tables : Tables) → holds old tables
      → (tables' : Tables) × holds new tables'
      × (on_commit (replica_with tables (place old) confirmed relations) end items
      ≡ Running (replica_with tables' (place new) confirmed' relations'))

  -- it isn't, and the store holds what it held
  pub record RefusesCommit (end : ℕ) (items : List Item) (old : C) (confirmed : ℕ) (relations : RelationCache) (new : C)
      (f : Fault) : Type 0 where
    pub stays : (tables : Tables) → holds old tables → holds new tables
    pub why : (tables : Tables) → holds old tables
        → StopsAtCommit (replica_with tables (place old) confirmed relations) end items f (cause f)
