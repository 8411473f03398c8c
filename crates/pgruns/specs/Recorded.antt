-- Part of the statement. PostgreSQL documentation, Logical Replication, Subscription: a run over a
-- store with a ledger of its commits.
use Rattle.std.specs.Prelude.{◌≡◌, ℕ, List, Bool, Option, Result}
use Rattle.sqlite.specs.Store.{Ghosts}
use Rattle.pgcommand.specs.declared.limits.Limits.{Limits}
use Rattle.pgorder.specs.declared.Version.{Version}
use Rattle.pgapply.specs.Tallies.{nothing_taken}
use Rattle.pgapply.specs.Value.{Tables}
use Rattle.pgledger.specs.declared.recorded.Recorded.{Recorded}
use Rattle.pgledger.specs.Entries.{Entry}
use Rattle.pgledger.specs.Records.{RecordsSince, tally_since}
use Rattle.pgstore.specs.StoreValue.{StoreValue, HasTables, Serves}
use Rattle.pgstore.specs.Reopened.{Reopens}
use Rattle.pgfollow.specs.declared.fault.FollowFault.{FollowFault}
use Rattle.pgsub_cli.specs.declared.fault.Ending.{Ending}
use Rattle.pgsub_cli.specs.declared.fault.RunFault.{RunFault}
use Rattle.pgsub_cli.specs.declared.reported.Reported.{Reported}
use Rattle.pgsub_cli.specs.declared.storing.Incoming.{Incoming}
use Rattle.pgspooled.specs.declared.honesty.Honesty.{Honesty}
use Rattle.pgsub_cli.specs.FollowedLive.{FollowsBuffered}
use Rattle.pgsub_cli.specs.StoreAfter.{HoldsAfter, LosesNothing, MayBeLeft}
use Rattle.pgsub_cli.specs.Storing.{PrintsOver}

module _ {S G : Type 0} (g : Ghosts S) where
  -- A crash leaves this one, where the store is opened again, has taken nothing, and then the
  -- ledger is opened at its position. Of the ledger that is asked where that is so which is
  -- supposed of it.
  abbrev pub ReopensRecorded : Type 0 → (G → ℕ → G → Type 0) → Recorded (StoreValue S) G → Recorded (StoreValue S) G → Type 0
  ReopensRecorded supposed reopens r other =
      Reopens g g r.store other.store × (other.store.group.tally ≡ nothing_taken) × (other.from ≡ other.store.position)
      × (supposed → reopens r.ledger other.store.position other.ledger)

  module _ (supposed : Type 0) (begins : G → ℕ) (keeps : G → List Entry → Type 0) (outlasts : G → ℕ → Type 0) (is_stuck : G → Bool) where
    -- The store holds these tables. Where that is so which is supposed of the ledger, its entries
    -- lead to them, and those since the run began tell the commits that the store took, one by one.
    abbrev pub HoldsRecorded : Recorded (StoreValue S) G → Tables → Type 0
    HoldsRecorded r tables =
        HasTables g r.store tables
        × (supposed
        → RecordsSince begins keeps outlasts is_stuck r.ledger r.from r.store.group.tally.commits tables r.store.position
        r.store.group.reach)

    -- `FollowsBuffered`, of a store with its ledger that tells a listener of each settling. The run
    -- begins at the position of the store that was opened.
    abbrev pub FollowsRecorded : {P : Type 0} → (G → ℕ → G → Type 0) → (L : Type 0) → Option P → Option (List ℕ) → Option (List ℕ) → ℕ
        → Option (List ℕ) → Option (List ℕ) → Limits → Version → StoreValue S → G → StoreValue S → G → Honesty → Option FollowFault
        → Type 0
    FollowsRecorded reopens L spool unread rest reads wrote wrote' limits version opened begun ended left honesty why =
        (told : Reported (Recorded (StoreValue S) G) L) × (last : Reported (Recorded (StoreValue S) G) L)
        × (told.store.store ≡ opened) × (told.store.ledger ≡ begun) × (told.store.from ≡ opened.position)
        × (last.store.store ≡ ended) × (last.store.ledger ≡ left)
        × FollowsBuffered {C = Reported (Recorded (StoreValue S) G) L} (λ r. HoldsRecorded r.store) (λ r. r.store.store.position)
        (λ r other. ReopensRecorded supposed reopens r.store other.store)
        (λ r. Serves g r.store.store) (λ r. tally_since r.store.from r.store.store.group.tally) spool unread rest reads wrote wrote'
        limits version told last
        honesty why

-- What came was applied to the one, which led to the other: its lines were printed, and what it
-- holds then, and what a crash may leave of it, is by what came.
pub record Applies {C R W : Type 0} (is_honest serves : C → Type 0) (holds : C → Tables → Type 0) (place : C → ℕ)
    (reopens : C → C → Type 0) (gives starts : R → List ℕ → Type 0) (unread : R → Type 0) (takes : W → List ℕ → W → Type 0)
    (failed : W → Type 0) (limits : Limits) (input : Option (Version × Incoming R)) (old new : C) (ended : Result Ending RunFault)
    (out out' : W) : Type 0 where
  pub prints : PrintsOver gives starts unread holds place is_honest takes failed limits input old new out out' ended
  pub kept : serves new → HoldsAfter gives starts unread holds place limits input old new
  pub left : is_honest new → MayBeLeft gives starts unread holds place reopens serves limits input old new
  pub crash : is_honest new → LosesNothing gives starts unread holds place reopens limits input old new
