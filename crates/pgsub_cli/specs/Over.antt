-- PostgreSQL documentation, Logical Replication, Subscription: a run over a store of any kind, by
-- what its contract says that it holds. `Recorded` and `Filed` say the same of a store of rows.
use Rattle.std.specs.Prelude.{◌≡◌, ℕ, List, Bool, Option, Result}
use Rattle.pgcommand.specs.declared.limits.Limits.{Limits}
use Rattle.pgorder.specs.declared.Version.{Version}
use Rattle.pgapply.specs.Tallies.{Tally, nothing_taken}
use Rattle.pgapply.specs.Value.{Tables}
use Rattle.pgledger.specs.declared.recorded.Recorded.{Recorded}
use Rattle.pgledger.specs.Entries.{Entry}
use Rattle.pgledger.specs.Records.{RecordsSince}
use Rattle.pgfollow.specs.declared.fault.FollowFault.{FollowFault}
use Rattle.pgsub_cli.specs.declared.fault.Ending.{Ending}
use Rattle.pgsub_cli.specs.declared.fault.RunFault.{RunFault}
use Rattle.pgsub_cli.specs.declared.reported.Reported.{Reported}
use Rattle.pgsub_cli.specs.declared.storing.Incoming.{Incoming}
use Rattle.pgspooled.specs.declared.honesty.Honesty.{Honesty}
use Rattle.pgsub_cli.specs.FollowedLive.{FollowsBuffered}
use Rattle.pgsub_cli.specs.StoreAfter.{HoldsAfter, LosesNothing, MayBeLeft}
use Rattle.pgsub_cli.specs.Storing.{PrintsOver}

-- `FollowsBuffered`, of a store that tells a listener of each settling
abbrev pub FollowsReported : {C P : Type 0} → (C → Tables → Type 0) → (C → ℕ) → (C → C → Type 0) → (C → Type 0) → (C → Tally)
    → (L : Type 0) → Option P → Option (List ℕ) → Option (List ℕ) → ℕ → Option (List ℕ) → Option (List ℕ) → Limits → Version → C → C
    → Honesty → Option FollowFault → Type 0
FollowsReported {C} holds place reopens serves count L spool unread rest reads wrote wrote' limits version opened ended honesty why =
    (told : Reported C L) × (last : Reported C L) × (told.store ≡ opened) × (last.store ≡ ended)
    × FollowsBuffered {C = Reported C L} (λ r. holds r.store) (λ r. place r.store) (λ r other. reopens r.store other.store)
    (λ r. serves r.store) (λ r. count r.store) spool unread rest reads wrote wrote' limits version told last honesty why

module _ {C G : Type 0} (holds : C → Tables → Type 0) (place reach : C → ℕ) (tally : C → Tally) (supposed : Type 0) (begins : G → ℕ)
    (keeps : G → List Entry → Type 0) (outlasts : G → ℕ → Type 0) (is_stuck : G → Bool) where
  -- The store holds these tables. Where that is so which is supposed of the ledger, its entries
  -- lead to them, and those since the run began tell the commits that were taken.
  abbrev pub HoldsBoth : Recorded C G → Tables → Type 0
  HoldsBoth r tables =
      holds r.store tables
      × (supposed
      → RecordsSince begins keeps outlasts is_stuck r.ledger r.from (tally r.store).commits tables (place r.store) (reach r.store))

-- A crash leaves this one, where the store is opened again, has taken nothing, and then the ledger
-- is opened at its position. Of the ledger that is asked where that is so which is supposed of it.
abbrev pub ReopensBoth : {C G : Type 0} → (C → ℕ) → (C → Tally) → (C → C → Type 0) → Type 0 → (G → ℕ → G → Type 0) → Recorded C G
    → Recorded C G → Type 0
ReopensBoth place tally reopens supposed reopens' r other =
    reopens r.store other.store × (tally other.store ≡ nothing_taken) × (other.from ≡ place other.store)
    × (supposed → reopens' r.ledger (place other.store) other.ledger)

-- What came was applied to the one, which led to the other: what was printed, what the store holds
-- then, and what a crash may leave of it.
pub record AppliesOver {C R W : Type 0} (is_honest serves : C → Type 0) (holds : C → Tables → Type 0) (place : C → ℕ)
    (reopens : C → C → Type 0) (gives starts : R → List ℕ → Type 0) (unread : R → Type 0) (takes : W → List ℕ → W → Type 0)
    (failed : W → Type 0) (limits : Limits) (input : Option (Version × Incoming R)) (old new : C) (ended : Result Ending RunFault)
    (out out' : W) : Type 0 where
  pub prints : PrintsOver gives starts unread holds place is_honest takes failed limits input old new out out' ended
  pub kept : serves new → HoldsAfter gives starts unread holds place limits input old new
  pub left : is_honest new → MayBeLeft gives starts unread holds place reopens serves limits input old new
  pub crash : is_honest new → serves old → LosesNothing gives starts unread holds place reopens limits input old new
