-- Part of the statement. PostgreSQL documentation, Streaming Replication Protocol: what follows a
-- server live, over a store in two files with a feed in a folder, makes runs of a life.
use Rattle.std.specs.Prelude.{◌≡◌, ℕ, List, Bool, Option, None, Some, IsTrue}
use Rattle.std.proofs.Common.{inl, inr}
use Rattle.sqlite_disk.specs.declared.Disk as disk
use Rattle.sqlite.specs.Files.{over_files}
use Rattle.pgapply.specs.Tallies.{Tally, nothing_taken}
use Rattle.pgapply.specs.Value.{Tables}
use Rattle.pgfeed.specs.Feeds.{ReopensAt}
use Rattle.pgstore.specs.StoreValue.{Serves}
use Rattle.pgstore.specs.Reopened.{Reopens}
use Rattle.pgsub_core.specs.Server.History.{Transaction}
use Rattle.pgsub_core.specs.Subscriber.SubscriberValue.{SubscriberValue, seen}
use Rattle.pgfollow.specs.declared.fault.FollowFault.{FollowFault}
use Rattle.pgfollow.specs.Told.{FollowsLive, HaveAllTaken, part_in, steps_in}
use Rattle.pgrecovery.specs.FedLife.{FedRun, FedStore, IsFollowed, fed_newly, fed_position}
use Rattle.pgrecovery.specs.ToldLife.{IsToldRun, fed_tally, holds_told}

-- A live run told its first status, and these sessions have all that it took.
abbrev pub AreTakenIn : {C : Type 0} (holds : C → Tables → Type 0) (place : C → ℕ) (reopens : C → C → Type 0) (serves : C → Type 0)
    (count : C → Tally) (unread rest : Option (List ℕ)) (reads : ℕ) (wrote wrote' : Option (List ℕ)) (old new : SubscriberValue C)
    (why : Option FollowFault)
    → FollowsLive holds place reopens serves count unread rest reads wrote wrote' old new why → List (List ℕ) → Type 0
AreTakenIn holds place reopens serves count unread rest reads wrote wrote' old new why (inl stopped) sessions = ⊥
AreTakenIn holds place reopens serves count unread rest reads wrote wrote' old new why (inr f) sessions =
    HaveAllTaken holds place f.0 (steps_in holds place reopens serves count unread rest reads f.1 wrote' f.0 new why f.3)
    (part_in holds place reopens serves count unread rest reads f.1 wrote' f.0 new why f.3) sessions

module _ {D F E : Type 0} (g : disk.Ghosts D) (shows : E → List ℕ) (may_leave : E → List ℕ → Type 0) (is_clean : E → Bool)
    (is_true : F → Type 0) (places : F → List ℕ) (has : F → ℕ → List ℕ → Type 0) (supposed : Type 0) where
  -- A crash leaves this one: opened again it has taken nothing, and its feed came to it then.
  abbrev pub reopens_told : FedStore g F E → FedStore g F E → Type 0
  reopens_told r other =
      Reopens over_files over_files r.store other.store × (other.store.group.tally ≡ nothing_taken) × (other.from ≡ other.store.position)
      × (supposed → ReopensAt shows may_leave is_clean is_true places has r.ledger other.store.position other.ledger)

  -- The store inside serves. Beside it may be noted whether what else is read is what was written,
  -- as `pgspooled::Spooled` does: then that is so, too.
  abbrev pub ServesInside : {C : Type 0} → (C → FedStore g F E) → Option (C → Bool) → C → Type 0
  ServesInside store_of None c = Serves over_files (store_of c).store
  ServesInside store_of (Some is_true_beside) c = Serves over_files (store_of c).store × IsTrue (is_true_beside c)

  module _ {C : Type 0} (store_of : C → FedStore g F E) (beside : Option (C → Bool)) where
    -- a server was followed over a store of any kind that has this one
    abbrev pub FollowsFed : Option (List ℕ) → Option (List ℕ) → ℕ → Option (List ℕ) → Option (List ℕ) → SubscriberValue C
        → SubscriberValue C → Option FollowFault → Type 0
    FollowsFed unread rest reads wrote wrote' old new why =
        FollowsLive (λ c. holds_told g shows may_leave is_clean is_true places has supposed (store_of c)) (λ c. fed_position (store_of c))
        (λ c other. reopens_told (store_of c) (store_of other)) (ServesInside store_of beside) (λ c. fed_tally (store_of c)) unread rest
        reads wrote wrote' old new why

    abbrev pub AreTakenFed : (unread rest : Option (List ℕ)) (reads : ℕ) (wrote wrote' : Option (List ℕ)) (old new : SubscriberValue C)
        (why : Option FollowFault)
        → FollowsFed unread rest reads wrote wrote' old new why → List (List ℕ) → Type 0
    AreTakenFed =
        AreTakenIn (λ c. holds_told g shows may_leave is_clean is_true places has supposed (store_of c)) (λ c. fed_position (store_of c))
        (λ c other. reopens_told (store_of c) (store_of other)) (ServesInside store_of beside) (λ c. fed_tally (store_of c))

    -- It begins with a new subscriber over a store that has taken nothing, and a feed that came to
    -- it then. Its sessions have all that was taken. Where the store serves, the one around it
    -- does.
    pub record IsLive (r : FedRun g F E) (unread rest : Option (List ℕ)) (reads : ℕ) (wrote wrote' : Option (List ℕ))
        (old new : SubscriberValue C) (why : Option FollowFault) : Type 0 where
      pub begun : r.begun ≡ store_of old.applied.store
      pub ended : r.ended ≡ store_of new.applied.store
      pub confirmed : r.confirmed ≡ new.applied.confirmed
      pub from : r.begun.from ≡ fed_position r.begun
      pub untaken : r.begun.store.group.tally ≡ nothing_taken
      pub newly : (tables : Tables) → seen (λ c. fed_position (store_of c)) old tables ≡ fed_newly r tables
      pub serving : Serves over_files r.ended.store → ServesInside store_of beside new.applied.store
      pub follows : FollowsFed unread rest reads wrote wrote' old new why
      pub taken : AreTakenFed unread rest reads wrote wrote' old new why follows r.sessions

  -- So it is a run that followed sessions of the history, and of which it is known which
  -- transactions its feed got. Around the store there may be another one, as `pgsub_cli::Reported`.
  abbrev pub LiveRunsAreRuns : Type 0 → Type 0
  LiveRunsAreRuns C =
      (store_of : C → FedStore g F E) (with_store : C → FedStore g F E → C) (beside : Option (C → Bool))
      → ((c : C) (s : FedStore g F E) → store_of (with_store c s) ≡ s)
      → (r : FedRun g F E) (unread rest : Option (List ℕ)) (reads : ℕ) (wrote wrote' : Option (List ℕ)) (old new : SubscriberValue C)
      (why : Option FollowFault)
      → IsLive store_of beside r unread rest reads wrote wrote' old new why → (history : List Transaction)
      → IsFollowed g shows may_leave is_clean is_true places has supposed history r
      × IsToldRun g shows may_leave is_clean is_true places has supposed history r
