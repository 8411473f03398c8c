-- Part of the statement.
-- A run over a store in two files that keeps a feed of its commits in a folder, or none.
use Rattle.std.specs.Prelude.{◌≡◌, ◌⊎◌, ◌++◌, ◌∷◌, ℕ, List, [], Bool, Option, None, Some, Result}
use Rattle.std.specs.Prelude.{⊤, codes}
use Rattle.sqlite.specs.Store.{Ghosts}
use Rattle.pgcommand.specs.declared.limits.Limits.{Limits}
use Rattle.pgorder.specs.declared.Version.{Version}
use Rattle.pgfeed.specs.declared.fault.FeedFault.{FeedFault}
use Rattle.pgfeed.specs.declared.fault.FeedFault.TheVariants as feed
use Rattle.pgfeed.specs.declared.feed.Feed.{Feed}
use Rattle.pgfeed.specs.Beside.{KeepsRest, LastsFrom, is_stuck_feed, told_from}
use Rattle.pgfeed.specs.Feeds.{ReopensAt}
use Rattle.pgfollow.specs.declared.fault.FollowFault.{FollowFault}
use Rattle.pgledger.specs.declared.recorded.Recorded.{Recorded}
use Rattle.pgstore.specs.StoreValue.{StoreValue, HasTables, IsHonest, Serves}
use Rattle.pgstore.specs.Reopened.{Reopens}
use Rattle.pgsub_cli.specs.declared.fault.Ending.{Ending}
use Rattle.pgsub_cli.specs.declared.fault.RunFault.{RunFault}
use Rattle.pgsub_cli.specs.declared.storing.Incoming.{Incoming}
use Rattle.pgspooled.specs.declared.honesty.Honesty.{Honesty}
use Rattle.pgruns.specs.Filed.{FollowsTold, IsKept, position_of}
use Rattle.pgruns.specs.Recorded.{Applies, FollowsRecorded, HoldsRecorded, ReopensRecorded}

-- ---- why no feed is opened

-- the line of the fault on standard error
abbrev pub feed_line : FeedFault → List ℕ
feed_line feed.NotAFeed = codes "pgsub: feed 1 NotAFeed" ++ 10 ∷ []
feed_line feed.TooLong = codes "pgsub: feed 2 TooLong" ++ 10 ∷ []
feed_line feed.Refused = codes "pgsub: feed 3 Refused" ++ 10 ∷ []
feed_line feed.Memory = codes "pgsub: memory" ++ 10 ∷ []

-- the exit status of following: the folder is no feed of this store, or its files can't be used, or
-- memory ran out
abbrev pub status_of_unfed : FeedFault → ℕ
status_of_unfed feed.NotAFeed = 3
status_of_unfed feed.TooLong = 3
status_of_unfed feed.Refused = 13
status_of_unfed feed.Memory = 14

-- that of another run
abbrev pub status_of_unapplied : FeedFault → ℕ
status_of_unapplied feed.Memory = 1
status_of_unapplied _ = 3

-- standard error gets the line
abbrev pub TellsUnfed : {E : Type 0} → (E → List ℕ → E → Type 0) → (E → Type 0) → FeedFault → E → E → Type 0
TellsUnfed takes failed f old new = takes old (feed_line f) new ⊎ failed old

-- one was asked for, and none was opened
abbrev pub IsUnfed : {A B : Type 0} → Option A → Option B → Type 0
IsUnfed None kept = ⊥
IsUnfed (Some asked) None = ⊤
IsUnfed (Some asked) (Some feed) = ⊥

-- none was asked for, or it was opened
abbrev pub IsRun : {A B : Type 0} → Option A → Option B → Type 0
IsRun None kept = ⊤
IsRun (Some asked) None = ⊥
IsRun (Some asked) (Some feed) = ⊤

-- ---- a store with its feed, or with none

module _ {F D : Type 0} (seen : D → List ℕ) (may_leave : D → List ℕ → Type 0) (is_clean : D → Bool) (is_true : F → Type 0)
    (places : F → List ℕ) (has : F → ℕ → List ℕ → Type 0) where
  module _ {P S : Type 0} (supposed : Type 0) (opens : P → ℕ → Feed F D → Type 0) (g : Ghosts S) where
    -- A server was followed over the opened store: where no feed was asked for, over that alone,
    -- and else with the feed that was opened beside it, as `opens` says. Then the same is said of
    -- the store; and of the feed's entries where that is so which is supposed of its folder.
    abbrev pub FollowsBeside : {M : Type 0} → (L : Type 0) → Option M → Option (List ℕ) → Option (List ℕ) → ℕ → Option (List ℕ)
        → Option (List ℕ) → Limits → Version → Option FollowFault → StoreValue S → StoreValue S → Honesty → Option P → Option (Feed F D)
        → Type 0
    FollowsBeside L spool unread rest reads wrote wrote' limits version why opened ended honesty None kept =
        (kept ≡ None)
        × (IsKept g spool honesty ended
        → FollowsTold g L spool unread rest reads wrote wrote' limits version opened ended honesty why)
    FollowsBeside L spool unread rest reads wrote wrote' limits version why opened ended honesty (Some plan) None = ⊥
    FollowsBeside L spool unread rest reads wrote wrote' limits version why opened ended honesty (Some plan) (Some feed) =
        (begun : Feed F D) × opens plan opened.position begun
        × (IsKept g spool honesty ended
        → FollowsRecorded g supposed told_from (KeepsRest seen may_leave is_clean is_true places has)
        (LastsFrom seen may_leave is_clean is_true places has) is_stuck_feed (ReopensAt seen may_leave is_clean is_true places has) L spool
        unread rest reads wrote wrote' limits version opened begun ended feed honesty why)

    module _ {R W : Type 0} (gives starts : R → List ℕ → Type 0) (unread : R → Type 0) (takes : W → List ℕ → W → Type 0)
        (failed : W → Type 0) where
      -- what came was applied to it so
      abbrev pub AppliesBeside : Limits → Option (Version × Incoming R) → Result Ending RunFault → W → W → StoreValue S → StoreValue S
          → Option P → Option (Feed F D) → Type 0
      AppliesBeside limits input why out out' opened ended None kept =
          (kept ≡ None)
          × Applies (IsHonest g) (Serves g) (HasTables g) position_of (Reopens g g) gives starts unread takes failed limits input opened
          ended why out out'
      AppliesBeside limits input why out out' opened ended (Some plan) None = ⊥
      AppliesBeside limits input why out out' opened ended (Some plan) (Some feed) =
          (begun : Feed F D) × opens plan opened.position begun × (from : ℕ)
          × Applies {C = Recorded (StoreValue S) (Feed F D)} (λ r. IsHonest g r.store) (λ r. Serves g r.store)
          (HoldsRecorded g supposed told_from (KeepsRest seen may_leave is_clean is_true places has)
          (LastsFrom seen may_leave is_clean is_true places has) is_stuck_feed) (λ r. r.store.position)
          (ReopensRecorded g supposed (ReopensAt seen may_leave is_clean is_true places has)) gives starts unread takes failed limits input
          (record { store = opened; ledger = begun; from = opened.position })
          (record { store = ended; ledger = feed; from = from }) why out out'
