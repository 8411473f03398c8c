-- How a run ends that follows a server, and what its store holds then.
use Rattle.std.specs.Prelude.{◌≡◌, ⊤, ℕ, List, Option, None, Some, Result, Ok, Err, IsTrue}
use Rattle.pgcommand.specs.declared.limits.Limits.{Limits}
use Rattle.pgorder.specs.declared.Version.{Version}
use Rattle.pgapply.specs.Tallies.{Tally}
use Rattle.pgapply.specs.Value.{Tables}
use Rattle.pgsub_core.specs.declared.fault.Fault.TheVariants as fault
use Rattle.pgsub_core.specs.Subscriber.SubscriberValue.{SubscriberValue, seen}
use Rattle.pgfollow.specs.declared.fault.FollowFault.{FollowFault}
use Rattle.pgfollow.specs.declared.fault.FollowFault.TheVariants as follow
use Rattle.pgfollow.specs.Told.{FollowsLive}
use Rattle.pgspooled.specs.declared.honesty.Honesty.{Honesty}
use Rattle.pgspooled.specs.declared.spooled.Spooled.{Spooled}
use Rattle.pgsub_cli.specs.declared.fault.Ending.{Ending}
use Rattle.pgsub_cli.specs.declared.fault.Ending.TheVariants.{Done}
use Rattle.pgsub_cli.specs.declared.fault.RunFault.{RunFault}
use Rattle.pgsub_cli.specs.declared.fault.RunFault.TheVariants as run
use Rattle.pgsub_cli.specs.Followed.{subscriber_over}

-- how a run ends whose following was ended by this fault, or by none
abbrev pub ending_of : Option FollowFault → Result Ending RunFault
ending_of None = Ok Done
ending_of (Some follow.Read) = Err (run.Stream fault.Read)
ending_of (Some follow.Write) = Err run.CannotWrite
ending_of (Some (follow.Stream f)) = Err (run.Stream f)

-- A subscriber over the one store, within these limits, followed a server; its store is then the
-- other.
abbrev pub FollowsOver : {C : Type 0} → (C → Tables → Type 0) → (C → ℕ) → (C → C → Type 0) → (C → Type 0) → (C → Tally) → Option (List ℕ)
    → Option (List ℕ) → ℕ → Option (List ℕ) → Option (List ℕ) → Limits → Version → C → C → Option FollowFault → Type 0
FollowsOver {C} holds place reopens serves count unread rest reads wrote wrote' limits version store store' ended =
    (old : SubscriberValue C) × (new : SubscriberValue C) × (old.applied.store ≡ store) × (new.applied.store ≡ store')
    × ((tables : Tables) → seen place old tables ≡ subscriber_over limits tables (place store) version)
    × FollowsLive holds place reopens serves count unread rest reads wrote wrote' old new ended

-- ---- with the changes of open transactions in memory, or in memory and a file

-- Reading or writing what is buffered may fail where a file is named.
abbrev pub may_fail_over : {P : Type 0} → Option P → Type 0
may_fail_over None = ⊥
may_fail_over (Some file) = ⊤

-- What was read of the file, where one is named, is what was written to it.
abbrev pub IsReadBack : {P : Type 0} → Option P → Honesty → Type 0
IsReadBack None honesty = ⊤
IsReadBack (Some file) honesty = IsTrue honesty.is_true

module _ {C : Type 0} (holds : C → Tables → Type 0) (place : C → ℕ) (reopens : C → C → Type 0) (serves : C → Type 0)
    (count : C → Tally) where
  -- `FollowsOver`, of a store beside which it is noted whether what is read of the file is what was
  -- written to it: it serves while that is so.
  abbrev pub FollowsSpooled : Option (List ℕ) → Option (List ℕ) → ℕ → Option (List ℕ) → Option (List ℕ) → Limits → Version → C → C
      → Honesty → Option FollowFault → Type 0
  FollowsSpooled unread rest reads wrote wrote' limits version store store' honesty ended =
      (first : Spooled C) × (last : Spooled C) × (first.store ≡ store) × (last.store ≡ store') × (last.honesty ≡ honesty)
      × FollowsOver {C = Spooled C} (λ s. holds s.store) (λ s. place s.store) (λ s other. reopens s.store other.store)
      (λ s. serves s.store × IsTrue s.honesty.is_true) (λ s. count s.store) unread rest reads wrote wrote' limits version first last ended

  -- what is said, by whether a file is named
  abbrev pub FollowsBuffered : {P : Type 0} → Option P → Option (List ℕ) → Option (List ℕ) → ℕ → Option (List ℕ) → Option (List ℕ)
      → Limits → Version → C → C → Honesty → Option FollowFault → Type 0
  FollowsBuffered None unread rest reads wrote wrote' limits version store store' honesty ended =
      FollowsOver holds place reopens serves count unread rest reads wrote wrote' limits version store store' ended
  FollowsBuffered (Some file) unread rest reads wrote wrote' limits version store store' honesty ended =
      FollowsSpooled unread rest reads wrote wrote' limits version store store' honesty ended
