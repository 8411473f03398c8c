-- Part of the statement. PostgreSQL documentation, Streaming Replication Protocol, Standby status
-- update: what following a server does, one part of its bytes after the other, and what is written
-- after each.
use Rattle.std.specs.Prelude.{◌≡◌, ◌≤◌, ◌⊎◌, ◌++◌, ◌-◌, ◌^◌, ℕ, ℤ, List, [], ◌∷◌, Bool, true, false}
use Rattle.std.specs.Prelude.{Option, Some, None, Result, Ok, Err, length, nat_eq, if◌then◌else◌}
use Rattle.std.specs.List.{AllByRecursion}
use Rattle.std.specs.Io.KnownBytes.{Appends, Consumes, IsAtEnd}
use Rattle.pgwire.specs.Statuses.{status_frame}
use Rattle.pgwire.specs.declared.status.Status.{Status}
use Rattle.pgapply.specs.Tallies.{Tally}
use Rattle.pgapply.specs.Value.{Tables}
use Rattle.pgsub_core.specs.declared.fault.Fault.{Fault}
use Rattle.pgsub_core.specs.declared.fault.Fault.TheVariants as fault
use Rattle.pgsub_core.specs.Machine.Faults.{IsOfFeedingOver}
use Rattle.pgsub_core.specs.Subscriber.Subscribed.{Subscribed, disconnect}
use Rattle.pgsub_core.specs.Subscriber.SubscriberValue.{SubscriberValue, seen, Feeds, FeedsUntil}
use Rattle.pgsub_core.specs.Machine.Counted.{FeedsCounted, FeedsCountedFront}
use Rattle.pgsub_core.specs.Subscriber.Crashing.{LeavesOldOr, FedOver, StandsAsFed}
use Rattle.pgfollow.specs.declared.fault.FollowFault.{FollowFault}
use Rattle.pgfollow.specs.declared.fault.FollowFault.TheVariants as follow

-- the most bytes that are read at once
abbrev pub piece_len : ℕ
piece_len = 1048576

-- the fault that a call gives, if one
abbrev pub ended_by : {A : Type 0} → Result A FollowFault → Option FollowFault
ended_by (Ok done) = None
ended_by (Err f) = Some f

-- Following ends with a read or a write that failed, or with what feeding an open subscriber can
-- return over spools that may fail as told.
abbrev pub IsOfFollowingOver : Type 0 → FollowFault → Type 0
IsOfFollowingOver may_fail (follow.Stream f) = IsOfFeedingOver may_fail f
IsOfFollowingOver may_fail f = Unit {0}

-- the same over spools that keep what is buffered in memory
abbrev pub IsOfFollowing : FollowFault → Type 0
IsOfFollowing f = IsOfFollowingOver ⊥ f

-- nothing is unread, or 2^64 - 1 reads were made
abbrev pub IsReadOut : Option (List ℕ) → ℕ → Type 0
IsReadOut rest reads = IsAtEnd rest ⊎ (2 ^ 64 - 1 ≤ reads)

-- some first bytes of these, or all
abbrev pub IsFront : List ℕ → List ℕ → Type 0
IsFront front bytes = (behind : List ℕ) × (bytes ≡ front ++ behind)

-- the status of a subscriber now: received as written, confirmed as flushed and as applied
abbrev pub status_at : {C : Type 0} → ℤ → SubscriberValue C → Status
status_at now s = record
    { written = s.applied.received; flushed = s.applied.confirmed; applied = s.applied.confirmed; clock = now; ask = false }

-- what is written where confirmed has moved from this, and where it hasn't
abbrev pub news : {C : Type 0} → ℤ → ℕ → SubscriberValue C → List ℕ
news now told s = if nat_eq s.applied.confirmed told then [] else status_frame (status_at now s)

-- A part of a session's bytes that is fed: when, the bytes, whether the session ends with them, and
-- the subscriber after them, before and after its statuses are written and the session is forgotten
-- where it ends.
pub record Step (C : Type 0) : Type 0 where
  pub now : ℤ
  pub part : List ℕ
  pub ends : Bool
  pub fed : SubscriberValue C
  pub after : SubscriberValue C

-- no more bytes than one read gives
abbrev pub IsShort : {C : Type 0} → Step C → Type 0
IsShort step = length step.part ≤ piece_len

-- the bytes that are to be written after a part: the replies that wait, and the status where
-- confirmed has moved
abbrev pub due : {C : Type 0} → ℤ → SubscriberValue C → SubscriberValue C → List ℕ
due now old fed = fed.applied.replies ++ news now old.applied.confirmed fed

abbrev pub told_of : {C : Type 0} → SubscriberValue C → Step C → List ℕ
told_of old step = due step.now old step.fed

-- as after a disconnection, over the same store
pub record IsStart {C : Type 0} (place : C → ℕ) (old start : SubscriberValue C) : Type 0 where
  pub store : start.applied.store ≡ old.applied.store
  pub state : (tables : Tables) → seen place start tables ≡ disconnect (seen place old tables)

-- the first status is told, that of the start
abbrev pub IsGreeted : {C : Type 0} → (C → ℕ) → Option (List ℕ) → Option (List ℕ) → SubscriberValue C → SubscriberValue C → Type 0
IsGreeted place wrote wrote' old start = IsStart place old start × ((now : ℤ) × Appends wrote wrote' (status_frame (status_at now start)))

-- Why it isn't told: there is no memory for it, or writing it failed.
abbrev pub StopsGreeting : {C : Type 0} → (C → ℕ) → Option (List ℕ) → Option (List ℕ) → SubscriberValue C → FollowFault → Type 0
StopsGreeting place wrote wrote' old follow.Read = ⊥
StopsGreeting {C} place wrote wrote' old follow.Write =
    (start : SubscriberValue C) × IsStart place old start × (now : ℤ) × (front : List ℕ)
    × IsFront front (status_frame (status_at now start)) × Appends wrote wrote' front
StopsGreeting place wrote wrote' old (follow.Stream f) = (f ≡ fault.Memory) × (wrote' ≡ wrote)

-- no status waits, and where the session ends it is forgotten
abbrev pub settled : Bool → Subscribed → Subscribed
settled false s = record s { replies = [] }
settled true s = disconnect s

abbrev pub parts_of : {C : Type 0} → List (Step C) → List ℕ
parts_of [] = []
parts_of (step ∷ steps) = step.part ++ parts_of steps

-- all that is written after these parts
abbrev pub told_in : {C : Type 0} → SubscriberValue C → List (Step C) → List ℕ
told_in old [] = []
told_in old (step ∷ steps) = told_of old step ++ told_in step.after steps

module _ {C : Type 0} (holds : C → Tables → Type 0) (place : C → ℕ) (reopens : C → C → Type 0) (serves : C → Type 0)
    (count : C → Tally) where
  -- the part was fed and its commits are in the tally, and this is what a crash may leave then
  pub record IsFedPart (now : ℤ) (old : SubscriberValue C) (part : List ℕ) (fed : SubscriberValue C) : Type 0 where
    pub feeds : Feeds holds place now old part fed
    pub counts : FeedsCounted holds place count now old part fed
    pub crash : LeavesOldOr place reopens serves (FedOver (λ s. FeedsUntil holds place now old part s fault.Memory)) old.applied.store
        fed.applied.store

  -- a session ends with the part that its CopyDone completes
  pub record IsStep (old : SubscriberValue C) (step : Step C) : Type 0 where
    pub is_fed : IsFedPart step.now old step.part step.fed
    pub ends : step.ends ≡ step.fed.framing.copy_done
    pub store : step.after.applied.store ≡ step.fed.applied.store
    pub state : (tables : Tables) → seen place step.after tables ≡ settled step.ends (seen place step.fed tables)

  abbrev pub AreSteps : SubscriberValue C → List (Step C) → SubscriberValue C → Type 0
  AreSteps old [] new = new ≡ old
  AreSteps old (step ∷ steps) new = IsStep old step × AreSteps step.after steps new

  -- Parts were read and fed, one after the other, and what was to be told of each was written.
  -- These bytes more were read. No more bytes are fed at once, and no more are read ahead, than one
  -- read gives.
  pub record LiveSteps (unread rest : Option (List ℕ)) (pending : List ℕ) (wrote wrote' : Option (List ℕ))
      (old new : SubscriberValue C) : Type 0 where
    pub steps : List (Step C)
    pub each : AllByRecursion IsShort steps
    pub ahead : length pending ≤ piece_len
    pub are : AreSteps old steps new
    pub read : Consumes unread rest (parts_of steps ++ pending)
    pub written : Appends wrote wrote' (told_in old steps)

  -- so was what was read at once
  pub record FollowsPiece (wrote wrote' : Option (List ℕ)) (piece : List ℕ) (old new : SubscriberValue C) : Type 0 where
    pub steps : List (Step C)
    pub are : AreSteps old steps new
    pub parts : parts_of steps ≡ piece
    pub written : Appends wrote wrote' (told_in old steps)

  -- a part was fed, and what is to be told of it was written
  abbrev pub IsFollowedPart : Option (List ℕ) → Option (List ℕ) → List ℕ → SubscriberValue C → SubscriberValue C → Type 0
  IsFollowedPart wrote wrote' part old new =
      (step : Step C) × (step.part ≡ part) × (step.after ≡ new) × IsStep old step × Appends wrote wrote' (told_of old step)

  -- Feeding a part stopped with this fault. The subscriber is as after what came before the first
  -- fault: where its store has shut, in all that outlives a disconnection but the rows.
  pub record IsUnfed (now : ℤ) (old : SubscriberValue C) (part : List ℕ) (new : SubscriberValue C) (f : Fault) : Type 0 where
    pub unclosed : old.framing.closed ≡ false
    pub until : serves new.applied.store → FeedsUntil holds place now old part new f
    pub counts : serves new.applied.store → FeedsCountedFront holds place count now old part new
    pub why : StandsAsFed place (λ s. FeedsUntil holds place now old part s f) new
    pub crash : LeavesOldOr place reopens serves (FedOver (λ s. FeedsUntil holds place now old part s fault.Memory)) old.applied.store
        new.applied.store

  -- A part was fed, and of what is to be told of it these first bytes were written.
  pub record IsUntold (now : ℤ) (old : SubscriberValue C) (part : List ℕ) (new : SubscriberValue C) (front : List ℕ) : Type 0 where
    pub fed : SubscriberValue C
    pub is_fed : IsFedPart now old part fed
    pub is_front : IsFront front (due now old fed)
    pub store : new.applied.store ≡ fed.applied.store
    pub confirmed : new.applied.confirmed ≡ fed.applied.confirmed

  -- Why what comes of a part isn't told, by the fault. Where there is no memory for the status,
  -- nothing is written.
  abbrev pub StopsPart : Option (List ℕ) → Option (List ℕ) → List ℕ → SubscriberValue C → SubscriberValue C → FollowFault → Type 0
  StopsPart wrote wrote' part old new follow.Read = ⊥
  StopsPart wrote wrote' part old new follow.Write =
      (now : ℤ) × (front : List ℕ) × IsUntold now old part new front × Appends wrote wrote' front
  StopsPart wrote wrote' part old new (follow.Stream f) =
      (wrote' ≡ wrote) × ((now : ℤ) × (IsUnfed now old part new f ⊎ ((f ≡ fault.Memory) × IsUntold now old part new [])))

  -- the first bytes of these can't be fed or told,
  abbrev pub StopsFront : Option (List ℕ) → Option (List ℕ) → List ℕ → SubscriberValue C → SubscriberValue C → FollowFault → Type 0
  StopsFront wrote wrote' bytes old new f =
      (part : List ℕ) × (later : List ℕ) × (bytes ≡ part ++ later) × StopsPart wrote wrote' part old new f

  -- or it stops behind some of them
  abbrev pub StopsPiece : Option (List ℕ) → Option (List ℕ) → List ℕ → SubscriberValue C → SubscriberValue C → FollowFault → Type 0
  StopsPiece wrote wrote' piece old new f =
      (mid : SubscriberValue C) × (w : Option (List ℕ)) × (front : List ℕ) × (bytes : List ℕ) × (piece ≡ front ++ bytes)
      × FollowsPiece wrote w front old mid × StopsFront w wrote' bytes mid new f

  abbrev pub LiveStops : Option (List ℕ) → Option (List ℕ) → Option (List ℕ) → Option (List ℕ) → SubscriberValue C → SubscriberValue C
      → FollowFault → Type 0
  LiveStops unread rest wrote wrote' old new f =
      (mid : SubscriberValue C) × (w : Option (List ℕ)) × (part : List ℕ) × (later : List ℕ)
      × LiveSteps unread rest (part ++ later) wrote w old mid × StopsPart w wrote' part mid new f

  -- How following ended: at the end of the bytes, or at a read that failed, where all that was read
  -- is fed and told; or with a part that couldn't be fed or told, before what was read with it.
  abbrev pub LiveEnds : Option (List ℕ) → Option (List ℕ) → ℕ → Option (List ℕ) → Option (List ℕ) → SubscriberValue C → SubscriberValue C
      → Option FollowFault → Type 0
  LiveEnds unread rest reads wrote wrote' old new None = LiveSteps unread rest [] wrote wrote' old new × IsReadOut rest reads
  LiveEnds unread rest reads wrote wrote' old new (Some follow.Read) = LiveSteps unread rest [] wrote wrote' old new
  LiveEnds unread rest reads wrote wrote' old new (Some follow.Write) = LiveStops unread rest wrote wrote' old new follow.Write
  LiveEnds unread rest reads wrote wrote' old new (Some (follow.Stream f)) = LiveStops unread rest wrote wrote' old new (follow.Stream f)
