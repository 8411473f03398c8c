-- Part of the statement. PostgreSQL documentation, Streaming Replication Protocol, Standby status
-- update: that what is told of a history is stored.
use Rattle.std.specs.Prelude.{◌≡◌, ◌≢◌, ◌≤◌, ◌⊎◌, ◌++◌, ℕ, ℤ, List, [], ◌∷◌, Option, Some, None}
use Rattle.std.specs.Prelude.{if◌then◌else◌}
use Rattle.std.specs.List.{flat_map}
use Rattle.pgwire.specs.Frames as wire
use Rattle.pgwire.specs.Statuses.{status_frame}
use Rattle.pgwire.specs.declared.status.Status.{Status}
use Rattle.pgapply.specs.Tallies.{Tally}
use Rattle.pgapply.specs.Value.{Tables}
use Rattle.pgsub_core.specs.declared.fault.Fault.{Fault}
use Rattle.pgsub_core.specs.declared.fault.Fault.TheVariants as fault
use Rattle.pgsub_core.specs.Server.History.{Transaction}
use Rattle.pgsub_core.specs.Server.Stream.{Sent}
use Rattle.pgsub_core.specs.Subscriber.Causes.{OutOfMemory, SpoolFailed, StatementRefused, cause}
use Rattle.pgsub_core.specs.Subscriber.Safely.{IsSent}
use Rattle.pgsub_core.specs.Subscriber.Confirming.{AreSafeReplies}
use Rattle.pgsub_core.specs.Machine.Feeding.{waiting, done_frames, IsFedUntil}
use Rattle.pgsub_core.specs.Subscriber.Subscribed.{Subscribed, IsSafeFor}
use Rattle.pgsub_core.specs.Subscriber.Crashing.{IsLeftSafely}
use Rattle.pgsub_core.specs.Subscriber.Tallied.{CountsHistory}
use Rattle.pgsub_core.specs.Subscriber.SubscriberValue.{SubscriberValue, seen}
use Rattle.pgfollow.specs.declared.fault.FollowFault.{FollowFault}
use Rattle.pgfollow.specs.declared.fault.FollowFault.TheVariants as follow
use Rattle.pgfollow.specs.Live.{IsGreeted, LiveEnds, Step, StopsGreeting, due, status_at, told_of}
use Rattle.pgfollow.specs.Live.{told_in}

-- ---- the statuses, of any bytes

-- Each status confirms as flushed what it confirms as applied, and no less than the one before it:
-- from this LSN up to that one.
abbrev pub Rises : ℕ → List Status → ℕ → Type 0
Rises low [] high = low ≤ high
Rises low (status ∷ statuses) high = (status.applied ≡ status.flushed) × (low ≤ status.flushed) × Rises status.flushed statuses high

-- these bytes are the frames of such statuses, and nothing else
pub record AreRising (low : ℕ) (bytes : List ℕ) (high : ℕ) : Type 0 where
  pub statuses : List Status
  pub are : bytes ≡ flat_map status_frame statuses
  pub rise : Rises low statuses high

-- ---- the sessions

-- Each session's bytes: the parts up to one with which it ends. What comes behind the last part
-- belongs to the last session.
abbrev pub sessions_from : {C : Type 0} → List ℕ → List (Step C) → List ℕ → List (List ℕ)
sessions_from begun [] pending = (begun ++ pending) ∷ []
sessions_from begun (step ∷ steps) pending =
    if step.ends then (begun ++ step.part) ∷ sessions_from [] steps pending else sessions_from (begun ++ step.part) steps pending

-- the subscriber at the start of the last of them
abbrev pub session_start : {C : Type 0} → SubscriberValue C → List (Step C) → SubscriberValue C
session_start s [] = s
session_start s (step ∷ steps) = session_start (if step.ends then step.after else s) steps

-- wherever feeding the part stops, the frames that are taken of it stand in these bytes too
abbrev pub HaveTaken : Subscribed → List ℕ → List ℕ → Type 0
HaveTaken s part bytes =
    (now : ℤ) (new : Subscribed) (fed : IsFedUntil now s part new fault.Memory)
    → (rest : List ℕ) × (waiting s bytes ≡ wire.frames (done_frames s ++ fed.fs) ++ rest)

-- so they do in the part itself, whatever comes behind it,
abbrev pub PartHasTaken : Type 0
PartHasTaken = (s : Subscribed) (part more : List ℕ) → HaveTaken s part (part ++ more)

-- and in what of it comes before a frame that has a fault, if that isn't a refusal of the store's
-- own or a failure of the spools
abbrev pub TakenBeforeFault : Type 0
TakenBeforeFault =
    (now : ℤ) (s new : Subscribed) (bytes more rest : List ℕ) (f : Fault) → (cause f ≢ OutOfMemory) → (cause f ≢ StatementRefused)
    → (cause f ≢ SpoolFailed) → (fed : IsFedUntil now s (bytes ++ more) new f)
    → waiting s bytes ≡ wire.frames (done_frames s ++ fed.fs) ++ rest
    → HaveTaken s (bytes ++ more) bytes

-- The sessions of these parts and of one part more, which belongs to the last one. In place of the
-- last one's bytes stand some that have all that is taken of it.
pub record HaveAllTaken {C : Type 0} (holds : C → Tables → Type 0) (place : C → ℕ) (start : SubscriberValue C) (steps : List (Step C))
    (part : List ℕ) (sessions : List (List ℕ)) : Type 0 where
  pub ended : List (List ℕ)
  pub last : List ℕ
  pub bytes : List ℕ
  pub came : sessions_from [] steps part ≡ ended ++ last ∷ []
  pub are : sessions ≡ ended ++ bytes ∷ []
  pub taken : (tables : Tables) → holds (session_start start steps).applied.store tables
      → HaveTaken (seen place (session_start start steps) tables) last bytes

module _ {C : Type 0} (holds : C → Tables → Type 0) (place : C → ℕ) (reopens : C → C → Type 0) where
  -- The store holds exactly the history's rows up to its position, and every transaction that
  -- changes rows and ends by what is confirmed is among them.
  abbrev pub HoldsSafely : List Transaction → SubscriberValue C → Type 0
  HoldsSafely history s = (tables : Tables) × holds s.applied.store tables × IsSafeFor history (seen place s tables)

  -- whatever a crash leaves of it now holds the history's rows up to a position, with all that is
  -- confirmed
  abbrev pub LeavesSafely : List Transaction → SubscriberValue C → Type 0
  LeavesSafely history s = (other : C) → reopens s.applied.store other → IsLeftSafely holds place history s other

  -- These bytes are statuses. Every transaction that changes rows and ends by what one confirms is
  -- stored when it is written, and in whatever a crash leaves then.
  pub record IsToldSafely (history : List Transaction) (s : SubscriberValue C) (told : List ℕ) : Type 0 where
    pub rows : HoldsSafely history s
    pub statuses : (tables : Tables) → AreSafeReplies history (record (seen place s tables) { replies = told })
    pub left : LeavesSafely history s

  -- after each part
  abbrev pub AreToldSafely : List Transaction → SubscriberValue C → List (Step C) → Type 0
  AreToldSafely history old [] = Unit {0}
  AreToldSafely history old (step ∷ steps) = IsToldSafely history step.fed (told_of old step) × AreToldSafely history step.after steps

  -- Of whatever history the sessions are, and whatever tables the store held before:
  pub record TellsSafely (serves : C → Type 0) (old start : SubscriberValue C) (first : List ℕ) (steps : List (Step C)) (part : List ℕ)
      (new : SubscriberValue C) : Type 0 where
    -- as long as they are, whatever comes later: the store holds the history's rows at the start
    -- and after each part, and what is told then is stored
    pub told : (history : List Transaction) (all_complete : List (List Sent)) (tables : Tables) (front later : List (Step C))
        → steps ≡ front ++ later → holds old.applied.store tables
        → IsSent history (seen place old tables) (sessions_from [] front []) all_complete
        → IsToldSafely history start first × AreToldSafely history start front
    -- as far as they are taken: so it does at the end, and what a crash leaves then has all that is
    -- confirmed
    pub at_end : (history : List Transaction) (all_complete : List (List Sent)) (tables : Tables) (sessions : List (List ℕ))
        → HaveAllTaken holds place start steps part sessions → holds old.applied.store tables
        → IsSent history (seen place old tables) sessions all_complete
        → (serves new.applied.store → HoldsSafely history new) × LeavesSafely history new

  -- Of any bytes: all that is told after the first status, after these parts, is statuses that
  -- rise.
  abbrev pub TellsRising : SubscriberValue C → List (Step C) → SubscriberValue C → Type 0
  TellsRising start steps mid = (tables : Tables) → holds start.applied.store tables
      → AreRising start.applied.confirmed (told_in start steps) mid.applied.confirmed

-- ---- how following ends

abbrev pub first_status : {C : Type 0} → SubscriberValue C → ℤ → List ℕ
first_status start now = status_frame (status_at now start)

module _ {C : Type 0} (holds : C → Tables → Type 0) (place : C → ℕ) (reopens : C → C → Type 0) (serves : C → Type 0) (count : C → Tally)
    (unread rest : Option (List ℕ)) (reads : ℕ) (wrote wrote' : Option (List ℕ)) (old new : SubscriberValue C) where
  -- the parts that were followed
  abbrev pub steps_in : (ended : Option FollowFault)
      → LiveEnds holds place reopens serves count unread rest reads wrote wrote' old new ended → List (Step C)
  steps_in None e = e.0.steps
  steps_in (Some follow.Read) e = e.steps
  steps_in (Some follow.Write) e = e.4.steps
  steps_in (Some (follow.Stream f)) e = e.4.steps

  -- the part that stopped it
  abbrev pub part_in : (ended : Option FollowFault)
      → LiveEnds holds place reopens serves count unread rest reads wrote wrote' old new ended → List ℕ
  part_in None e = []
  part_in (Some follow.Read) e = []
  part_in (Some follow.Write) e = e.2
  part_in (Some (follow.Stream f)) e = e.2

  -- the subscriber behind them
  abbrev pub mid_in : (ended : Option FollowFault) → LiveEnds holds place reopens serves count unread rest reads wrote wrote' old new ended
      → SubscriberValue C
  mid_in None e = new
  mid_in (Some follow.Read) e = new
  mid_in (Some follow.Write) e = e.0
  mid_in (Some (follow.Stream f)) e = e.0

  -- Where writing what is told of the last part failed: all of that, of which a front is written,
  -- rises behind what was told before, and was stored.
  abbrev pub LastIsSafe : SubscriberValue C → (ended : Option FollowFault)
      → LiveEnds holds place reopens serves count unread rest reads wrote wrote' old new ended → Type 0
  LastIsSafe before (Some follow.Write) e =
      ((tables : Tables) → holds old.applied.store tables
      → AreRising old.applied.confirmed (told_in old e.4.steps ++ due e.5.0 e.0 e.5.2.fed) e.5.2.fed.applied.confirmed)
      × ((history : List Transaction) (all_complete : List (List Sent)) (tables : Tables) (sessions : List (List ℕ))
      → HaveAllTaken holds place old e.4.steps e.2 sessions → holds before.applied.store tables
      → IsSent history (seen place before tables) sessions all_complete
      → IsToldSafely holds place reopens history e.5.2.fed (due e.5.0 e.0 e.5.2.fed))
  LastIsSafe before None e = Unit {0}
  LastIsSafe before (Some follow.Read) e = Unit {0}
  LastIsSafe before (Some (follow.Stream f)) e = Unit {0}

module _ {C : Type 0} (holds : C → Tables → Type 0) (place : C → ℕ) (reopens : C → C → Type 0) (serves : C → Type 0) (count : C → Tally)
    (unread rest : Option (List ℕ)) (reads : ℕ) (wrote wrote' : Option (List ℕ)) (old new : SubscriberValue C) where
  -- The first status isn't told: nothing is read, and the store is as it was.
  abbrev pub NotGreeted : Option FollowFault → Type 0
  NotGreeted ended = (f : FollowFault) × (ended ≡ Some f) × StopsGreeting place wrote wrote' old f × (new.applied.store ≡ old.applied.store)
      × (rest ≡ unread)

  -- The first status is told, that of the opened store. Then parts are fed as they come, and told.
  -- All statuses rise, and what they confirm of a history is stored when they are written, and
  -- stays so whatever a crash leaves; the store holds the history's rows then. While it serves, the
  -- history's transactions up to its position have come to its tally at the end, one by one.
  abbrev pub FollowsLive : Option FollowFault → Type 0
  FollowsLive ended =
      NotGreeted ended
      ⊎ ((start : SubscriberValue C) × (w : Option (List ℕ)) × (greeted : IsGreeted place wrote w old start)
      × (e : LiveEnds holds place reopens serves count unread rest reads w wrote' start new ended)
      × TellsRising holds place reopens start (steps_in holds place reopens serves count unread rest reads w wrote' start new ended e)
      (mid_in holds place reopens serves count unread rest reads w wrote' start new ended e)
      × LastIsSafe holds place reopens serves count unread rest reads w wrote' start new old ended e
      × TellsSafely holds place reopens serves old start (first_status start greeted.1.0)
      (steps_in holds place reopens serves count unread rest reads w wrote' start new ended e)
      (part_in holds place reopens serves count unread rest reads w wrote' start new ended e) new
      × (serves new.applied.store → (sessions : List (List ℕ))
      → HaveAllTaken holds place start (steps_in holds place reopens serves count unread rest reads w wrote' start new ended e)
      (part_in holds place reopens serves count unread rest reads w wrote' start new ended e) sessions
      → CountsHistory holds place count old sessions new))
