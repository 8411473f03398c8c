-- Part of the statement.
-- How two subscribers are compared, by rows and positions.
use Rattle.std.specs.Prelude.{◌≡◌, ◌⊎◌, ◌&&◌, ◌==◌, ℕ, ℤ, List, Bool, Option, Some, None, Result}
use Rattle.std.specs.Prelude.{Ok, Err, IfOk, nat_eq, codes, if◌then◌else◌}
use Rattle.std.specs.Cmp.Lexicographic.{pointwise}
use Rattle.pgtuple.specs.Equal.{cell_eq}
use Rattle.pgapply.specs.Value.{Tables}
use Rattle.pgapply.specs.Dump.{dump}
use Rattle.pgapply.specs.declared.rows.DumpRow.{DumpRow}
use Rattle.pgsub_core.specs.declared.converging.ConvergeFault.{ConvergeFault}
use Rattle.pgsub_core.specs.declared.converging.Side.{Side}
use Rattle.pgsub_core.specs.declared.converging.Side.TheVariants.{Left, Right}
use Rattle.pgsub_core.specs.declared.converging.Verdict.{Verdict}
use Rattle.pgsub_core.specs.declared.converging.Verdict.TheVariants.{Same, Positions}
use Rattle.pgsub_core.specs.declared.fault.Fault.{Fault}
use Rattle.pgsub_core.specs.Machine.Faults.{IsReadFault}
use Rattle.pgsub_core.specs.Server.History.{Transaction}
use Rattle.pgsub_core.specs.Server.Stream.{Sent}
use Rattle.pgsub_core.specs.Server.Sessions.{reached_all}
use Rattle.pgsub_core.specs.Subscriber.Subscribed.{Subscribed, progress_of}
use Rattle.pgsub_core.specs.Subscriber.Safely.{IsSent}
use Rattle.pgsub_core.specs.Subscriber.SubscriberValue.{SubscriberValue, seen}
use Rattle.pgsub_core.specs.Subscriber.Following.{AreFed}
use Rattle.pgsub_core.specs.Subscriber.Verdicts.{IsVerdict, LeftIsFollowed, RightIsFollowed}

abbrev pub same_row : DumpRow → DumpRow → Bool
same_row a b = (a.oid == b.oid)
    && (pointwise nat_eq a.namespace b.namespace
    && (pointwise nat_eq a.name b.name && (pointwise cell_eq a.cells b.cells && (a.copies == b.copies))))

-- a side as it is printed
abbrev pub side_text : Side → List ℕ
side_text Left = codes "left"
side_text Right = codes "right"

-- the fault of a side where the comparison ends with one
abbrev pub failed_side : Result Verdict ConvergeFault → Option (Side × Fault)
failed_side (Ok v) = None
failed_side (Err f) = Some (f.side, f.fault)

-- what holds where the comparison came to the right side: it ends with no fault, or with one of the
-- right
abbrev pub OnceLeftIsRead : Type 0 → Option (Side × Fault) → Type 0
OnceLeftIsRead P None = P
OnceLeftIsRead P (Some (Left, f)) = Unit {0}
OnceLeftIsRead P (Some (Right, f)) = P

-- what holds where it ends with no fault
abbrev pub OnceBothAreRead : Type 0 → Option (Side × Fault) → Type 0
OnceBothAreRead P None = P
OnceBothAreRead P (Some f) = Unit {0}

-- how two replicas of one history compare that stand at these positions
abbrev pub agreed : ℕ → ℕ → Verdict
agreed p q = if p == q then Same p else Positions p q

-- the position that these messages reach
abbrev pub position_reached : Subscribed → List (List Sent) → ℕ
position_reached old all_complete = (reached_all (progress_of old) all_complete).position

module _ {C : Type 0} (holds : C → Tables → Type 0) (place : C → ℕ) (now : ℤ) where
  -- sessions were fed, and these are the rows behind them
  abbrev pub ShowsFed : SubscriberValue C → List (List ℕ) → SubscriberValue C → List DumpRow → Type 0
  ShowsFed old sessions new rows =
      (tables : Tables) → holds old.applied.store tables
      → (tables' : Tables) × holds new.applied.store tables' × AreFed now (seen place old tables) sessions (seen place new tables') None
      × (rows ≡ dump tables')

  -- feeding them stopped, or reading the rows behind them was refused
  abbrev pub FailsFed : SubscriberValue C → List (List ℕ) → SubscriberValue C → Fault → Type 0
  FailsFed old sessions new f =
      (tables : Tables) → holds old.applied.store tables
      → (tables' : Tables) × holds new.applied.store tables'
      × (AreFed now (seen place old tables) sessions (seen place new tables') (Some f)
      ⊎ (IsReadFault f × AreFed now (seen place old tables) sessions (seen place new tables') None))

  -- Whatever tables a side's store held, it holds others, with which this side was followed, where
  -- the comparison ends with this fault.
  abbrev pub FollowsLeft : SubscriberValue C → List (List ℕ) → SubscriberValue C → Option (Side × Fault) → Type 0
  FollowsLeft old sessions new answered =
      (tables : Tables) → holds old.applied.store tables
      → (tables' : Tables) × holds new.applied.store tables'
      × LeftIsFollowed now sessions (seen place old tables) (seen place new tables') answered

  abbrev pub FollowsRight : SubscriberValue C → List (List ℕ) → SubscriberValue C → Option (Side × Fault) → Type 0
  FollowsRight old sessions new answered =
      (tables : Tables) → holds old.applied.store tables
      → (tables' : Tables) × holds new.applied.store tables'
      × RightIsFollowed now sessions (seen place old tables) (seen place new tables') answered

module _ {C D : Type 0} (holds : C → Tables → Type 0) (place : C → ℕ) (holds' : D → Tables → Type 0) (place' : D → ℕ) (now : ℤ) where
  -- Whatever tables both stores held, they hold others, with which each side was followed and the
  -- answer is the verdict.
  abbrev pub Converges : SubscriberValue C → List (List ℕ) → SubscriberValue C → SubscriberValue D → List (List ℕ) → SubscriberValue D
      → Result Verdict ConvergeFault → Type 0
  Converges left left_sessions left' right right_sessions right' answered =
      (tables : Tables) → holds left.applied.store tables → (others : Tables) → holds' right.applied.store others
      → (tables' : Tables) × holds left'.applied.store tables' × (others' : Tables) × holds' right'.applied.store others'
      × LeftIsFollowed now left_sessions (seen place left tables) (seen place left' tables') (failed_side answered)
      × RightIsFollowed now right_sessions (seen place' right others) (seen place' right' others') (failed_side answered)
      × IfOk answered (IsVerdict (seen place left' tables') (seen place' right' others'))

module _ {C D : Type 0} (holds : C → Tables → Type 0) (place : C → ℕ) (holds' : D → Tables → Type 0) (place' : D → ℕ) where
  -- Where both sides are sent sessions of one history, all that is complete in them was handled,
  -- and after the same latest commit they have the same rows.
  abbrev pub Agree : SubscriberValue C → List (List ℕ) → SubscriberValue D → List (List ℕ) → Result Verdict ConvergeFault → Type 0
  Agree left left_sessions right right_sessions answered =
      (history : List Transaction) (left_complete right_complete : List (List Sent)) (tables others : Tables)
      → holds left.applied.store tables → holds' right.applied.store others
      → IsSent history (seen place left tables) left_sessions left_complete
      → IsSent history (seen place' right others) right_sessions right_complete
      → IfOk answered (λ v. v ≡ agreed (position_reached (seen place left tables) left_complete)
      (position_reached (seen place' right others) right_complete))
