-- Part of the statement.
-- How two subscribers compare.
use Rattle.std.specs.Prelude.{◌≡◌, ◌≢◌, ◌⊎◌, ℕ, ℤ, List, Option, Some, None}
use Rattle.pgapply.specs.Dump.{dump}
use Rattle.pgapply.specs.declared.rows.DumpRow.{DumpRow}
use Rattle.pgsub_core.specs.declared.converging.Side.{Side}
use Rattle.pgsub_core.specs.declared.converging.Side.TheVariants.{Left, Right}
use Rattle.pgsub_core.specs.declared.converging.Verdict.{Verdict}
use Rattle.pgsub_core.specs.declared.converging.Verdict.TheVariants.{Same, Positions, Rows}
use Rattle.pgsub_core.specs.declared.fault.Fault.{Fault}
use Rattle.pgsub_core.specs.Machine.Faults.{IsReadFault}
use Rattle.pgsub_core.specs.Server.History.{Transaction}
use Rattle.pgsub_core.specs.Server.Stream.{Sent}
use Rattle.pgsub_core.specs.Subscriber.Safely.{IsSent}
use Rattle.pgsub_core.specs.Subscriber.Handled.{IsFollowed}
use Rattle.pgsub_core.specs.Subscriber.Following.{AreFed}
use Rattle.pgsub_core.specs.Subscriber.Subscribed.{Subscribed, IsSafeFor}

-- of two positions and the rows at them: positions that differ, or equal ones with the same rows or
-- with rows that differ
abbrev pub IsVerdictOf : ℕ → ℕ → List DumpRow → List DumpRow → Verdict → Type 0
IsVerdictOf left right rows others (Same p) = (left ≡ p) × (right ≡ p) × (rows ≡ others)
IsVerdictOf left right rows others (Positions p q) = (left ≡ p) × (right ≡ q) × (p ≢ q)
IsVerdictOf left right rows others (Rows p) = (left ≡ p) × (right ≡ p) × (rows ≢ others)

-- what is answered of what both have
abbrev pub IsVerdict : Subscribed → Subscribed → Verdict → Type 0
IsVerdict left right v = IsVerdictOf left.position right.position (dump left.tables) (dump right.tables) v

-- One side was fed its sessions, and so followed, whatever history they are of.
pub record SideIsFollowed (now : ℤ) (sessions : List (List ℕ)) (old new : Subscribed) (answered : Option Fault) : Type 0 where
  pub fed : AreFed now old sessions new answered
  pub followed :
      (history : List Transaction) (all_complete : List (List Sent)) → IsSent history old sessions all_complete
      → IsFollowed now history sessions all_complete old new answered

-- The comparison ends with this fault of a side: of following its sessions, or of reading its rows
-- once all of them were followed.
abbrev pub SideFails : ℤ → List (List ℕ) → Subscribed → Subscribed → Fault → Type 0
SideFails now sessions old new f = SideIsFollowed now sessions old new (Some f) ⊎ (IsReadFault f × SideIsFollowed now sessions old new None)

-- What each side is where the comparison ends with this fault of this side. The left one's sessions
-- are followed and its rows read, and then the right one's, which isn't touched after a fault of
-- the left.
abbrev pub LeftIsFollowed : ℤ → List (List ℕ) → Subscribed → Subscribed → Option (Side × Fault) → Type 0
LeftIsFollowed now sessions old new None = SideIsFollowed now sessions old new None
LeftIsFollowed now sessions old new (Some (Left, f)) = SideFails now sessions old new f
LeftIsFollowed now sessions old new (Some (Right, f)) = SideIsFollowed now sessions old new None

abbrev pub RightIsFollowed : ℤ → List (List ℕ) → Subscribed → Subscribed → Option (Side × Fault) → Type 0
RightIsFollowed now sessions old new None = SideIsFollowed now sessions old new None
RightIsFollowed now sessions old new (Some (Left, f)) = new ≡ old
RightIsFollowed now sessions old new (Some (Right, f)) = SideFails now sessions old new f

-- Two subscribers have one verdict at most.
abbrev pub VerdictsAreOne : Type 0
VerdictsAreOne = (left right : Subscribed) (v w : Verdict) → IsVerdict left right v → IsVerdict left right w → v ≡ w

-- Replicas of one history never differ in rows at one position.
abbrev pub OneHistoryOneVerdict : Type 0
OneHistoryOneVerdict =
    (history : List Transaction) (left right : Subscribed) (v : Verdict) → IsSafeFor history left → IsSafeFor history right
    → IsVerdict left right v
    → ((p : ℕ) → v ≢ Rows p) × (left.position ≡ right.position → v ≡ Same left.position)
