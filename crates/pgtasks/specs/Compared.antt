-- How two subscribers compare once the sessions of both were followed, or which fault stopped one
-- of them.
use Rattle.std.specs.Prelude.{◌⊎◌, ℕ, List, Option, None, Some, Result, Ok, Err}
use Rattle.pgapply.specs.Value.{Tables}
use Rattle.pgsub_core.specs.declared.converging.ConvergeFault.{ConvergeFault}
use Rattle.pgsub_core.specs.declared.converging.Side.{Side}
use Rattle.pgsub_core.specs.declared.converging.Side.TheVariants.{Left, Right}
use Rattle.pgsub_core.specs.declared.converging.Verdict.{Verdict}
use Rattle.pgsub_core.specs.declared.fault.Fault.{Fault}
use Rattle.pgsub_core.specs.Machine.Faults.{IsReadFault}
use Rattle.pgsub_core.specs.Subscriber.Subscribed.{Subscribed}
use Rattle.pgsub_core.specs.Subscriber.SubscriberValue.{SubscriberValue, seen}
use Rattle.pgsub_core.specs.Subscriber.Verdicts.{IsVerdict, SideIsFollowed}
use Rattle.pgorder.specs.declared.Version.{Version}
use Rattle.pgsub_cli.specs.Followed.{new_subscriber}
use Rattle.pgsub_cli.specs.Limits.{clock, default_limits}

-- the sessions of a side lead to a state, this fault stopping them, if one does
abbrev pub Leads : Subscribed → List (List ℕ) → Option Fault → Type 0
Leads old sessions stopped = (state : Subscribed) × SideIsFollowed clock sessions old state stopped

-- they are stopped by this, or what they leave can't be read
abbrev pub Stops : Subscribed → List (List ℕ) → Fault → Type 0
Stops old sessions f = IsReadFault f ⊎ Leads old sessions (Some f)

-- The left one's sessions are followed and its rows read, and then the right one's.
abbrev pub StopsAt : Side → Subscribed → List (List ℕ) → Subscribed → List (List ℕ) → Fault → Type 0
StopsAt Left left sessions right others f = Stops left sessions f
StopsAt Right left sessions right others f = Leads left sessions None × Stops right others f

-- what both lead to has this verdict
abbrev pub LeadTo : Subscribed → List (List ℕ) → Subscribed → List (List ℕ) → Verdict → Type 0
LeadTo left sessions right others v =
    (state : Subscribed) × (other : Subscribed)
    × SideIsFollowed clock sessions left state None × SideIsFollowed clock others right other None × IsVerdict state other v

-- how the comparison ends
abbrev pub EndsWith : Subscribed → List (List ℕ) → Subscribed → List (List ℕ) → Result Verdict ConvergeFault → Type 0
EndsWith left sessions right others (Ok v) = LeadTo left sessions right others v
EndsWith left sessions right others (Err f) = StopsAt f.side left sessions right others f.fault

-- so it ends of two new subscribers
abbrev pub EndsOfNew : Version → List (List ℕ) → List (List ℕ) → Result Verdict ConvergeFault → Type 0
EndsOfNew version sessions others answered =
    EndsWith (new_subscriber default_limits version) sessions (new_subscriber default_limits version) others answered

module _ {C : Type 0} (holds : C → Tables → Type 0) (place : C → ℕ) where
  -- so it ends beside a new subscriber, whatever tables the left one's store held
  abbrev pub EndsBesideNew : Version → SubscriberValue C → List (List ℕ) → List (List ℕ) → Result Verdict ConvergeFault → Type 0
  EndsBesideNew version left sessions others answered =
      (tables : Tables) → holds left.applied.store tables
      → EndsWith (seen place left tables) sessions (new_subscriber default_limits version) others answered

module _ {C D : Type 0} (holds : C → Tables → Type 0) (place : C → ℕ) (holds' : D → Tables → Type 0) (place' : D → ℕ) where
  -- so it ends whatever tables both stores held
  abbrev pub EndsOver : SubscriberValue C → List (List ℕ) → SubscriberValue D → List (List ℕ) → Result Verdict ConvergeFault → Type 0
  EndsOver left sessions right others answered =
      (tables : Tables) → holds left.applied.store tables → (tables' : Tables) → holds' right.applied.store tables'
      → EndsWith (seen place left tables) sessions (seen place' right tables') others answered
