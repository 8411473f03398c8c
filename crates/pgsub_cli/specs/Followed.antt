-- What following sessions leaves of a new subscriber, and what is printed of it.
use Rattle.std.specs.Prelude.{◌≡◌, ℕ, List, Option}
use Rattle.std.specs.FinMap as map
use Rattle.pgcommand.specs.declared.limits.Limits.{Limits}
use Rattle.pgorder.specs.declared.Version.{Version}
use Rattle.pgapply.specs.Dump.{dump}
use Rattle.pgapply.specs.Value.{Tables}
use Rattle.pgsub_core.specs.declared.fault.Fault.{Fault}
use Rattle.pgsub_core.specs.Server.History.{Transaction}
use Rattle.pgsub_core.specs.Server.Stream.{Sent}
use Rattle.pgsub_core.specs.Subscriber.Subscribed.{Subscribed, newly}
use Rattle.pgsub_core.specs.Subscriber.Safely.{IsSent}
use Rattle.pgsub_core.specs.Subscriber.Handled.{IsFollowed}
use Rattle.pgsub_core.specs.Subscriber.Following.{AreFed}
use Rattle.pgsub_cli.specs.DumpText.{dump_of, resumed_of}
use Rattle.pgsub_cli.specs.Limits.{clock, longest_within}

-- over an empty store, within these limits
abbrev pub new_subscriber : Limits → Version → Subscribed
new_subscriber limits version = newly map.empty 0 version (longest_within limits) limits.max_buffered

-- over a store with these tables at this position
abbrev pub subscriber_over : Limits → Tables → ℕ → Version → Subscribed
subscriber_over limits tables position version = newly tables position version (longest_within limits) limits.max_buffered

-- The bytes of these sessions lead from one state to another, and this fault stopped them, if one
-- did. Of whatever history they are the sessions, they were followed.
pub record LeadsTo (old : Subscribed) (sessions : List (List ℕ)) (stopped : Option Fault) (state : Subscribed) : Type 0 where
  pub fed : AreFed clock old sessions state stopped
  pub followed :
      (history : List Transaction) (all_complete : List (List Sent)) → IsSent history old sessions all_complete
      → IsFollowed clock history sessions all_complete old state stopped

-- they leave this state of a new subscriber
abbrev pub Leaves : Limits → Version → List (List ℕ) → Option Fault → Subscribed → Type 0
Leaves limits version sessions stopped state = LeadsTo (new_subscriber limits version) sessions stopped state

-- the lines of the rows and the position
abbrev pub lines_of : Subscribed → List ℕ
lines_of state = dump_of (dump state.tables) state.position

-- the position, and the LSN up to which it may be confirmed
abbrev pub resumed_lines_of : Subscribed → List ℕ
resumed_lines_of state = resumed_of state.position state.confirmed

-- These lines are told of the state to which the sessions lead from this one, where this stops
-- them.
abbrev pub PrintsLed : (Subscribed → List ℕ) → Subscribed → List (List ℕ) → Option Fault → List ℕ → Type 0
PrintsLed tells old sessions stopped lines = (state : Subscribed) × LeadsTo old sessions stopped state × (lines ≡ tells state)

module _ {C : Type 0} (holds : C → Tables → Type 0) (place : C → ℕ) where
  -- so it is from whatever tables the store holds on, and its position
  abbrev pub PrintsFrom : (Subscribed → List ℕ) → Limits → Version → C → List (List ℕ) → Option Fault → List ℕ → Type 0
  PrintsFrom tells limits version store sessions stopped lines =
      (tables : Tables) → holds store tables → PrintsLed tells (subscriber_over limits tables (place store) version) sessions stopped lines
