-- Part of the statement. PostgreSQL documentation, Streaming Replication Protocol: what a
-- subscriber is, as its contracts see it.
use Rattle.std.specs.Prelude.{◌++◌, [], ℕ, ℤ, List, Bool, false, map as mapped}
use Rattle.std.specs.List.{flat_map}
use Rattle.std.specs.FinMap as map
use Rattle.pgorder.specs.declared.Version.{Version}
use Rattle.pgorder.specs.Steps.{OrderState, initial_order}
use Rattle.pgspool.specs.Labels.{HeldMap}
use Rattle.pgapply.specs.Value.{Tables}
use Rattle.pgwire.specs.Statuses.{status_frame}
use Rattle.pgwire.specs.declared.status.Status.{Status}
use Rattle.pgwire.specs.declared.session.Session.{Session}
use Rattle.pgsub_core.specs.Server.History.{Transaction}
use Rattle.pgsub_core.specs.Server.Reached.{Progress}
use Rattle.pgsub_core.specs.Machine.Replica.{Replica, RelationCache}
use Rattle.pgsub_core.specs.Machine.ApplyState.{ApplyState}
use Rattle.pgsub_core.specs.Subscriber.Safe.{IsSafe}

-- The store's tables and position; what is confirmed and received; the version, the longest payload
-- and the most that may be held; whether a fault has closed it; of this session the order of
-- messages, what is held of open transactions, the relation cache, the bytes of a frame that isn't
-- whole yet, and whether CopyDone has come; and the bytes that wait to be sent.
pub record Subscribed : Type 0 where
  pub tables : Tables
  pub position : ℕ
  pub confirmed : ℕ
  pub received : ℕ
  pub version : Version
  pub max_frame : ℕ
  pub limit : ℕ
  pub closed : Bool
  pub order : OrderState
  pub held : HeldMap
  pub relations : RelationCache
  pub partial : List ℕ
  pub copy_done : Bool
  pub replies : List ℕ

abbrev pub progress_of : Subscribed → Progress
progress_of s = record { position = s.position; confirmed = s.confirmed; received = s.received }

abbrev pub replica_of : Subscribed → Replica
replica_of s = record { tables = s.tables; position = s.position; confirmed = s.confirmed; relations = s.relations }

abbrev pub apply_state_of : Subscribed → ApplyState
apply_state_of s = record { order = s.order; held = s.held; replica = replica_of s }

-- the rows are the history's up to the position, with all that is confirmed
abbrev pub IsSafeFor : List Transaction → Subscribed → Type 0
IsSafeFor history s = IsSafe history s.tables s.position s.confirmed

-- Over a store with these tables and this position: nothing more is confirmed or received, and no
-- session has begun.
abbrev pub newly : Tables → ℕ → Version → ℕ → ℕ → Subscribed
newly tables position version max_frame limit = record {
  tables = tables;
  position = position;
  confirmed = position;
  received = position;
  version = version;
  max_frame = max_frame;
  limit = limit;
  closed = false;
  order = initial_order;
  held = map.empty;
  relations = map.empty;
  partial = [];
  copy_done = false;
  replies = [];
}

-- A disconnection forgets the partial frame, the order of messages, the relation cache, all that is
-- held and the bytes that wait to be sent. Received becomes what is confirmed.
abbrev pub disconnect : Subscribed → Subscribed
disconnect s = record s {
  received = s.confirmed;
  closed = false;
  order = initial_order;
  held = map.empty;
  relations = map.empty;
  partial = [];
  copy_done = false;
  replies = [];
}

-- a session's bytes, its pieces in one
abbrev pub session_bytes : Session → List ℕ
session_bytes session = flat_map (λ (piece : List ℕ). piece) session.pieces

-- those of each session
abbrev pub bytes_of : List Session → List (List ℕ)
bytes_of sessions = mapped session_bytes sessions

-- Standby status update: written is what was received, flushed and applied what is confirmed.
abbrev pub status_of : Subscribed → ℤ → Bool → Status
status_of s now ask = record { written = s.received; flushed = s.confirmed; applied = s.confirmed; clock = now; ask = ask }

-- with such a status behind the bytes that wait to be sent
abbrev pub with_status : ℤ → Bool → Subscribed → Subscribed
with_status now ask s = record s { replies = s.replies ++ status_frame (status_of s now ask) }
