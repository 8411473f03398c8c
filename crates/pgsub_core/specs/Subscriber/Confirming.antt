-- Part of the statement. PostgreSQL documentation, Streaming Replication Protocol, Standby status
-- update: what a subscriber may confirm.
use Rattle.std.specs.Prelude.{◌≡◌, ◌≤◌, List}
use Rattle.std.specs.List.{AllByRecursion, flat_map}
use Rattle.pgwire.specs.Statuses.{status_frame}
use Rattle.pgwire.specs.declared.status.Status.{Status}
use Rattle.pgsub_core.specs.Server.History.{Transaction}
use Rattle.pgsub_core.specs.Subscriber.Safe.{NothingBetween}
use Rattle.pgsub_core.specs.Subscriber.Subscribed.{Subscribed}

-- A status confirms as flushed what it confirms as applied, and no more than is confirmed: every
-- transaction that changes rows and ends by that is stored.
pub record IsSafeStatus (history : List Transaction) (s : Subscribed) (status : Status) : Type 0 where
  pub same : status.applied ≡ status.flushed
  pub confirmed : status.flushed ≤ s.confirmed
  pub stored : NothingBetween history s.position status.flushed

-- The bytes that wait to be sent are such statuses.
pub record AreSafeReplies (history : List Transaction) (s : Subscribed) : Type 0 where
  pub statuses : List Status
  pub bytes : s.replies ≡ flat_map status_frame statuses
  pub each : AllByRecursion (IsSafeStatus history s) statuses
