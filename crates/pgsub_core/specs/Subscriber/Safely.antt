-- Part of the statement. PostgreSQL documentation, Streaming Replication Protocol and Logical
-- Replication, Architecture: what holds of a subscriber that has followed the sessions of a
-- history, whatever is answered: its rows, its position, what it confirms and what it has received.
use Rattle.std.specs.Prelude.{◌≡◌, ◌≤◌, ◌++◌, ℕ, List, [], ◌∷◌}
use Rattle.pgsub_core.specs.Server.History.{Transaction, IsHistory}
use Rattle.pgsub_core.specs.Server.Stream.{Sent}
use Rattle.pgsub_core.specs.Server.Sessions.{AreIncoming, starting_by, reached_all}
use Rattle.pgsub_core.specs.Subscriber.Safe.{NothingBetween}
use Rattle.pgsub_core.specs.Subscriber.Confirming.{AreSafeReplies}
use Rattle.pgsub_core.specs.Subscriber.Subscribed.{Subscribed, progress_of, IsSafeFor}

-- These sessions of this history come, these messages are complete in them, and the rows are the
-- history's before. They start at most at a place that is confirmed, or above it where nothing that
-- changes rows lies between. Each may end with something foreign.
pub record IsSent (history : List Transaction) (old : Subscribed) (sessions : List (List ℕ))
    (all_complete : List (List Sent)) : Type 0 where
  pub is_history : IsHistory history
  pub safe : IsSafeFor history old
  pub start : ℕ
  pub above : old.confirmed ≤ start
  pub nothing : NothingBetween history old.position start
  pub sent : AreIncoming old.version history (starting_by start (progress_of old)) sessions all_complete

-- what was handled: whole sessions, and then a front of one
abbrev pub IsHandled : List (List Sent) → List (List Sent) → Type 0
IsHandled [] all_complete = Unit {0}
IsHandled (front ∷ handled) [] = ⊥
IsHandled (front ∷ []) (complete ∷ all_complete) = (later : List Sent) × (complete ≡ front ++ later)
IsHandled (front ∷ next ∷ handled) (complete ∷ all_complete) = (front ≡ complete) × IsHandled (next ∷ handled) all_complete

-- what no call changes
pub record KeepsSettings (old new : Subscribed) : Type 0 where
  pub version : new.version ≡ old.version
  pub max_frame : new.max_frame ≡ old.max_frame
  pub limit : new.limit ≡ old.limit

-- Of the messages that are complete in the sessions some were handled: whole sessions, and a front
-- of one. It has the rows of the history up to its position, and has reached what the handled
-- messages reach.
pub record IsFollowedSafely (history : List Transaction) (all_complete : List (List Sent)) (old new : Subscribed) : Type 0 where
  pub handled : List (List Sent)
  pub front : IsHandled handled all_complete
  pub progress : progress_of new ≡ reached_all (progress_of old) handled
  pub safe : IsSafeFor history new
  -- and all that a status confirms is stored
  pub replies : AreSafeReplies history old → AreSafeReplies history new
  pub settings : KeepsSettings old new
