-- What may come of the sessions of a well-formed server: the headline.
use Rattle.std.specs.Prelude.{◌≡◌, ◌≤◌, ℕ, List}
use Rattle.std.specs.FinMap as map
use Rattle.pgorder.specs.declared.Version.{Version}
use Rattle.pgsub_core.specs.Server.History.{Transaction, IsHistory}
use Rattle.pgsub_core.specs.Server.Stream.{Sent}
use Rattle.pgsub_core.specs.Server.Delivers.{Delivers}
use Rattle.pgsub_core.specs.Machine.Replica.{Replica, Halt, UnknownRelation, StoreRefuses}
use Rattle.pgsub_core.specs.Machine.Replica.{OutOfOrder, Outcome, Running, Stopped}
use Rattle.pgsub_core.specs.Machine.ApplyState.{run, replica_outcome, at_session, follow_all}
use Rattle.pgsub_core.specs.Server.Reached.{Progress}
use Rattle.pgsub_core.specs.Server.Sessions.{AreSessions, starting_by, reached_all}
use Rattle.pgsub_core.specs.Subscriber.Safe.{IsSafe, NothingBetween, RefusesNext}

-- Whichever way a run ends, the replica is safe, and only the store may have refused: the next
-- commit, with the fault that the history gives there. No message is out of order, and every change
-- is described.
abbrev pub IsAllowedOutcome : List Transaction → Outcome Replica Halt → Type 0
IsAllowedOutcome history (Running replica) = IsSafe history replica.tables replica.position replica.confirmed
IsAllowedOutcome history (Stopped replica (UnknownRelation oid)) = ⊥
IsAllowedOutcome history (Stopped replica (OutOfOrder fault)) = ⊥
IsAllowedOutcome history (Stopped replica (StoreRefuses end fault)) =
    IsSafe history replica.tables replica.position replica.confirmed × RefusesNext history replica.position end fault

-- A session of a history that starts at most at what is confirmed leaves the history's rows at
-- every moment.
abbrev pub SessionsAreSafe : Type 0
SessionsAreSafe =
    (v : Version) (history : List Transaction) (replica : Replica) (s : ℕ) (sent : List Sent) → IsHistory history
    → IsSafe history replica.tables replica.position replica.confirmed → s ≤ replica.confirmed → Delivers v history s sent
    → IsAllowedOutcome history (replica_outcome (run v (at_session replica) sent))

-- Any sessions of a history, in whatever cuts, leave the history's rows at every moment. They start
-- at most at c, which is what is confirmed or more, where nothing that changes rows lies between.
abbrev pub AllSessionsAreSafe : Type 0
AllSessionsAreSafe =
    (v : Version) (history : List Transaction) (sessions : List (List ℕ)) (all_complete : List (List Sent)) (p : Progress) (c : ℕ)
    (replica : Replica) → IsHistory history
    → p.position ≡ replica.position → p.confirmed ≡ replica.confirmed → IsSafe history replica.tables replica.position replica.confirmed
    → p.confirmed ≤ c → NothingBetween history p.position c → AreSessions v history (starting_by c p) sessions all_complete
    → IsAllowedOutcome history (follow_all v replica all_complete)

-- Where they are followed to their end, all that is complete in them is reached.
abbrev pub AllSessionsAreReached : Type 0
AllSessionsAreReached =
    (v : Version) (history : List Transaction) (sessions : List (List ℕ)) (all_complete : List (List Sent)) (p : Progress) (c : ℕ)
    (replica new : Replica) → IsHistory history
    → p.position ≡ replica.position → p.confirmed ≡ replica.confirmed → IsSafe history replica.tables replica.position replica.confirmed
    → p.confirmed ≤ c → NothingBetween history p.position c → AreSessions v history (starting_by c p) sessions all_complete
    → follow_all v replica all_complete ≡ Running new
    → (new.position ≡ (reached_all p all_complete).position) × (new.confirmed ≡ (reached_all p all_complete).confirmed)

-- A replica of an empty store is safe for every history.
abbrev pub EmptyIsSafe : Type 0
EmptyIsSafe = (history : List Transaction) → IsHistory history → IsSafe history map.empty 0 0

-- Two replicas of one history that stand at one position have the same rows.
abbrev pub SamePositionSameRows : Type 0
SamePositionSameRows =
    (history : List Transaction) (a b : Replica) → IsSafe history a.tables a.position a.confirmed
    → IsSafe history b.tables b.position b.confirmed
    → a.position ≡ b.position → a.tables ≡ b.tables
