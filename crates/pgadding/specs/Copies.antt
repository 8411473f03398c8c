-- Part of the statement.
-- The copy before the table is added, and after it.
use Rattle.std.specs.Prelude.{◌≡◌, ◌<◌, ◌≤◌, ℕ, List, ◌++◌, Ok}
use Rattle.std.specs.List.{AllByRecursion}
use Rattle.pgorder.specs.declared.Version.{Version}
use Rattle.pgapply.specs.Value.{Tables}
use Rattle.pgsub_core.specs.Server.History.{Transaction, tables_as_of}
use Rattle.pgsub_core.specs.Server.Stream.{Sent}
use Rattle.pgsub_core.specs.Server.Reached.{Progress}
use Rattle.pgsub_core.specs.Server.Sessions.{EachStarts}
use Rattle.pgsub_core.specs.Subscriber.Safe.{IsSafe}
use Rattle.pgsub_core.specs.Machine.Replica.{Replica, Running}
use Rattle.pgsub_core.specs.Machine.ApplyState.{follow_all}
use Rattle.pgadding.specs.LeftOut.{transactions_without}
use Rattle.pgadding.specs.Addition.{Addition}
use Rattle.pgadding.specs.Around.{IsAround, with_rows}
use Rattle.pgadding.specs.Bytes.{IsPassedSession}
use Rattle.pgadding.specs.Rows.{AreRowsOf}

-- The position of a store that is below the point, and what it has confirmed: it has the
-- transactions of `before`, and of `below` none.
pub record IsBefore (a : Addition) (before below : List Transaction) (position confirmed : ℕ) : Type 0 where
  pub stored : AllByRecursion (λ (t : Transaction). t.end ≤ position) before
  pub missing : AllByRecursion (λ (t : Transaction). position < t.end) below
  pub low : position < a.point
  pub unconfirmed : confirmed < a.point

-- A copy of the server's history is one of the history with the rows.
abbrev pub StartsSafe : Type 0
StartsSafe =
    (a : Addition) (before below above : List Transaction)
    (tables : Tables) (position confirmed : ℕ)
    → IsAround a.point before below above
    → IsBefore a before below position confirmed
    → IsSafe (before ++ (below ++ above)) tables position confirmed
    → IsSafe (with_rows a before below above) tables position confirmed

-- From the point on a copy of the history with the rows is one of the server's, where these are the
-- server's rows at the point.
abbrev pub EndsSafe : Type 0
EndsSafe =
    (a : Addition) (before below above : List Transaction)
    (at_point tables : Tables) (position confirmed : ℕ)
    → IsAround a.point before below above
    → tables_as_of (before ++ (below ++ above)) a.point ≡ Ok at_point
    → AreRowsOf a at_point
    → a.point ≤ position
    → IsSafe (with_rows a before below above) tables position confirmed
    → IsSafe (before ++ (below ++ above)) tables position confirmed

-- So whoever follows what is passed on has a copy of the server's history again, from the point on.
abbrev pub CopyIsTheServers : Type 0
CopyIsTheServers =
    (v : Version) (a : Addition) (before below above : List Transaction) (at_point : Tables)
    (p : Progress) (old new : Replica) (sessions : List (List ℕ)) (all_complete : List (List Sent))
    → IsAround a.point before below above
    → IsBefore a before below old.position old.confirmed
    → tables_as_of (before ++ (below ++ above)) a.point ≡ Ok at_point
    → AreRowsOf a at_point
    → IsSafe (before ++ (below ++ above)) old.tables old.position old.confirmed
    → p.position ≡ old.position
    → p.confirmed ≡ old.confirmed
    → EachStarts (IsPassedSession v a before below above) p sessions all_complete
    → follow_all v old all_complete ≡ Running new
    → a.point ≤ new.position
    → IsSafe (before ++ (below ++ above)) new.tables new.position new.confirmed

-- So has whoever follows from a copy of all but the table, as where it was published only now: of
-- the history whose transactions up to the position do nothing to it.
abbrev pub NewTableIsTheServers : Type 0
NewTableIsTheServers =
    (v : Version) (a : Addition) (before below above : List Transaction) (at_point : Tables)
    (p : Progress) (old new : Replica) (sessions : List (List ℕ)) (all_complete : List (List Sent))
    → IsAround a.point before below above
    → IsBefore a before below old.position old.confirmed
    → tables_as_of (before ++ (below ++ above)) a.point ≡ Ok at_point
    → AreRowsOf a at_point
    → IsSafe (transactions_without a.definition.oid before ++ (below ++ above))
    old.tables old.position old.confirmed
    → p.position ≡ old.position
    → p.confirmed ≡ old.confirmed
    → EachStarts (IsPassedSession v a before below above) p sessions all_complete
    → follow_all v old all_complete ≡ Running new
    → a.point ≤ new.position
    → IsSafe (before ++ (below ++ above)) new.tables new.position new.confirmed
