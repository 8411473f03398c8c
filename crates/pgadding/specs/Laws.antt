-- Part of the statement.
-- What a connector that adds a table passes on is a session of a history.
use Rattle.std.specs.Prelude.{◌<◌, ◌≤◌, ℕ, List, ◌++◌}
use Rattle.std.specs.List.{AllByRecursion}
use Rattle.pgorder.specs.declared.Version.{Version}
use Rattle.pgsub_core.specs.Server.History.{Transaction, IsHistory}
use Rattle.pgsub_core.specs.Server.Stream.{Sent}
use Rattle.pgsub_core.specs.Server.Delivers.{Delivers}
use Rattle.pgadding.specs.Addition.{Addition}
use Rattle.pgadding.specs.Passing.{passed_on}
use Rattle.pgadding.specs.Around.{IsAround, IsWholeSession, KeepsDefinition, with_rows}

-- the copy's history is one
abbrev pub WithRowsIsHistory : Type 0
WithRowsIsHistory =
    (a : Addition) (before below above : List Transaction)
    → IsAround a.point before below above
    → IsHistory (with_rows a before below above)

-- Of a session of the server's, cut off anywhere, a session of the copy's history is passed on.
abbrev pub PassedOnIsDelivered : Type 0
PassedOnIsDelivered =
    (v : Version) (a : Addition) (before below above : List Transaction)
    (s : ℕ) (sent later : List Sent)
    → IsAround a.point before below above
    → AllByRecursion (λ (t : Transaction). t.end ≤ s) before
    → IsWholeSession v (before ++ (below ++ above)) s (sent ++ later)
    → (s < a.point → KeepsDefinition a (sent ++ later))
    → Delivers v (with_rows a before below above) s (passed_on a s sent)

-- Of one that isn't cut off it is one that isn't cut off. So by the same laws another table is
-- added to that.
abbrev pub PassedOnIsWhole : Type 0
PassedOnIsWhole =
    (v : Version) (a : Addition) (before below above : List Transaction) (s : ℕ) (sent : List Sent)
    → IsAround a.point before below above
    → AllByRecursion (λ (t : Transaction). t.end ≤ s) before
    → IsWholeSession v (before ++ (below ++ above)) s sent
    → (s < a.point → KeepsDefinition a sent)
    → IsWholeSession v (with_rows a before below above) s (passed_on a s sent)
