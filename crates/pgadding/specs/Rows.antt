-- Part of the statement.
-- Which rows the copy's history gives.
use Rattle.std.specs.Prelude.{◌≡◌, ◌≤◌, ℕ, List, ◌++◌, false, ◌==◌, Ok}
use Rattle.std.specs.FinMap as map
use Rattle.pgapply.specs.Value.{Tables}
use Rattle.pgapply.specs.Apply.{fold_changes}
use Rattle.pgsub_core.specs.Server.Work.{surviving_changes}
use Rattle.pgsub_core.specs.Server.History.{Transaction, tables_as_of}
use Rattle.pgadding.specs.Addition.{Addition, rows_work}
use Rattle.pgadding.specs.Around.{IsAround, with_rows}

-- At every position the copy has the server's rows of each other table.
abbrev pub OtherRowsAreTheServers : Type 0
OtherRowsAreTheServers =
    (a : Addition) (before below above : List Transaction) (p : ℕ) (tables copy : Tables)
    → IsAround a.point before below above
    → tables_as_of (before ++ (below ++ above)) p ≡ Ok tables
    → tables_as_of (with_rows a before below above) p ≡ Ok copy
    → (oid : ℕ) → (oid == a.definition.oid) ≡ false → map.get copy oid ≡ map.get tables oid

-- The rows are those that these tables have of the table, under the same definition: an empty store
-- gets them from the rows' transaction.
pub record AreRowsOf (a : Addition) (tables : Tables) : Type 0 where
  pub alone : Tables
  pub taken : fold_changes map.empty (surviving_changes (rows_work a)) ≡ Ok alone
  pub same : map.get alone a.definition.oid ≡ map.get tables a.definition.oid

-- Where the rows are the server's at the point, the copy has all of the server's rows at the point
-- and at every position above it.
abbrev pub RowsAreTheServers : Type 0
RowsAreTheServers =
    (a : Addition) (before below above : List Transaction) (p : ℕ) (tables : Tables)
    → IsAround a.point before below above
    → tables_as_of (before ++ (below ++ above)) a.point ≡ Ok tables
    → AreRowsOf a tables
    → a.point ≤ p
    → tables_as_of (with_rows a before below above) p ≡ tables_as_of (before ++ (below ++ above)) p
