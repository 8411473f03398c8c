-- Part of the statement.
-- Tables of any content are given by a history, that of one transaction. So a copy of which any row
-- may be wrong is repaired.
use Rattle.std.specs.Prelude.{◌≡◌, ◌<◌, ◌≤◌, ℕ, pos, List, [], ◌∷◌, ◌++◌, Ok}
use Rattle.std.specs.FinMap as finite
use Rattle.std.specs.List.{AllByRecursion, flat_map}
use Rattle.pglogical.specs.declared.message.RelationDef.{RelationDef}
use Rattle.pglogical.specs.declared.message.Item.{Item}
use Rattle.pglogical.specs.declared.message.Item.TheVariants.{Truncate}
use Rattle.pgorder.specs.declared.Version.{Version}
use Rattle.pgapply.specs.Value.{Rows, Table, Tables, AreTables}
use Rattle.pgapply.specs.Apply.{fold_changes}
use Rattle.pgsub_core.specs.Server.Work.{Work, Nothing}
use Rattle.pgsub_core.specs.Server.History.{Transaction, IsHistory, IsHistoryFrom, all_changes}
use Rattle.pgsub_core.specs.Server.History.{tables_as_of}
use Rattle.pgsub_core.specs.Server.Stream.{Sent}
use Rattle.pgsub_core.specs.Server.Reached.{Progress}
use Rattle.pgsub_core.specs.Server.Sessions.{EachStarts}
use Rattle.pgsub_core.specs.Subscriber.Safe.{IsSafe, NothingBetween}
use Rattle.pgsub_core.specs.Machine.Replica.{Replica, Running}
use Rattle.pgsub_core.specs.Machine.ApplyState.{follow_all}
use Rattle.pgadding.specs.Addition.{rows_xid}
use Rattle.pgadding.specs.Around.{IsAround}
use Rattle.pgadding.specs.Mended.{changes_at}
use Rattle.pgadding.specs.Repair.{Repair, IsRepairOf, changed}
use Rattle.pgadding.specs.Repaired.{IsRepairedSession}

-- all rows of a table come, behind a truncation
abbrev pub giving_changes : RelationDef → Rows → List Item
giving_changes def rows =
    Truncate 0 (def.oid ∷ []) ∷ flat_map (changes_at def rows finite.empty) (finite.keys rows)

-- one table after the other, the last first
abbrev pub giving_work : List (ℕ × Table) → Work → Work
giving_work [] rest = rest
giving_work (entry ∷ entries) rest =
    giving_work entries
    (changed entry.1.definition (giving_changes entry.1.definition entry.1.rows) rest)

abbrev pub giving : Tables → Transaction
giving tables =
    record {
      xid = rows_xid;
      work = giving_work (finite.entries tables) Nothing;
      lsn = 0;
      end = 1;
      time = pos 0;
    }

abbrev pub AnyTablesAreGiven : Type 0
AnyTablesAreGiven =
    (tables : Tables) (p : ℕ)
    → AreTables tables
    → 1 ≤ p
    → IsHistory (giving tables ∷ []) × (tables_as_of (giving tables ∷ []) p ≡ Ok tables)

-- A copy has any tables at its position. Of the server's history up to the point `below` is still
-- to come.
pub record IsAnyCopy (r : Repair) (before below above : List Transaction)
    (old : Replica) : Type 0 where
  pub around : IsAround r.point before below above
  -- no commit is at 0/0
  pub first : IsHistoryFrom 1 (below ++ above)
  pub tables : AreTables old.tables
  pub some : 1 ≤ old.position
  pub missing : AllByRecursion (λ (t : Transaction). old.position < t.end) below
  pub low : old.position < r.point
  pub unconfirmed : old.confirmed < r.point
  pub behind : old.position ≤ old.confirmed
  pub nothing : NothingBetween (below ++ above) old.position old.confirmed

-- It is a copy of the server's history once the repair is stored.
abbrev pub AnyCopyIsRepaired : Type 0
AnyCopyIsRepaired =
    (v : Version) (r : Repair) (before below above : List Transaction) (copy server : Tables)
    (p : Progress) (old new : Replica) (sessions : List (List ℕ)) (all_complete : List (List Sent))
    → IsAnyCopy r before below above old
    → fold_changes old.tables (all_changes below) ≡ Ok copy
    → tables_as_of (before ++ (below ++ above)) r.point ≡ Ok server
    → IsRepairOf r copy server
    → p.position ≡ old.position
    → p.confirmed ≡ old.confirmed
    → EachStarts (IsRepairedSession v r (giving old.tables ∷ []) before below above)
    p sessions all_complete
    → follow_all v old all_complete ≡ Running new
    → r.point ≤ new.position
    → IsSafe (before ++ (below ++ above)) new.tables new.position new.confirmed
