-- Part of the statement.
-- What a connector that repairs a copy passes on is a session of a history, and the copy is the
-- server's from the point on.
use Rattle.std.specs.Prelude.{◌≡◌, ◌<◌, ◌≤◌, ◌⊎◌, ℕ, List, ◌++◌, true, Ok}
use Rattle.std.specs.FinMap as finite
use Rattle.std.specs.List.{AllByRecursion}
use Rattle.pgorder.specs.declared.Version.{Version}
use Rattle.pgapply.specs.Value.{Tables, AreTables}
use Rattle.pgapply.specs.Apply.{fold_changes}
use Rattle.pgsub_core.specs.Server.Work.{surviving_changes, is_among}
use Rattle.pgsub_core.specs.Server.History.{Transaction, IsHistory, tables_as_of}
use Rattle.pgsub_core.specs.Server.Stream.{Sent}
use Rattle.pgsub_core.specs.Server.Delivers.{Delivers}
use Rattle.pgsub_core.specs.Server.Reached.{Progress}
use Rattle.pgsub_core.specs.Server.Sessions.{EndsForeign, EachStarts, AreIncoming, whole_frames}
use Rattle.pgsub_core.specs.Subscriber.Safe.{IsSafe}
use Rattle.pgsub_core.specs.Machine.Replica.{Replica, Running}
use Rattle.pgsub_core.specs.Machine.ApplyState.{follow_all}
use Rattle.pgadding.specs.Around.{IsAround, IsWholeSession}
use Rattle.pgadding.specs.Bytes.{AreBytesOf}
use Rattle.pgadding.specs.Repair.{Repair, IsRepair, IsRepairOf, AreMended, mended_oids}
use Rattle.pgadding.specs.Repair.{repair_transaction}
use Rattle.pgadding.specs.Repairing.{repaired_on, with_repair}

-- The repair's changes make the server's rows of the copy's.
abbrev pub RepairMakesTheServers : Type 0
RepairMakesTheServers =
    (r : Repair) (copy server : Tables)
    → AreTables copy
    → AreTables server
    → IsRepairOf r copy server
    → fold_changes copy (surviving_changes (repair_transaction r).work) ≡ Ok server

-- Around a point stand the transactions of the server that are stored, `before`, those of the
-- history by which the copy has its rows, `other`, and those that both have, `below` and `above`.
pub record AreAround (point : ℕ) (other before below above : List Transaction) : Type 0 where
  pub server : IsAround point before below above
  pub copy : IsAround point other below above

-- the copy's history is one
abbrev pub WithRepairIsHistory : Type 0
WithRepairIsHistory =
    (r : Repair) (other below above : List Transaction)
    → IsRepair r
    → IsAround r.point other below above
    → IsHistory (with_repair r other below above)

-- both end by this place
pub record AreStored (place : ℕ) (other before : List Transaction) : Type 0 where
  pub others : AllByRecursion (λ (t : Transaction). t.end ≤ place) other
  pub servers : AllByRecursion (λ (t : Transaction). t.end ≤ place) before

-- Of a session of the server's, cut off anywhere, a session of the copy's history is passed on.
abbrev pub RepairedIsDelivered : Type 0
RepairedIsDelivered =
    (v : Version) (r : Repair) (other before below above : List Transaction)
    (s : ℕ) (sent later : List Sent)
    → IsRepair r
    → AreAround r.point other before below above
    → AreStored s other before
    → IsWholeSession v (before ++ (below ++ above)) s (sent ++ later)
    → Delivers v (with_repair r other below above) s (repaired_on r s sent)

-- These bytes come of what is passed on of a session that starts at s.
pub record IsRepairedSession (v : Version) (r : Repair)
    (other before below above : List Transaction)
    (s : ℕ) (bytes : List ℕ) (complete : List Sent) : Type 0 where
  pub sent : List Sent
  pub later : List Sent
  pub stored : AreStored s other before
  pub session : IsWholeSession v (before ++ (below ++ above)) s (sent ++ later)
  pub written : AreBytesOf (repaired_on r s sent) bytes complete

-- or something foreign comes after it
abbrev pub IsRepairedIncoming : Version → Repair → List Transaction → List Transaction → List Transaction
    → List Transaction → ℕ → List ℕ → List Sent → Type 0
IsRepairedIncoming v r other before below above s bytes complete =
    IsRepairedSession v r other before below above s bytes complete
    ⊎ ((ends : EndsForeign complete bytes)
    × IsRepairedSession v r other before below above s (whole_frames complete ends.done) complete)

abbrev pub RepairedSessionsAreSessions : Type 0
RepairedSessionsAreSessions =
    (v : Version) (r : Repair) (other before below above : List Transaction) (p : Progress)
    (sessions : List (List ℕ)) (all_complete : List (List Sent))
    → IsRepair r
    → AreAround r.point other before below above
    → EachStarts (IsRepairedIncoming v r other before below above) p sessions all_complete
    → AreIncoming v (with_repair r other below above) p sessions all_complete

-- The repair is of what the histories give at the point, `copy` and `server`.
pub record IsRepairAround (r : Repair) (other before below above : List Transaction) : Type 0 where
  pub around : AreAround r.point other before below above
  pub copy : Tables
  pub server : Tables
  pub ours : tables_as_of (other ++ (below ++ above)) r.point ≡ Ok copy
  pub theirs : tables_as_of (before ++ (below ++ above)) r.point ≡ Ok server
  pub differs : IsRepairOf r copy server

-- At the point and at every position above it the copy's history gives the server's rows.
abbrev pub RepairedRowsAreTheServers : Type 0
RepairedRowsAreTheServers =
    (r : Repair) (other before below above : List Transaction) (p : ℕ)
    → IsRepairAround r other before below above
    → r.point ≤ p
    → tables_as_of (with_repair r other below above) p
    ≡ tables_as_of (before ++ (below ++ above)) p

-- Where other tables may differ too, as those that are copied anew after it, each table of the
-- repair has the server's rows at the point and at every position above it.
abbrev pub MendedRowsAreTheServers : Type 0
MendedRowsAreTheServers =
    (r : Repair) (other before below above : List Transaction) (p : ℕ)
    (copy server ours theirs : Tables)
    → AreAround r.point other before below above
    → tables_as_of (other ++ (below ++ above)) r.point ≡ Ok copy
    → tables_as_of (before ++ (below ++ above)) r.point ≡ Ok server
    → AreMended r copy server
    → r.point ≤ p
    → tables_as_of (with_repair r other below above) p ≡ Ok ours
    → tables_as_of (before ++ (below ++ above)) p ≡ Ok theirs
    → (oid : ℕ) → is_among (mended_oids r) oid ≡ true → finite.get ours oid ≡ finite.get theirs oid

-- Below the point nothing differs by the repair: where it isn't stored the copy is as it was.
abbrev pub UnrepairedIsTheSame : Type 0
UnrepairedIsTheSame =
    (r : Repair) (other below above : List Transaction)
    (tables : Tables) (position confirmed : ℕ)
    → IsAround r.point other below above
    → position < r.point
    → confirmed < r.point
    → IsSafe (with_repair r other below above) tables position confirmed
    → IsSafe (other ++ (below ++ above)) tables position confirmed

-- So whoever follows what is passed on, from a copy that has what `other` gives, has a copy of the
-- server's history from the point on.
abbrev pub RepairedCopyIsTheServers : Type 0
RepairedCopyIsTheServers =
    (v : Version) (r : Repair) (other before below above : List Transaction)
    (p : Progress) (old new : Replica) (sessions : List (List ℕ)) (all_complete : List (List Sent))
    → IsRepairAround r other before below above
    → old.position < r.point
    → old.confirmed < r.point
    → IsSafe (other ++ (below ++ above)) old.tables old.position old.confirmed
    → p.position ≡ old.position
    → p.confirmed ≡ old.confirmed
    → EachStarts (IsRepairedSession v r other before below above) p sessions all_complete
    → follow_all v old all_complete ≡ Running new
    → r.point ≤ new.position
    → IsSafe (before ++ (below ++ above)) new.tables new.position new.confirmed
