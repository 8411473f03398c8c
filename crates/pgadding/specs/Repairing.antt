-- Part of the statement.
-- What is passed on of a session in whole transactions while a copy is repaired. PostgreSQL
-- documentation, Logical Decoding Concepts, Exported Snapshots.
use Rattle.std.specs.Prelude.{ℕ, List, [], ◌∷◌, ◌++◌, Option, Some, None, nat_le, if◌then◌else◌}
use Rattle.pgsub_core.specs.Server.History.{Transaction}
use Rattle.pgsub_core.specs.Server.Stream.{Sent, Data, Keepalive}
use Rattle.pgadding.specs.Passing.{place_of, is_behind}
use Rattle.pgadding.specs.Repair.{Repair, repair_sent, repair_transaction}

-- What is passed on of a message that comes before the point: all of it, but no keepalive that
-- tells of the point or more from within a transaction.
abbrev pub kept : ℕ → Option ℕ → Sent → List Sent
kept point place (Data start end clock m) = Data start end clock m ∷ []
kept point None (Keepalive end clock reply) = Keepalive end clock reply ∷ []
kept point (Some lsn) (Keepalive end clock reply) =
    if nat_le point end then [] else Keepalive end clock reply ∷ []

-- The repair comes in place of the first message at the point or after it, and the session ends.
abbrev pub repairing : Repair → Option ℕ → List Sent → List Sent
repairing r place [] = []
repairing r place (m ∷ sent) =
    if is_behind r.point place m
    then repair_sent r
    else kept r.point place m ++ repairing r (place_of m place) sent

-- what is passed on of a session that starts at s: all of it where the repair is stored
abbrev pub repaired_on : Repair → ℕ → List Sent → List Sent
repaired_on r s sent = if nat_le r.point s then sent else repairing r None sent

-- The history that the repaired copy has: `other` are transactions that give the rows that it had
-- before, of which any may have been wrong.
abbrev pub with_repair : Repair → List Transaction → List Transaction → List Transaction → List Transaction
with_repair r other below above = other ++ (below ++ repair_transaction r ∷ above)
