use Rattle.std.proofs.Common.{◌≡◌, take}
use Rattle.pgtables.specs.Kept.{GoesOn}
use Rattle.pgadopt.specs.Adopted.{with_definitions}
use Rattle.pgadopt.proofs.remaking.put_definitions.Given as goal

abbrev pub invariant-loop-oid : goal.invariant-loop-oid
invariant-loop-oid g l =
    (l.tx.conn.ghost_name ≡ l.initial.tx.conn.ghost_name)
    × GoesOn g.S.Store (with_definitions (take l.oid-index l.definitions)) l.initial.tx.conn.now l.tx.conn.now
