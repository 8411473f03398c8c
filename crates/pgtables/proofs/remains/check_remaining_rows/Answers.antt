use Rattle.sqlite.specs.Held.{state}
use Rattle.pgtables.proofs.FoundHeld.{none_found}
use Rattle.pgtables.proofs.remains.check_remaining_rows.Goals as goal

pub returns-else-left-clause-held : goal.returns-else-left-clause-held
returns-else-left-clause-held g c clean is =
    none_found g.C.RowCheck.accepts c.args.check.now c.args.left (state g.S.Store c.args.conn.now).now.trees c.if-left.false
