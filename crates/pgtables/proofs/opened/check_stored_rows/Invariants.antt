use Rattle.std.proofs.Common.{◌≡◌}
use Rattle.pgtables.proofs.FoundTexts.{rows_text, rows_read_only}
use Rattle.pgtables.proofs.ReadSteps.{HasRead}
use Rattle.pgtables.proofs.FoundHeld.{ArePassed}
use Rattle.pgtables.proofs.opened.check_stored_rows.Given as goal

abbrev pub invariant-loop : goal.invariant-loop
invariant-loop g l = (l.rows.conn.ghost_name ≡ l.initial.rows.conn.ghost_name)
    × HasRead rows_text rows_read_only g.S.Store (ArePassed g.C.RowCheck.accepts l.check l.last) l.fn.conn l.rows.conn.now
