use Rattle.std.proofs.Common.{◌≢◌, [], false, arith}
use Rattle.sqlite_trees.specs.View.{IsClean}
use Rattle.pgrows.specs.Rows.{GoesBack, IfServing, saved_in, state}
use Rattle.pgrows.proofs.Found.{keeps_failed}
use Rattle.pgrows.proofs.Gaps.{gap_none, held_failed, held_on}
use Rattle.pgrows.proofs.Marked.{went_back_under, shows_back, some_marks, some_shown, back_open}
use Rattle.pgrows.proofs.rows.Rows.back.Goals as goal

pub invariant_of-self : goal.invariant_of-self
invariant_of-self g c =
    rw c.clear.ensures (held_on g.S.Store c.rollback_to.new.self c.self.inside.last [] c.self.inside.high false (λ clean up.
    let was : IsClean (g.S.Store.view c.self.inside.store) = omega (arith, c.rollback_to.ensures.quiet.clean) in
    let was_up = back_open (g.S.Store.view c.self.inside.store) (g.S.Store.view c.rollback_to.new.self) (c.in-Ok.ensures.ok clean)
    (c.in-Ok.ensures.none clean) up in
    let asked : IfServing g.S.Store c.self.inside.store (saved_in (g.S.Store.view c.self.inside.store) ≢ []) =
    rw c.self.view_is (c.requires) in
    let some = some_marks (g.S.Store.view c.self.inside.store) (asked was was_up) in
    went_back_under (g.S.Store.view c.self.inside.store) (g.S.Store.view c.rollback_to.new.self) c.self.inside.last some
    (c.in-Ok.ensures.ok clean some) (c.self.invariant.behind was was_up))
    (gap_none g.S.Store c.rollback_to.new.self c.self.inside.high))

pub invariant_of-self-in-Err : goal.invariant_of-self-in-Err
invariant_of-self-in-Err g c =
    held_failed g.S.Store c.self.inside.store c.rollback_to.new.self c.self.inside.last _ _ c.rollback_to.ensures.quiet.clean
    (λ clean. keeps_failed g.S.Store c.self.inside.store c.rollback_to.new.self c.in-Err.ensures.err.kept) c.self.invariant.behind

pub returns-in-Ok-clause-back : goal.returns-in-Ok-clause-back
returns-in-Ok-clause-back g c clean =
    let it : GoesBack (state g.S.Store c.self.inside.store) (state g.S.Store c.rollback_to.new.self) = (λ older mark is.
    shows_back g.S.Store c.self.inside.store c.rollback_to.new.self
    (c.in-Ok.ensures.ok clean (some_shown (g.S.Store.view c.self.inside.store) older mark is)) older mark is) in
    rw c.self.view_is at it
