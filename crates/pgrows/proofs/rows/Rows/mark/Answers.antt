use Rattle.std.proofs.Common.{ap, arith}
use Rattle.sqlite_trees.specs.View.{View, IsClean}
use Rattle.pgrows.proofs.Found.{keeps_failed, open_of}
use Rattle.pgrows.proofs.Gaps.{gap_same, held_failed, held_on}
use Rattle.pgrows.proofs.Marked.{marked_under}
use Rattle.pgrows.proofs.rows.Rows.mark.Goals as goal

pub invariant_of-self : goal.invariant_of-self
invariant_of-self g c =
    held_on g.S.Store c.savepoint.new.self c.self.inside.last c.self.inside.low c.self.inside.high c.self.inside.failed (λ clean up.
    let was : IsClean (g.S.Store.view c.self.inside.store) = omega (arith, c.savepoint.ensures.quiet.clean) in
    let marks = c.in-Ok.ensures.ok clean in
    let was_up = open_of (g.S.Store.view c.self.inside.store) (g.met.S.Store.broken_if_shut c.self.inside.store) marks.sound in
    marked_under (g.S.Store.view c.self.inside.store) (g.S.Store.view c.savepoint.new.self) c.self.inside.last marks
    (c.self.invariant.rows c.if-self.false was was_up))
    (λ clean up.
    let was : IsClean (g.S.Store.view c.self.inside.store) = omega (arith, c.savepoint.ensures.quiet.clean) in
    let marks = c.in-Ok.ensures.ok clean in
    let was_up = open_of (g.S.Store.view c.self.inside.store) (g.met.S.Store.broken_if_shut c.self.inside.store) marks.sound in
    gap_same c.self.inside.low c.self.inside.high (g.S.Store.view c.self.inside.store) (g.S.Store.view c.savepoint.new.self)
    (ap (λ (v : View). v.trees) marks.is) (c.self.invariant.gap c.if-self.false was was_up))

pub invariant_of-self-in-Err : goal.invariant_of-self-in-Err
invariant_of-self-in-Err g c =
    held_failed g.S.Store c.self.inside.store c.savepoint.new.self c.self.inside.last _ _ c.savepoint.ensures.quiet.clean
    (λ clean. keeps_failed g.S.Store c.self.inside.store c.savepoint.new.self c.in-Err.ensures.err.kept) c.self.invariant.behind
