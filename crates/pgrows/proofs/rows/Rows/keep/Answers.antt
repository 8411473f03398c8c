use Rattle.std.proofs.Common.{sym, ap, ◌∙◌, arith}
use Rattle.sqlite_trees.specs.View.{View, IsClean}
use Rattle.pgrows.proofs.Found.{keeps_failed, open_of}
use Rattle.pgrows.proofs.Gaps.{gap_same, held_failed, held_on}
use Rattle.pgrows.proofs.Marked.{released_under, shows_released}
use Rattle.pgrows.proofs.rows.Rows.keep.Goals as goal

pub invariant_of-self : goal.invariant_of-self
invariant_of-self g c =
    held_on g.S.Store c.release.new.self c.self.inside.last c.self.inside.low c.self.inside.high c.self.inside.failed (λ clean up.
    let was : IsClean (g.S.Store.view c.self.inside.store) = omega (arith, c.release.ensures.quiet.clean) in
    let unbroken = sym (c.is_broken.ensures was) ∙ c.if-is_broken.false in
    let was_up = open_of (g.S.Store.view c.self.inside.store) (g.met.S.Store.broken_if_shut c.self.inside.store) unbroken in
    released_under (g.S.Store.view c.self.inside.store) (g.S.Store.view c.release.new.self) c.self.inside.last (c.in-Ok.ensures.ok clean)
    (c.self.invariant.rows c.if-self.false was was_up))
    (λ clean up.
    let was : IsClean (g.S.Store.view c.self.inside.store) = omega (arith, c.release.ensures.quiet.clean) in
    let unbroken = sym (c.is_broken.ensures was) ∙ c.if-is_broken.false in
    let was_up = open_of (g.S.Store.view c.self.inside.store) (g.met.S.Store.broken_if_shut c.self.inside.store) unbroken in
    gap_same c.self.inside.low c.self.inside.high (g.S.Store.view c.self.inside.store) (g.S.Store.view c.release.new.self)
    (ap (λ (v : View). v.trees) (c.in-Ok.ensures.ok clean)) (c.self.invariant.gap c.if-self.false was was_up))

pub invariant_of-self-in-Err : goal.invariant_of-self-in-Err
invariant_of-self-in-Err g c =
    held_failed g.S.Store c.self.inside.store c.release.new.self c.self.inside.last _ _ c.release.ensures.quiet.clean
    (λ clean. keeps_failed g.S.Store c.self.inside.store c.release.new.self c.in-Err.ensures.err.kept) c.self.invariant.behind

pub returns-in-Ok-clause-kept : goal.returns-in-Ok-clause-kept
returns-in-Ok-clause-kept g c clean =
    let was : IsClean (g.S.Store.view c.self.inside.store) = omega (arith, c.release.ensures.quiet.clean) in
    let unbroken = sym (c.is_broken.ensures was) ∙ c.if-is_broken.false in
    let was_up = open_of (g.S.Store.view c.self.inside.store) (g.met.S.Store.broken_if_shut c.self.inside.store) unbroken in
    rw c.self.view_is at (shows_released g.S.Store c.self.inside.store c.release.new.self was_up (c.in-Ok.ensures.ok clean))
