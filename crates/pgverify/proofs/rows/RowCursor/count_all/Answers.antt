use Rattle.std.proofs.Common.{arith, ap, length, ◌∙◌}
use Rattle.sqlite_trees.specs.View.{View, IsClean}
use Rattle.sqlite_rules.proofs.ViewLemmas.{still_quiet}
use Rattle.sqlite_exec.proofs.MarkLemmas.{only_reads_then}
use Rattle.pgverify.proofs.rows.RowCursor.count_all.Goals as goal

pub returns-then-not-branch-clause-count : goal.returns-then-not-branch-clause-count
returns-then-not-branch-clause-count g c clean given =
    let at : IsClean (g.S.Store.view c.rows.store) = omega (arith, c.step.ensures.quiet.clean, clean) in
    c.in_ok-step.ensures.ended clean c.if-not-branch.true (c.rows.invariant.3 at given)
    ∙ ap (λ (v : View). length (v.trees 1)) (c.rows.invariant.1 at)

pub rows-preserved : goal.rows-preserved
rows-preserved g c = (
  c.in_ok-step.ensures.stay 1 c.rows.invariant.0,
  (λ clean.
      let at : IsClean (g.S.Store.view c.rows.store) = omega (arith, c.step.ensures.quiet.clean, clean) in
      only_reads_then (g.S.Store.view c.args.store.now) (g.S.Store.view c.rows.store) (g.S.Store.view c.step.new.store)
      (c.rows.invariant.1 at) (c.in_ok-step.ensures.reads clean).reads),
  still_quiet c.rows.invariant.2 c.step.ensures.quiet,
  (λ clean given.
      let at : IsClean (g.S.Store.view c.rows.store) = omega (arith, c.step.ensures.quiet.clean, clean) in
      c.in_ok-step.ensures.given clean (c.rows.invariant.3 at given)),
)
