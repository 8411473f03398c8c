use Rattle.std.proofs.Common.{arith}
use Rattle.sqlite_trees.specs.View.{IsClean}
use Rattle.sqlite_rules.proofs.ViewLemmas.{still_quiet}
use Rattle.sqlite_exec.proofs.MarkLemmas.{reads_then}
use Rattle.pgverify.proofs.rows.RowCursor.reach.Goals as goal

pub rows-preserved : goal.rows-preserved
rows-preserved g c = (
  c.in_ok-step.ensures.stay 1 c.rows.invariant.0,
  (λ cursor live. c.in_ok-step.ensures.stay cursor (c.rows.invariant.1 cursor live)),
  (λ clean.
      let at : IsClean (g.S.Store.view c.rows.store) = omega (arith, c.step.ensures.quiet.clean, clean) in
      reads_then 1 _ _ _ (c.rows.invariant.2 at) (c.in_ok-step.ensures.reads clean)),
  still_quiet c.rows.invariant.3 c.step.ensures.quiet,
  (λ clean given.
      let at : IsClean (g.S.Store.view c.rows.store) = omega (arith, c.step.ensures.quiet.clean, clean) in
      c.in_ok-step.ensures.given clean (c.rows.invariant.4 at given)),
)
