use Rattle.std.proofs.Common.{ap, ◌∙◌, Some, arith, rules, to_z-of_z, SFits, w64}
use Rattle.sqlite_trees.specs.View.{View, IsClean}
use Rattle.sqlite_rules.proofs.ViewLemmas.{still_quiet}
use Rattle.pgtables.specs.Kept.{tables_in, without_rows}
use Rattle.pgrows.proofs.Found.{open_of, reads_under, keeps_reads, keeps_then}
use Rattle.pgrows.proofs.relation.clear.Goals as goal

pub loop-init : goal.loop-init
loop-init g c =
    let fits : SFits w64 c.in_ok-top.top = search rules in (
      (λ clean. simp to_z-of_z
          (reads_under (g.S.Store.view c.args.store.now) (g.S.Store.view c.top_of.new.store) (Some c.in_ok-top.top)
          (c.in_ok-top.ensures.same clean) (c.in_ok-top.ensures.under clean))),
      (λ clean. ap (λ (v : View). without_rows c.args.oid (tables_in v.trees)) (c.in_ok-top.ensures.same clean)),
      (λ clean. keeps_reads g.S.Store c.args.store.now c.top_of.new.store (c.in_ok-top.ensures.same clean)),
      c.top_of.ensures.quiet,
    )

pub loop-preserved : goal.loop-preserved
loop-preserved g c = (
  (λ clean. c.in_ok-take_first.ensures.under clean),
  (λ clean. c.in_ok-take_first.ensures.one clean ∙ c.loop.invariant.1 (omega (arith, c.take_first.ensures.quiet.clean))),
  (λ clean. keeps_then g.S.Store c.args.store.now c.loop.store c.take_first.new.store
      (c.loop.invariant.2 (omega (arith, c.take_first.ensures.quiet.clean))) (c.take_first.ensures.keeps clean)),
  still_quiet c.loop.invariant.3 c.take_first.ensures.quiet,
)

pub returns-then-not-branch-clause-made : goal.returns-then-not-branch-clause-made
returns-then-not-branch-clause-made g c clean =
    let mid : IsClean (g.S.Store.view c.loop.store) = omega (arith, c.take_first.ensures.quiet.clean) in
    let now = c.in_ok-take_first.ensures.under clean in
    let up = open_of (g.S.Store.view c.take_first.new.store) (g.met.S.Store.broken_if_shut c.take_first.new.store) now.good.unbroken in
    let keeps = keeps_then g.S.Store c.args.store.now c.loop.store c.take_first.new.store (c.loop.invariant.2 mid)
    (c.take_first.ensures.keeps clean) in
    record {
      was_open = keeps.commit.was_open up;
      is_open = up;
      made = c.in_ok-take_first.ensures.none clean c.if-not-branch.true ∙ c.loop.invariant.1 mid;
    }
