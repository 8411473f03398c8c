use Rattle.std.proofs.Common.{◌<◌, ◌^◌, sym, subst, arith}
use Rattle.pgrows.specs.Rows.{IsNumbered}
use Rattle.pgreshaping.proofs.Remembering.{none_known}
use Rattle.pgstore.specs.StoreValue.{IsStore}
use Rattle.pgstore.proofs.Groups.{begun_empty}
use Rattle.pgstore.proofs.TreesRead.{trees_store}
use Rattle.pgstore.proofs.store.Store.at.Goals as goal

pub of_trees-requires-clause-fresh : goal.of_trees-requires-clause-fresh
of_trees-requires-clause-fresh g c clean still = c.requires.fresh clean

pub of_trees-requires-clause-kept : goal.of_trees-requires-clause-kept
of_trees-requires-clause-kept g c clean still = (c.requires.holds clean).1.kept

pub invariant_of-result : goal.invariant_of-result
invariant_of-result g c =
    let s = c.args.store in
    let same = sym c.of_trees.ensures in
    let range : c.args.position < 2 ^ 64 = omega arith in (
      (
        subst (IsNumbered g.S.Store) same (λ clean. (c.requires.fresh clean).numbered),
        none_known g.S.Store c.new.result c.of_trees.result c.new.ensures,
        λ settled. absurd (cc),
      ),
      subst (λ r. IsStore g.S.Store r c.args.position) same
          (trees_store g.S.Store s c.args.position range c.requires.fresh c.requires.holds g.met.S.Store.settled
          (g.met.S.Store.broken_if_shut s)),
      begun_empty g.S.Store _ c.args.position range _ c.at.ensures,
    )
