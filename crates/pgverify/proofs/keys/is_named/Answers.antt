use Rattle.std.proofs.Common.{◌≡◌, ap, subst, List, arith}
use Rattle.sqlite_value.specs.Order.{Row}
use Rattle.sqlite_trees.specs.View.{View, IsClean}
use Rattle.pgverify.specs.Seen.{IsNamed}
use Rattle.pgverify.proofs.Given.{found_there}
use Rattle.pgverify.proofs.keys.is_named.Goals as goal

pub returns-clause-named : goal.returns-clause-named
returns-clause-named g c clean is given =
    let old = g.S.Store.view c.args.store.now in
    let mid : IsClean (g.S.Store.view c.reach.new.store) = omega (arith, c.get-2.ensures.quiet.clean, clean) in
    let trees : (g.S.Store.view c.reach.new.store).trees 1 ≡ old.trees 1 =
    ap (λ (v : View). v.trees 1) (c.in_ok-reach.ensures.reads mid).reads in
    subst (λ (rows : List Row). IsNamed g.C.RowCheck.accepts c.args.check.now rows c.args.entry.now) trees (record {
      row = c.get-2.new.row;
      there = found_there _ _ c.get-2.new.row (rw c.if-not-branch.false at (c.in_ok-get.ensures.ok clean));
      held = c.is_held_row-2.ensures is;
      is = c.is_entry_of-2.ensures c.if-not-is_entry_of.false;
    })
