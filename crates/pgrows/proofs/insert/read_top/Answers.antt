use Rattle.std.proofs.Common.{arith, subst, sym, ap, ◌∙◌, rules, SFits, w64, to_z-of_z}
use Rattle.sqlite_rules.specs.Edit.{id_in}
use Rattle.pgrows.specs.Rows.{AreBelow}
use Rattle.pgrows.proofs.SetUp.{rises}
use Rattle.pgrows.proofs.Placed.{below_last}
use Rattle.pgrows.proofs.insert.read_top.Goals as goal

pub returns-then-branch-clause-below : goal.returns-then-branch-clause-below
returns-then-branch-clause-below g c clean =
    let store = c.args.store.now in
    let rows = (g.S.Store.view store).trees 1 in
    let good = c.requires (omega (arith, c.last.ensures.quiet.clean)) in
    let it = rw c.if-branch.true at (c.in_ok-last.ensures.ok clean) in
    let fits : SFits w64 c.id_in.result = search rules in
    simp to_z-of_z (subst (λ n. AreBelow n rows) (sym (c.id_in.ensures ∙ ap id_in c.get.ensures))
    (below_last rows it.0 c.last.new.row good.kept.held
    (rises good (g.met.S.Alter.listed store good.unbroken) (g.met.S.Store.ordered store good.unbroken)) it.1))
