use Rattle.std.proofs.Common.{Ok, ap, refl, ◌∙◌, arith}
use Rattle.sqlite_trees.specs.View.{IsClean}
use Rattle.pgverify.proofs.DefinedRows.{definitions_found}
use Rattle.pgverify.proofs.Laid.{definitions_rise}
use Rattle.pgverify.proofs.verify.read_definitions.Goals as goal

pub returns-clause-found : goal.returns-clause-found
returns-clause-found g c clean =
    let store = c.args.store.now in
    let was : IsClean (g.S.Store.view store) = omega (arith, c.walk.ensures.quiet.clean, clean) in
    let it = c.requires was in
    let seen = c.walk.ensures.seen clean (c.in_ok-walk.was ∙ ap Ok c.if-not-branch.false) (rw c.new-all.ensures.items refl) in
    definitions_found (g.S.Store.view store).trees _ seen
    (definitions_rise it (g.met.S.Alter.listed store it.unbroken) (g.met.S.Store.ordered store it.unbroken))
