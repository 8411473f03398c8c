use Rattle.std.proofs.Common.{arith, rules, to_z-of_z, SFits, w64}
use Rattle.std.proofs.lemmas.Result.{IfOk-weaker}
use Rattle.sqlite_trees.specs.View.{IsClean}
use Rattle.pgrows.proofs.SetUp.{rel_shape}
use Rattle.pgrows.proofs.Given.{defines_from}
use Rattle.pgrows.proofs.dump.define.Goals as goal

pub returns-then-is_known-clause-defines : goal.returns-then-is_known-clause-defines
returns-then-is_known-clause-defines g c clean _ =
    let fits : SFits w64 c.args.oid = search rules in
    simp to_z-of_z at (rw (c.is_known.ensures c.if-is_known.true) at (c.requires.known clean))

pub get-requires : goal.get-requires
get-requires g c clean =
    let store = c.args.store.now in
    let good = c.requires.good clean in
    rel_shape good (g.met.S.Alter.listed store good.unbroken) (g.met.S.Store.ordered store good.unbroken)

pub returns-clause-defines : goal.returns-clause-defines
returns-clause-defines g c clean =
    let store = c.args.store.now in
    let was : IsClean (g.S.Store.view store) = omega (arith, c.get.ensures.quiet.clean) in
    let fits : SFits w64 c.args.oid = search rules in
    IfOk-weaker c.get.result _ _
    (λ found h. defines_from (g.S.Store.view store).trees (c.requires.good was).kept.defined c.args.oid (c.requires.number was)
    c.get.new.row found (simp to_z-of_z at (h clean))) c.get.ensures.ok
