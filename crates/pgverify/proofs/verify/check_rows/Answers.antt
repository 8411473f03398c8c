use Rattle.std.proofs.Common.{arith}
use Rattle.sqlite_trees.specs.View.{IsClean}
use Rattle.pgverify.proofs.HeldRows.{verified}
use Rattle.pgverify.proofs.Laid.{entries_rise, rows_rise, table_shape}
use Rattle.pgverify.proofs.verify.check_rows.Goals as goal

pub are_matched-requires : goal.are_matched-requires
are_matched-requires g c clean =
    let it = c.requires clean in
    table_shape it (g.met.S.Alter.listed c.args.store.now it.unbroken) (g.met.S.Store.ordered c.args.store.now it.unbroken)

pub returns-clause-verified : goal.returns-clause-verified
returns-clause-verified g c clean is =
    let store = c.args.store.now in
    let was : IsClean (g.S.Store.view store) = omega (arith, c.are_matched.ensures.quiet.clean, clean) in
    let it = c.requires was in
    let listed = g.met.S.Alter.listed store it.unbroken in
    let ordered = g.met.S.Store.ordered store it.unbroken in
    verified g.C.RowCheck.accepts c.args.check.now (g.S.Store.view store).trees (c.are_matched.ensures.matched clean is)
    (rows_rise it listed ordered) (entries_rise it listed ordered)
