use Rattle.std.proofs.Common.{arith, rules, to_z-of_z, SFits, w64, true}
use Rattle.sqlite_trees.specs.View.{IsClean}
use Rattle.pgrows.proofs.SetUp.{table_shape}
use Rattle.pgrows.proofs.Edited.{read_by, told_by}
use Rattle.pgrows.proofs.search.try_guess.Goals as goal

pub get-requires : goal.get-requires
get-requires g c clean =
    let store = c.args.store.now in
    let good = c.requires clean in
    table_shape good (g.met.S.Alter.listed store good.unbroken) (g.met.S.Store.ordered store good.unbroken)

pub returns-clause-found : goal.returns-clause-found
returns-clause-found g c clean =
    let store = c.args.store.now in
    let was : IsClean (g.S.Store.view store) = omega (arith, c.get.ensures.quiet.clean) in
    let fits : SFits w64 c.in-Some.id = search rules in
    simp to_z-of_z (told_by c.args.oid c.args.ident.now c.in-Some.id ((g.S.Store.view store).trees 1) c.get.new.row
    (c.requires was).kept.held (simp to_z-of_z at (rw c.if-not-branch.false at (c.in_ok-get.ensures.ok clean)))
    (c.has_key.ensures.oid c.if-not-has_key.false) (c.has_key.ensures.ident c.if-not-has_key.false))

pub returns-clause-row : goal.returns-clause-row
returns-clause-row g c clean =
    let store = c.args.store.now in
    let was : IsClean (g.S.Store.view store) = omega (arith, c.get.ensures.quiet.clean) in
    let fits : SFits w64 c.in-Some.id = search rules in
    let held = (c.requires was).kept.held in
    let finds = simp to_z-of_z at (rw c.if-not-branch.false at (c.in_ok-get.ensures.ok clean)) in
    let there = told_by c.args.oid c.args.ident.now c.in-Some.id ((g.S.Store.view store).trees 1) c.get.new.row held finds
    (c.has_key.ensures.oid c.if-not-has_key.false) (c.has_key.ensures.ident c.if-not-has_key.false) in
    read_by c.args.oid c.args.ident.now c.in-Some.id ((g.S.Store.view store).trees 1) c.get.new.row true held there finds
