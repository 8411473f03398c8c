use Rattle.std.proofs.Common.{ap, ◌∙◌, arith, rules, to_z-of_z, SFits, w64}
use Rattle.std.proofs.lemmas.Result.{on_ok_weaker}
use Rattle.sqlite_trees.specs.View.{View, IsClean}
use Rattle.pgtables.specs.Kept.{Copies}
use Rattle.pgrows.proofs.SetUp.{table_shape}
use Rattle.pgrows.proofs.Entered.{is_index, row_comes}
use Rattle.pgrows.proofs.insert.put_new.Goals as goal

pub insert-requires : goal.insert-requires
insert-requires g c clean =
    let store = c.args.store.now in
    let good = c.requires.good clean in
    is_index good (g.met.S.Alter.listed store good.unbroken) (g.met.S.Store.ordered store good.unbroken)

pub put-requires-clause-table : goal.put-requires-clause-table
put-requires-clause-table g c clean =
    let store = c.args.store.now in
    let good = c.requires.good (omega (arith, c.insert.ensures.quiet.clean)) in
    ap (λ (v : View). v.shape 1) (c.in_ok-insert.ensures.frame clean)
    ∙ table_shape good (g.met.S.Alter.listed store good.unbroken) (g.met.S.Store.ordered store good.unbroken)

pub returns-clause-kept : goal.returns-clause-kept
returns-clause-kept g c clean =
    let store = c.args.store.now in
    let mid : IsClean (g.S.Store.view c.insert.new.self) = omega (arith, c.put.ensures.quiet.clean) in
    let was : IsClean (g.S.Store.view store) = omega (arith, c.insert.ensures.quiet.clean, c.put.ensures.quiet.clean) in
    let good = c.requires.good was in
    let fits : SFits w64 c.args.id = search rules in
    let row = simp to_z-of_z at c.in_ok-write_row.ensures in
    let entry = simp to_z-of_z at c.in_ok-write_entry.ensures in
    let k : Copies = record { body = c.args.body.now; copies = c.args.copies } in
    on_ok_weaker c.put.result (λ done.
    (row_comes good (g.met.S.Alter.listed store good.unbroken) (g.met.S.Store.ordered store good.unbroken) c.args.oid c.args.ident.now k
    c.args.id c.args._last (g.S.Store.view c.insert.new.self) (g.S.Store.view c.put.new.self)
    c.write_entry.new.entry c.write_row.new.row row entry (c.requires.free was) (c.requires.below was) c.requires.above
    (c.in_ok-insert.ensures.ok mid) (done clean)).0) c.put.ensures.ok

pub returns-clause-below : goal.returns-clause-below
returns-clause-below g c clean =
    let store = c.args.store.now in
    let mid : IsClean (g.S.Store.view c.insert.new.self) = omega (arith, c.put.ensures.quiet.clean) in
    let was : IsClean (g.S.Store.view store) = omega (arith, c.insert.ensures.quiet.clean, c.put.ensures.quiet.clean) in
    let good = c.requires.good was in
    let fits : SFits w64 c.args.id = search rules in
    let row = simp to_z-of_z at c.in_ok-write_row.ensures in
    let entry = simp to_z-of_z at c.in_ok-write_entry.ensures in
    let k : Copies = record { body = c.args.body.now; copies = c.args.copies } in
    on_ok_weaker c.put.result (λ done.
    (row_comes good (g.met.S.Alter.listed store good.unbroken) (g.met.S.Store.ordered store good.unbroken) c.args.oid c.args.ident.now k
    c.args.id c.args._last (g.S.Store.view c.insert.new.self) (g.S.Store.view c.put.new.self)
    c.write_entry.new.entry c.write_row.new.row row entry (c.requires.free was) (c.requires.below was) c.requires.above
    (c.in_ok-insert.ensures.ok mid) (done clean)).1) c.put.ensures.ok
