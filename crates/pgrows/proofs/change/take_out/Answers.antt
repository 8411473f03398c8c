use Rattle.std.proofs.Common.{ap, ◌∙◌, arith, rules, to_z-of_z, SFits, w64}
use Rattle.std.proofs.lemmas.Result.{on_ok_weaker}
use Rattle.sqlite_trees.specs.View.{View, IsClean}
use Rattle.pgrows.proofs.SetUp.{table_shape}
use Rattle.pgrows.proofs.Entered.{is_index, row_goes}
use Rattle.pgrows.proofs.change.take_out.Goals as goal

pub remove-requires : goal.remove-requires
remove-requires g c clean =
    let store = c.args.store.now in
    let good = c.requires.good clean in
    is_index good (g.met.S.Alter.listed store good.unbroken) (g.met.S.Store.ordered store good.unbroken)

pub delete-requires : goal.delete-requires
delete-requires g c clean =
    let store = c.args.store.now in
    let good = c.requires.good (omega (arith, c.remove.ensures.quiet.clean)) in
    ap (λ (v : View). v.shape 1) (c.in_ok-remove.ensures.frame clean)
    ∙ table_shape good (g.met.S.Alter.listed store good.unbroken) (g.met.S.Store.ordered store good.unbroken)

pub returns-clause-kept : goal.returns-clause-kept
returns-clause-kept g c clean =
    let store = c.args.store.now in
    let mid : IsClean (g.S.Store.view c.remove.new.self) = omega (arith, c.delete.ensures.quiet.clean) in
    let was : IsClean (g.S.Store.view store) = omega (arith, c.remove.ensures.quiet.clean, c.delete.ensures.quiet.clean) in
    let good = c.requires.good was in
    let fits : SFits w64 c.args.id = search rules in
    let entry = simp to_z-of_z at c.in_ok-write_entry.ensures in
    on_ok_weaker c.delete.result (λ done.
    let gone = simp to_z-of_z at (done clean) in
    (row_goes good (g.met.S.Alter.listed store good.unbroken) (g.met.S.Store.ordered store good.unbroken) c.args.oid c.args.ident.now
    c.args.id (g.S.Store.view c.remove.new.self) (g.S.Store.view c.delete.new.self)
    c.write_entry.new.entry entry (c.requires.stored was) (c.in_ok-remove.ensures.ok mid) gone).0) c.delete.ensures.ok

pub returns-clause-below : goal.returns-clause-below
returns-clause-below g c clean =
    let store = c.args.store.now in
    let mid : IsClean (g.S.Store.view c.remove.new.self) = omega (arith, c.delete.ensures.quiet.clean) in
    let was : IsClean (g.S.Store.view store) = omega (arith, c.remove.ensures.quiet.clean, c.delete.ensures.quiet.clean) in
    let good = c.requires.good was in
    let fits : SFits w64 c.args.id = search rules in
    let entry = simp to_z-of_z at c.in_ok-write_entry.ensures in
    on_ok_weaker c.delete.result (λ done.
    let gone = simp to_z-of_z at (done clean) in
    (row_goes good (g.met.S.Alter.listed store good.unbroken) (g.met.S.Store.ordered store good.unbroken) c.args.oid c.args.ident.now
    c.args.id (g.S.Store.view c.remove.new.self) (g.S.Store.view c.delete.new.self)
    c.write_entry.new.entry entry (c.requires.stored was) (c.in_ok-remove.ensures.ok mid) gone).1) c.delete.ensures.ok
