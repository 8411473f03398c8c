use Rattle.std.proofs.Common.{true, ap, subst, ◌∙◌, arith, rules, to_z-of_z, SFits, w64}
use Rattle.sqlite_trees.specs.Tree.{Trees}
use Rattle.sqlite_trees.specs.View.{View, Finds, IsClean}
use Rattle.sqlite_rules.proofs.ViewLemmas.{still_quiet}
use Rattle.pgrows.proofs.SetUp.{table_shape}
use Rattle.pgrows.proofs.Given.{numbered, shown_read}
use Rattle.pgrows.proofs.dump.show.Goals as goal

pub define-requires-clause-number : goal.define-requires-clause-number
define-requires-clause-number g c clean =
    let store = c.args.store.now in
    let good = c.requires.good clean in
    let fits : SFits w64 c.oid_in-oid.result = search rules in
    simp to_z-of_z (numbered good (g.met.S.Alter.listed store good.unbroken) (g.met.S.Store.ordered store good.unbroken) c.args.entry.now
    (c.requires.entry clean) c.oid_in-oid.result c.oid_in-oid.ensures)

pub get-requires : goal.get-requires
get-requires g c clean =
    let store = c.args.store.now in
    let was : IsClean (g.S.Store.view store) = omega (arith, c.define.ensures.quiet.clean) in
    let good = c.requires.good was in
    ap (λ (v : View). v.shape 1) (c.in_ok-define.ensures.same clean)
    ∙ table_shape good (g.met.S.Alter.listed store good.unbroken) (g.met.S.Store.ordered store good.unbroken)

pub returns-clause-shown : goal.returns-clause-shown
returns-clause-shown g c clean =
    let store = c.args.store.now in
    let mid : IsClean (g.S.Store.view c.define.new.store) = omega (arith, c.get.ensures.quiet.clean) in
    let was : IsClean (g.S.Store.view store) = omega (arith, c.define.ensures.quiet.clean, c.get.ensures.quiet.clean) in
    let good = c.requires.good was in
    let fits : SFits w64 c.oid_in-oid.result = search rules in
    let id_fits : SFits w64 c.id_of.result = search rules in
    let defines = simp to_z-of_z at (c.in_ok-define.ensures.defines mid c.if-not-branch.false) in
    let found = simp to_z-of_z at (rw c.if-not-branch-2.false at (c.in_ok-get.ensures.ok clean)) in
    let finds = subst (λ (db : Trees). Finds (db 1) c.id_of.result c.get.new.row true)
    (ap (λ (v : View). v.trees) (c.in_ok-define.ensures.same mid)) found in
    c.in_ok-write_shown.ensures
    ∙ shown_read good (g.met.S.Alter.listed store good.unbroken) (g.met.S.Store.ordered store good.unbroken) c.args.entry.now
    (c.requires.entry was)
    c.define.new.definition c.get.new.row c.oid_in-oid.result c.id_of.result defines c.oid_in-oid.ensures c.id_of.ensures finds

pub returns-clause-quiet : goal.returns-clause-quiet
returns-clause-quiet g c = still_quiet c.define.ensures.quiet c.get.ensures.quiet
