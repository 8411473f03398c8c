use Rattle.std.proofs.Common.{arith, rules, to_z-of_z, SFits, w64}
use Rattle.sqlite_trees.specs.View.{IsClean}
use Rattle.pgtables.specs.Kept.{copies_in}
use Rattle.pgrows.specs.Dump.{row_at}
use Rattle.pgrows.specs.Stored.{HasCopies}
use Rattle.pgrows.proofs.SetUp.{table_shape}
use Rattle.pgrows.proofs.StoredRows.{of_copies, passed_on, same_copies}
use Rattle.pgrows.proofs.Reading.{row_read}
use Rattle.pgrows.proofs.walk.read_entry.Goals as goal

pub get-requires : goal.get-requires
get-requires g c clean =
    let store = c.args.store.now in
    let good = c.requires.good clean in
    table_shape good (g.met.S.Alter.listed store good.unbroken) (g.met.S.Store.ordered store good.unbroken)

pub returns-in_err-stored-clause-formed : goal.returns-in_err-stored-clause-formed
returns-in_err-stored-clause-formed g c clean fits =
    let store = c.args.store.now in
    let was : IsClean (g.S.Store.view store) = omega (arith, c.get.ensures.quiet.clean) in
    let good = c.requires.good was in
    let in_range : SFits w64 c.id_of.result = search rules in
    let found = simp to_z-of_z at (rw c.if-not-branch.false at (c.in_ok-get.ensures.ok clean)) in
    let has = row_read good (g.met.S.Alter.listed store good.unbroken) (g.met.S.Store.ordered store good.unbroken) c.args.entry.now
    (c.requires.entry was) c.get.new.row c.id_of.result c.id_of.ensures found in
    passed_on _ _ (c.in_err-stored.ensures.formed
    (of_copies c.read_copies.result c.get.new.row (copies_in (row_at ((g.S.Store.view store).trees 1) c.args.entry.now))
    c.read_copies.ensures.memory has fits)) c.from_residual-in_err-stored.ensures.1

pub returns-clause-read : goal.returns-clause-read
returns-clause-read g c clean =
    let store = c.args.store.now in
    let was : IsClean (g.S.Store.view store) = omega (arith, c.get.ensures.quiet.clean) in
    let good = c.requires.good was in
    let in_range : SFits w64 c.id_of.result = search rules in
    let found = simp to_z-of_z at (rw c.if-not-branch.false at (c.in_ok-get.ensures.ok clean)) in
    let has = row_read good (g.met.S.Alter.listed store good.unbroken) (g.met.S.Store.ordered store good.unbroken) c.args.entry.now
    (c.requires.entry was) c.get.new.row c.id_of.result c.id_of.ensures found in
    let read : HasCopies c.get.new.row c.in_ok-stored.stored = rw c.in_ok-stored.ensures.ok at c.read_copies.ensures.read in
    same_copies c.get.new.row (copies_in (row_at ((g.S.Store.view store).trees 1) c.args.entry.now)) c.in_ok-stored.stored has read
