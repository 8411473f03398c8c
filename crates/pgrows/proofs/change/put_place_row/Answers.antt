use Rattle.std.proofs.Common.{sym, ap, ◌∙◌, arith}
use Rattle.std.proofs.lemmas.Result.{on_ok_weaker}
use Rattle.sqlite_trees.specs.View.{View, IsClean}
use Rattle.sqlite_rules.proofs.ViewLemmas.{on_ok_both}
use Rattle.pgrows.proofs.SetUp.{place_shape}
use Rattle.pgrows.proofs.Found.{open_of, wrote_under, low_still}
use Rattle.pgrows.proofs.Position.{placed_by, rows_stay}
use Rattle.pgrows.proofs.change.put_place_row.Goals as goal

pub put-requires-clause-table : goal.put-requires-clause-table
put-requires-clause-table g c clean =
    let store = c.args.store.now in
    let unbroken = sym (c.is_broken.ensures clean) ∙ c.if-is_broken.false in
    let up = open_of (g.S.Store.view store) (g.met.S.Store.broken_if_shut store) unbroken in
    place_shape (c.requires clean up).good (g.met.S.Alter.listed store unbroken) (g.met.S.Store.ordered store unbroken)

pub returns-clause-made : goal.returns-clause-made
returns-clause-made g c clean =
    let store = c.args.store.now in
    let was : IsClean (g.S.Store.view store) = omega (arith, c.put.ensures.quiet.clean) in
    on_ok_weaker c.put.result (λ done.
    let sets = done clean in
    let up = open_of (g.S.Store.view store) (g.met.S.Store.broken_if_shut store) sets.sound in
    let it = placed_by c.args.position.now (g.S.Store.view store) (g.S.Store.view c.put.new.self) c.write_place.new.row
    c.in_ok-write_place.ensures (c.requires was up).good sets in
    record { was_open = up; is_open = ap (λ (v : View). v.is_open) sets.is ∙ up; made = it.1 }) c.put.ensures.ok

pub returns-clause-rows : goal.returns-clause-rows
returns-clause-rows g c =
    let store = c.args.store.now in
    on_ok_both c.put.result (λ done frame clean still.
    let was : IsClean (g.S.Store.view store) = omega (arith, c.put.ensures.quiet.clean) in
    let sets = done clean in
    let up = open_of (g.S.Store.view store) (g.met.S.Store.broken_if_shut store) sets.sound in
    let under = c.requires was up in
    let it = placed_by c.args.position.now (g.S.Store.view store) (g.S.Store.view c.put.new.self) c.write_place.new.row
    c.in_ok-write_place.ensures under.good sets in
    wrote_under _ _ c.args._last (frame clean) under.good under.behind it.0
    (low_still c.args._last (g.S.Store.view store).committed ((g.S.Store.view store).trees 1) ((g.S.Store.view c.put.new.self).trees 1)
    (rows_stay (g.S.Store.view store) (g.S.Store.view c.put.new.self) c.write_place.new.row sets) under.below)) c.put.ensures.ok
    c.put.ensures.frame
