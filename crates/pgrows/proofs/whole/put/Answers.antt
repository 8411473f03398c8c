use Rattle.std.proofs.Common.{ap, ◌∙◌, Some, arith, rules, to_z-of_z, SFits, w64}
use Rattle.sqlite_trees.specs.View.{View, IsClean}
use Rattle.sqlite_rules.proofs.ViewLemmas.{reads_again, still_quiet}
use Rattle.pgtables.specs.Kept.{tables_in, with_row}
use Rattle.pgrows.proofs.Found.{open_of, opened, free_after, stored_after, reads_good, reads_under}
use Rattle.pgrows.proofs.Found.{wrote_on, grew_on, keeps_reads, keeps_writes, keeps_then}
use Rattle.pgrows.proofs.whole.put.Goals as goal

pub find-requires : goal.find-requires
find-requires g c clean =
    reads_good (g.S.Store.view c.args.store.now) (g.S.Store.view c.top_of.new.store) (c.in_ok-top.ensures.same clean)
    (c.in_ok-top.ensures.under clean).good

pub put_over-requires-clause-good : goal.put_over-requires-clause-good
put_over-requires-clause-good g c mid =
    let top : IsClean (g.S.Store.view c.top_of.new.store) = omega (arith, c.find.ensures.quiet.clean) in
    reads_good (g.S.Store.view c.args.store.now) (g.S.Store.view c.find.new.store)
    (reads_again (g.S.Store.view c.args.store.now) (g.S.Store.view c.top_of.new.store) (g.S.Store.view c.find.new.store)
    (c.in_ok-top.ensures.same top) (c.in_ok-id.ensures.same mid)) (c.in_ok-top.ensures.under top).good

pub put_over-requires-clause-stored : goal.put_over-requires-clause-stored
put_over-requires-clause-stored g c mid =
    let fits : SFits w64 c.in-Some.id = search rules in
    simp to_z-of_z (stored_after (g.S.Store.view c.top_of.new.store) (g.S.Store.view c.find.new.store) c.args.oid c.args.ident.now
    c.in-Some.id (c.in_ok-id.ensures.same mid) (rw c.in-Some.is at (c.in_ok-id.ensures.found mid)))

pub returns-in_ok-put_over-in-Some-clause-made : goal.returns-in_ok-put_over-in-Some-clause-made
returns-in_ok-put_over-in-Some-clause-made g c clean =
    let mid : IsClean (g.S.Store.view c.find.new.store) = omega (arith, c.put_over.ensures.quiet.clean) in
    let top : IsClean (g.S.Store.view c.top_of.new.store) = omega (arith, c.find.ensures.quiet.clean, c.put_over.ensures.quiet.clean) in
    let same = reads_again (g.S.Store.view c.args.store.now) (g.S.Store.view c.top_of.new.store) (g.S.Store.view c.find.new.store)
    (c.in_ok-top.ensures.same top) (c.in_ok-id.ensures.same mid) in
    let under = c.in_ok-top.ensures.under top in
    let up = open_of (g.S.Store.view c.args.store.now) (g.met.S.Store.broken_if_shut c.args.store.now) under.good.unbroken in
    record {
      was_open = up;
      is_open = ap (λ (v : View). v.is_open) (c.in_ok-put_over-in-Some.ensures.frame clean)
          ∙ opened (g.S.Store.view c.args.store.now) (g.S.Store.view c.find.new.store) same up;
      made = (c.in_ok-put_over-in-Some.ensures.kept clean).1
          ∙ ap (λ (v : View). with_row c.args.oid c.args.ident.now (record { body = c.args.body.now; copies = c.args.copies })
          (tables_in v.trees)) same;
    }

pub returns-in_ok-put_over-in-Some-clause-rows : goal.returns-in_ok-put_over-in-Some-clause-rows
returns-in_ok-put_over-in-Some-clause-rows g c clean _ =
    let mid : IsClean (g.S.Store.view c.find.new.store) = omega (arith, c.put_over.ensures.quiet.clean) in
    let top : IsClean (g.S.Store.view c.top_of.new.store) = omega (arith, c.find.ensures.quiet.clean, c.put_over.ensures.quiet.clean) in
    let same = reads_again (g.S.Store.view c.args.store.now) (g.S.Store.view c.top_of.new.store) (g.S.Store.view c.find.new.store)
    (c.in_ok-top.ensures.same top) (c.in_ok-id.ensures.same mid) in
    let under = c.in_ok-top.ensures.under top in
    let fits : SFits w64 c.in_ok-top.top = search rules in
    simp to_z-of_z (wrote_on (g.S.Store.view c.args.store.now) (g.S.Store.view c.find.new.store) (g.S.Store.view c.put_over.new.store)
    (Some c.in_ok-top.top) same under (c.in_ok-put_over-in-Some.ensures.frame clean) (c.in_ok-put_over-in-Some.ensures.kept clean).0
    (c.in_ok-put_over-in-Some.ensures.below clean c.in_ok-top.top
    (reads_under (g.S.Store.view c.args.store.now) (g.S.Store.view c.find.new.store) (Some c.in_ok-top.top) same under).below))

pub returns-in_ok-put_over-in-Some-clause-keeps : goal.returns-in_ok-put_over-in-Some-clause-keeps
returns-in_ok-put_over-in-Some-clause-keeps g c clean =
    let mid : IsClean (g.S.Store.view c.find.new.store) = omega (arith, c.put_over.ensures.quiet.clean) in
    let top : IsClean (g.S.Store.view c.top_of.new.store) = omega (arith, c.find.ensures.quiet.clean, c.put_over.ensures.quiet.clean) in
    let same = reads_again (g.S.Store.view c.args.store.now) (g.S.Store.view c.top_of.new.store) (g.S.Store.view c.find.new.store)
    (c.in_ok-top.ensures.same top) (c.in_ok-id.ensures.same mid) in
    keeps_then g.S.Store c.args.store.now c.find.new.store c.put_over.new.store
    (keeps_reads g.S.Store c.args.store.now c.find.new.store same)
    (keeps_writes g.S.Store c.find.new.store c.put_over.new.store (c.in_ok-put_over-in-Some.ensures.frame clean))

pub append-requires-clause-good : goal.append-requires-clause-good
append-requires-clause-good g c mid =
    let top : IsClean (g.S.Store.view c.top_of.new.store) = omega (arith, c.find.ensures.quiet.clean) in
    reads_good (g.S.Store.view c.args.store.now) (g.S.Store.view c.find.new.store)
    (reads_again (g.S.Store.view c.args.store.now) (g.S.Store.view c.top_of.new.store) (g.S.Store.view c.find.new.store)
    (c.in_ok-top.ensures.same top) (c.in_ok-id.ensures.same mid)) (c.in_ok-top.ensures.under top).good

pub append-requires-clause-free : goal.append-requires-clause-free
append-requires-clause-free g c mid =
    free_after (g.S.Store.view c.top_of.new.store) (g.S.Store.view c.find.new.store) c.args.oid c.args.ident.now
    (c.in_ok-id.ensures.same mid) (rw c.in-None.is at (c.in_ok-id.ensures.found mid))

pub append-requires-clause-below : goal.append-requires-clause-below
append-requires-clause-below g c mid =
    let top : IsClean (g.S.Store.view c.top_of.new.store) = omega (arith, c.find.ensures.quiet.clean) in
    let same = reads_again (g.S.Store.view c.args.store.now) (g.S.Store.view c.top_of.new.store) (g.S.Store.view c.find.new.store)
    (c.in_ok-top.ensures.same top) (c.in_ok-id.ensures.same mid) in
    let fits : SFits w64 c.in_ok-top.top = search rules in
    simp to_z-of_z ((reads_under (g.S.Store.view c.args.store.now) (g.S.Store.view c.find.new.store) (Some c.in_ok-top.top) same
    (c.in_ok-top.ensures.under top)).below)

pub returns-in_ok-id-in-None-clause-made : goal.returns-in_ok-id-in-None-clause-made
returns-in_ok-id-in-None-clause-made g c clean =
    let mid : IsClean (g.S.Store.view c.find.new.store) = omega (arith, c.append.ensures.quiet.clean) in
    let top : IsClean (g.S.Store.view c.top_of.new.store) = omega (arith, c.find.ensures.quiet.clean, c.append.ensures.quiet.clean) in
    let same = reads_again (g.S.Store.view c.args.store.now) (g.S.Store.view c.top_of.new.store) (g.S.Store.view c.find.new.store)
    (c.in_ok-top.ensures.same top) (c.in_ok-id.ensures.same mid) in
    let under = c.in_ok-top.ensures.under top in
    let up = open_of (g.S.Store.view c.args.store.now) (g.met.S.Store.broken_if_shut c.args.store.now) under.good.unbroken in
    record {
      was_open = up;
      is_open = ap (λ (v : View). v.is_open) (c.in_ok-id-in-None.ensures.frame clean)
          ∙ opened (g.S.Store.view c.args.store.now) (g.S.Store.view c.find.new.store) same up;
      made = (c.in_ok-id-in-None.ensures.kept clean).1
          ∙ ap (λ (v : View). with_row c.args.oid c.args.ident.now (record { body = c.args.body.now; copies = c.args.copies })
          (tables_in v.trees)) same;
    }

pub returns-in_ok-id-in-None-clause-rows : goal.returns-in_ok-id-in-None-clause-rows
returns-in_ok-id-in-None-clause-rows g c clean _ =
    let mid : IsClean (g.S.Store.view c.find.new.store) = omega (arith, c.append.ensures.quiet.clean) in
    let top : IsClean (g.S.Store.view c.top_of.new.store) = omega (arith, c.find.ensures.quiet.clean, c.append.ensures.quiet.clean) in
    let same = reads_again (g.S.Store.view c.args.store.now) (g.S.Store.view c.top_of.new.store) (g.S.Store.view c.find.new.store)
    (c.in_ok-top.ensures.same top) (c.in_ok-id.ensures.same mid) in
    let fits : SFits w64 c.in_ok-id-in-None.id = search rules in
    let top_fits : SFits w64 c.in_ok-top.top = search rules in
    let above = simp to_z-of_z at c.in_ok-id-in-None.ensures.above in
    simp to_z-of_z (grew_on (g.S.Store.view c.args.store.now) (g.S.Store.view c.find.new.store) (g.S.Store.view c.append.new.store)
    c.in_ok-top.top c.in_ok-id-in-None.id above same (c.in_ok-top.ensures.under top) (c.in_ok-id-in-None.ensures.frame clean)
    (c.in_ok-id-in-None.ensures.kept clean).0 (c.in_ok-id-in-None.ensures.below clean))

pub returns-in_ok-id-in-None-clause-keeps : goal.returns-in_ok-id-in-None-clause-keeps
returns-in_ok-id-in-None-clause-keeps g c clean =
    let mid : IsClean (g.S.Store.view c.find.new.store) = omega (arith, c.append.ensures.quiet.clean) in
    let top : IsClean (g.S.Store.view c.top_of.new.store) = omega (arith, c.find.ensures.quiet.clean, c.append.ensures.quiet.clean) in
    let same = reads_again (g.S.Store.view c.args.store.now) (g.S.Store.view c.top_of.new.store) (g.S.Store.view c.find.new.store)
    (c.in_ok-top.ensures.same top) (c.in_ok-id.ensures.same mid) in
    keeps_then g.S.Store c.args.store.now c.find.new.store c.append.new.store (keeps_reads g.S.Store c.args.store.now c.find.new.store same)
    (keeps_writes g.S.Store c.find.new.store c.append.new.store (c.in_ok-id-in-None.ensures.frame clean))

pub returns-in_ok-id-in-None-clause-quiet : goal.returns-in_ok-id-in-None-clause-quiet
returns-in_ok-id-in-None-clause-quiet g c = still_quiet c.top_of.ensures.quiet (still_quiet c.find.ensures.quiet c.append.ensures.quiet)
