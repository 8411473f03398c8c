use Rattle.std.proofs.Common.{ap, ◌∙◌, Some, arith, rules, to_z-of_z, SFits, w64}
use Rattle.sqlite_trees.specs.View.{View, IsClean}
use Rattle.sqlite_rules.proofs.ViewLemmas.{reads_again}
use Rattle.pgtables.specs.Kept.{tables_in, without_row}
use Rattle.pgrows.proofs.Found.{open_of, opened, free_before, stored_before, stored_after}
use Rattle.pgrows.proofs.Found.{reads_good, reads_under, wrote_on, keeps_reads, keeps_writes}
use Rattle.pgrows.proofs.Found.{keeps_then}
use Rattle.pgrows.proofs.Edited.{told_none, told_some, none_removed}
use Rattle.pgrows.proofs.change.remove.Goals as goal

pub find-requires : goal.find-requires
find-requires g c clean =
    reads_good (g.S.Store.view c.args.store.now) (g.S.Store.view c.top_of.new.store) (c.in_ok-top.ensures.same clean)
    (c.in_ok-top.ensures.under clean).good

pub returns-in-None-clause-told : goal.returns-in-None-clause-told
returns-in-None-clause-told g c mid =
    let top : IsClean (g.S.Store.view c.top_of.new.store) = omega (arith, c.find.ensures.quiet.clean) in
    told_none c.args.oid c.args.ident.now (g.S.Store.view c.args.store.now).trees
    (free_before (g.S.Store.view c.args.store.now) (g.S.Store.view c.top_of.new.store) c.args.oid c.args.ident.now
    (c.in_ok-top.ensures.same top) (rw c.in-None.is at (c.in_ok-find.ensures.found mid)))

pub returns-in-None-clause-made : goal.returns-in-None-clause-made
returns-in-None-clause-made g c mid =
    let top : IsClean (g.S.Store.view c.top_of.new.store) = omega (arith, c.find.ensures.quiet.clean) in
    let same = reads_again (g.S.Store.view c.args.store.now) (g.S.Store.view c.top_of.new.store) (g.S.Store.view c.find.new.store)
    (c.in_ok-top.ensures.same top) (c.in_ok-find.ensures.same mid) in
    let under = c.in_ok-top.ensures.under top in
    let up = open_of (g.S.Store.view c.args.store.now) (g.met.S.Store.broken_if_shut c.args.store.now) under.good.unbroken in
    let free = free_before (g.S.Store.view c.args.store.now) (g.S.Store.view c.top_of.new.store) c.args.oid c.args.ident.now
    (c.in_ok-top.ensures.same top) (rw c.in-None.is at (c.in_ok-find.ensures.found mid)) in
    record {
      was_open = up;
      is_open = opened (g.S.Store.view c.args.store.now) (g.S.Store.view c.find.new.store) same up;
      made = ap (λ (v : View). tables_in v.trees) same
          ∙ none_removed c.args.oid c.args.ident.now (g.S.Store.view c.args.store.now).trees under.good.kept.held free;
    }

pub returns-in-None-clause-rows : goal.returns-in-None-clause-rows
returns-in-None-clause-rows g c mid _ =
    let top : IsClean (g.S.Store.view c.top_of.new.store) = omega (arith, c.find.ensures.quiet.clean) in
    let same = reads_again (g.S.Store.view c.args.store.now) (g.S.Store.view c.top_of.new.store) (g.S.Store.view c.find.new.store)
    (c.in_ok-top.ensures.same top) (c.in_ok-find.ensures.same mid) in
    let fits : SFits w64 c.in_ok-top.top = search rules in
    simp to_z-of_z (reads_under (g.S.Store.view c.args.store.now) (g.S.Store.view c.find.new.store) (Some c.in_ok-top.top) same
    (c.in_ok-top.ensures.under top))

pub take_out-requires-clause-good : goal.take_out-requires-clause-good
take_out-requires-clause-good g c mid =
    let top : IsClean (g.S.Store.view c.top_of.new.store) = omega (arith, c.find.ensures.quiet.clean) in
    reads_good (g.S.Store.view c.args.store.now) (g.S.Store.view c.find.new.store)
    (reads_again (g.S.Store.view c.args.store.now) (g.S.Store.view c.top_of.new.store) (g.S.Store.view c.find.new.store)
    (c.in_ok-top.ensures.same top) (c.in_ok-find.ensures.same mid)) (c.in_ok-top.ensures.under top).good

pub take_out-requires-clause-stored : goal.take_out-requires-clause-stored
take_out-requires-clause-stored g c mid =
    let fits : SFits w64 c.in-Some.id = search rules in
    simp to_z-of_z (stored_after (g.S.Store.view c.top_of.new.store) (g.S.Store.view c.find.new.store) c.args.oid c.args.ident.now
    c.in-Some.id (c.in_ok-find.ensures.same mid) (rw c.in-Some.is at (c.in_ok-find.ensures.found mid)))

pub returns-in_ok-take_out-in-Some-clause-told : goal.returns-in_ok-take_out-in-Some-clause-told
returns-in_ok-take_out-in-Some-clause-told g c clean =
    let mid : IsClean (g.S.Store.view c.find.new.store) = omega (arith, c.take_out.ensures.quiet.clean) in
    let top : IsClean (g.S.Store.view c.top_of.new.store) = omega (arith, c.find.ensures.quiet.clean, c.take_out.ensures.quiet.clean) in
    told_some c.args.oid c.args.ident.now (g.S.Store.view c.args.store.now).trees c.in-Some.id
    (c.in_ok-top.ensures.under top).good.kept.held
    (stored_before (g.S.Store.view c.args.store.now) (g.S.Store.view c.top_of.new.store) c.args.oid c.args.ident.now c.in-Some.id
    (c.in_ok-top.ensures.same top) (rw c.in-Some.is at (c.in_ok-find.ensures.found mid)))

pub returns-in_ok-take_out-in-Some-clause-made : goal.returns-in_ok-take_out-in-Some-clause-made
returns-in_ok-take_out-in-Some-clause-made g c clean =
    let mid : IsClean (g.S.Store.view c.find.new.store) = omega (arith, c.take_out.ensures.quiet.clean) in
    let top : IsClean (g.S.Store.view c.top_of.new.store) = omega (arith, c.find.ensures.quiet.clean, c.take_out.ensures.quiet.clean) in
    let same = reads_again (g.S.Store.view c.args.store.now) (g.S.Store.view c.top_of.new.store) (g.S.Store.view c.find.new.store)
    (c.in_ok-top.ensures.same top) (c.in_ok-find.ensures.same mid) in
    let under = c.in_ok-top.ensures.under top in
    let up = open_of (g.S.Store.view c.args.store.now) (g.met.S.Store.broken_if_shut c.args.store.now) under.good.unbroken in
    record {
      was_open = up;
      is_open = ap (λ (v : View). v.is_open) (c.in_ok-take_out-in-Some.ensures.frame clean)
          ∙ opened (g.S.Store.view c.args.store.now) (g.S.Store.view c.find.new.store) same up;
      made = (c.in_ok-take_out-in-Some.ensures.kept clean).1
          ∙ ap (λ (v : View). without_row c.args.oid c.args.ident.now (tables_in v.trees)) same;
    }

pub returns-in_ok-take_out-in-Some-clause-rows : goal.returns-in_ok-take_out-in-Some-clause-rows
returns-in_ok-take_out-in-Some-clause-rows g c clean _ =
    let mid : IsClean (g.S.Store.view c.find.new.store) = omega (arith, c.take_out.ensures.quiet.clean) in
    let top : IsClean (g.S.Store.view c.top_of.new.store) = omega (arith, c.find.ensures.quiet.clean, c.take_out.ensures.quiet.clean) in
    let same = reads_again (g.S.Store.view c.args.store.now) (g.S.Store.view c.top_of.new.store) (g.S.Store.view c.find.new.store)
    (c.in_ok-top.ensures.same top) (c.in_ok-find.ensures.same mid) in
    let under = c.in_ok-top.ensures.under top in
    let fits : SFits w64 c.in_ok-top.top = search rules in
    simp to_z-of_z (wrote_on (g.S.Store.view c.args.store.now) (g.S.Store.view c.find.new.store) (g.S.Store.view c.take_out.new.store)
    (Some c.in_ok-top.top) same under (c.in_ok-take_out-in-Some.ensures.frame clean) (c.in_ok-take_out-in-Some.ensures.kept clean).0
    (c.in_ok-take_out-in-Some.ensures.below clean c.in_ok-top.top
    (reads_under (g.S.Store.view c.args.store.now) (g.S.Store.view c.find.new.store) (Some c.in_ok-top.top) same under).below))

pub returns-in_ok-take_out-in-Some-clause-keeps : goal.returns-in_ok-take_out-in-Some-clause-keeps
returns-in_ok-take_out-in-Some-clause-keeps g c clean =
    let mid : IsClean (g.S.Store.view c.find.new.store) = omega (arith, c.take_out.ensures.quiet.clean) in
    let top : IsClean (g.S.Store.view c.top_of.new.store) = omega (arith, c.find.ensures.quiet.clean, c.take_out.ensures.quiet.clean) in
    let same = reads_again (g.S.Store.view c.args.store.now) (g.S.Store.view c.top_of.new.store) (g.S.Store.view c.find.new.store)
    (c.in_ok-top.ensures.same top) (c.in_ok-find.ensures.same mid) in
    keeps_then g.S.Store c.args.store.now c.find.new.store c.take_out.new.store
    (keeps_reads g.S.Store c.args.store.now c.find.new.store same)
    (keeps_writes g.S.Store c.find.new.store c.take_out.new.store (c.in_ok-take_out-in-Some.ensures.frame clean))
