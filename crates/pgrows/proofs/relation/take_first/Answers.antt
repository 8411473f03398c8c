use Rattle.std.proofs.Common.{◌≡◌, true≢false, sym, ap, subst, ◌∙◌, Some, arith, rules, to_z-of_z}
use Rattle.std.proofs.Common.{SFits, w64}
use Rattle.sqlite_value.specs.Order.{column}
use Rattle.sqlite_trees.specs.View.{View, IsClean}
use Rattle.pgtables.specs.Kept.{tables_in, without_rows}
use Rattle.pgrows.specs.Rows.{IsStored}
use Rattle.pgrows.proofs.Found.{stored_after, reads_good, reads_under, wrote_on, keeps_reads}
use Rattle.pgrows.proofs.Found.{keeps_writes, keeps_then}
use Rattle.pgrows.proofs.Emptied.{one_less, none_of_it}
use Rattle.pgrows.proofs.relation.take_first.Goals as goal

pub first_of-requires : goal.first_of-requires
first_of-requires g c clean = (c.requires clean).good

pub returns-in-None-clause-one : goal.returns-in-None-clause-one
returns-in-None-clause-one g c mid = ap (λ (v : View). without_rows c.args.oid (tables_in v.trees)) (c.in_ok-first_of.ensures.same mid)

pub returns-in-None-clause-none : goal.returns-in-None-clause-none
returns-in-None-clause-none g c mid _ =
    let was : IsClean (g.S.Store.view c.args.store.now) = omega (arith, c.first_of.ensures.quiet.clean) in
    ap (λ (v : View). tables_in v.trees) (c.in_ok-first_of.ensures.same mid)
    ∙ none_of_it c.args.oid (g.S.Store.view c.args.store.now).trees (c.requires was).good.kept.held
    (rw c.in-None.is at (c.in_ok-first_of.ensures.found mid))

pub returns-in-None-clause-under : goal.returns-in-None-clause-under
returns-in-None-clause-under g c mid =
    let was : IsClean (g.S.Store.view c.args.store.now) = omega (arith, c.first_of.ensures.quiet.clean) in
    reads_under (g.S.Store.view c.args.store.now) (g.S.Store.view c.first_of.new.store) (Some c.args._top)
    (c.in_ok-first_of.ensures.same mid) (c.requires was)

pub take_out-requires-clause-good : goal.take_out-requires-clause-good
take_out-requires-clause-good g c mid =
    let was : IsClean (g.S.Store.view c.args.store.now) = omega (arith, c.first_of.ensures.quiet.clean) in
    reads_good (g.S.Store.view c.args.store.now) (g.S.Store.view c.first_of.new.store) (c.in_ok-first_of.ensures.same mid)
    (c.requires was).good

pub take_out-requires-clause-stored : goal.take_out-requires-clause-stored
take_out-requires-clause-stored g c mid =
    let first = rw c.in-Some.is at (c.in_ok-first_of.ensures.found mid) in
    let ident : c.blob_in.result.now ≡ first.0 = c.blob_in.ensures first.0 (c.get.ensures ∙ ap (λ e. column e 1) first.1) in
    let fits : SFits w64 c.in-Some.id = search rules in
    simp to_z-of_z (subst (λ i. IsStored c.args.oid i ((g.S.Store.view c.first_of.new.store).trees 1) c.in-Some.id) (sym ident)
    (stored_after (g.S.Store.view c.args.store.now) (g.S.Store.view c.first_of.new.store) c.args.oid first.0 c.in-Some.id
    (c.in_ok-first_of.ensures.same mid) first.2))

pub returns-in_ok-take_out-in-Some-clause-one : goal.returns-in_ok-take_out-in-Some-clause-one
returns-in_ok-take_out-in-Some-clause-one g c clean =
    let mid : IsClean (g.S.Store.view c.first_of.new.store) = omega (arith, c.take_out.ensures.quiet.clean) in
    ap (without_rows c.args.oid) (c.in_ok-take_out-in-Some.ensures.kept clean).1
    ∙ one_less c.args.oid c.blob_in.result.now (tables_in (g.S.Store.view c.first_of.new.store).trees)
    ∙ ap (λ (v : View). without_rows c.args.oid (tables_in v.trees)) (c.in_ok-first_of.ensures.same mid)

pub returns-in_ok-take_out-in-Some-clause-none : goal.returns-in_ok-take_out-in-Some-clause-none
returns-in_ok-take_out-in-Some-clause-none g c clean is = absurd (true≢false is)

pub returns-in_ok-take_out-in-Some-clause-under : goal.returns-in_ok-take_out-in-Some-clause-under
returns-in_ok-take_out-in-Some-clause-under g c clean =
    let mid : IsClean (g.S.Store.view c.first_of.new.store) = omega (arith, c.take_out.ensures.quiet.clean) in
    let was : IsClean (g.S.Store.view c.args.store.now) = omega (arith, c.first_of.ensures.quiet.clean, c.take_out.ensures.quiet.clean) in
    let same = c.in_ok-first_of.ensures.same mid in
    wrote_on (g.S.Store.view c.args.store.now) (g.S.Store.view c.first_of.new.store) (g.S.Store.view c.take_out.new.store)
    (Some c.args._top) same (c.requires was) (c.in_ok-take_out-in-Some.ensures.frame clean)
    (c.in_ok-take_out-in-Some.ensures.kept clean).0
    (c.in_ok-take_out-in-Some.ensures.below clean c.args._top
    (reads_under (g.S.Store.view c.args.store.now) (g.S.Store.view c.first_of.new.store) (Some c.args._top) same
    (c.requires was)).below)

pub returns-in_ok-take_out-in-Some-clause-keeps : goal.returns-in_ok-take_out-in-Some-clause-keeps
returns-in_ok-take_out-in-Some-clause-keeps g c clean =
    let mid : IsClean (g.S.Store.view c.first_of.new.store) = omega (arith, c.take_out.ensures.quiet.clean) in
    keeps_then g.S.Store c.args.store.now c.first_of.new.store c.take_out.new.store
    (keeps_reads g.S.Store c.args.store.now c.first_of.new.store (c.in_ok-first_of.ensures.same mid))
    (keeps_writes g.S.Store c.first_of.new.store c.take_out.new.store (c.in_ok-take_out-in-Some.ensures.frame clean))
