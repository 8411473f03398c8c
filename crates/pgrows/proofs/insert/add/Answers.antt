use Rattle.std.proofs.Common.{true≢false, sym, ap, subst, ◌∙◌, Some, arith, rules, to_z-of_z, SFits}
use Rattle.std.proofs.Common.{w64}
use Rattle.sqlite_trees.specs.View.{View, IsClean}
use Rattle.sqlite_rules.proofs.ViewLemmas.{reads_again, still_quiet}
use Rattle.pgtables.specs.Kept.{tables_in, with_row}
use Rattle.pgrows.proofs.Found.{open_of, opened, free_is, stored_some, free_before, free_after}
use Rattle.pgrows.proofs.Found.{stored_before, reads_good, reads_under, grew_on, keeps_reads}
use Rattle.pgrows.proofs.Found.{keeps_writes, keeps_then}
use Rattle.pgrows.specs.Gap.{IsGap, IsNext}
use Rattle.pgrows.specs.Rows.{tables_of}
use Rattle.pgrows.proofs.Gaps.{gap_none, put_gap}
use Rattle.pgrows.proofs.insert.add.Goals as goal

pub is_missing-requires-clause-good : goal.is_missing-requires-clause-good
is_missing-requires-clause-good g c clean =
    reads_good (g.S.Store.view c.args.store.now) (g.S.Store.view c.top_of.new.store) (c.in_ok-top.ensures.same clean)
    (c.in_ok-top.ensures.under clean).good

pub returns-then-not-branch-clause-added : goal.returns-then-not-branch-clause-added
returns-then-not-branch-clause-added g c clean is = absurd (true≢false (sym is))

pub returns-then-not-branch-clause-there : goal.returns-then-not-branch-clause-there
returns-then-not-branch-clause-there g c mid _ =
    let top : IsClean (g.S.Store.view c.top_of.new.store) = omega (arith, c.is_missing.ensures.quiet.clean) in
    let same = reads_again (g.S.Store.view c.args.store.now) (g.S.Store.view c.top_of.new.store) (g.S.Store.view c.is_missing.new.store)
    (c.in_ok-top.ensures.same top) (c.in_ok-is_missing.ensures.same mid) in
    let under = c.in_ok-top.ensures.under top in
    let up = open_of (g.S.Store.view c.args.store.now) (g.met.S.Store.broken_if_shut c.args.store.now) under.good.unbroken in
    let s = c.in_ok-is_missing.ensures.there mid c.if-not-branch.true in (
      stored_some c.args.oid c.args.ident.now _ s.0 under.good.kept.held
          (stored_before (g.S.Store.view c.args.store.now) (g.S.Store.view c.top_of.new.store) c.args.oid c.args.ident.now s.0
          (c.in_ok-top.ensures.same top) s.1),
      record {
        was_open = up;
        is_open = opened (g.S.Store.view c.args.store.now) (g.S.Store.view c.is_missing.new.store) same up;
        made = ap (λ (v : View). tables_in v.trees) same;
      },
    )

pub returns-then-not-branch-clause-rows : goal.returns-then-not-branch-clause-rows
returns-then-not-branch-clause-rows g c mid _ =
    let top : IsClean (g.S.Store.view c.top_of.new.store) = omega (arith, c.is_missing.ensures.quiet.clean) in
    let same = reads_again (g.S.Store.view c.args.store.now) (g.S.Store.view c.top_of.new.store) (g.S.Store.view c.is_missing.new.store)
    (c.in_ok-top.ensures.same top) (c.in_ok-is_missing.ensures.same mid) in
    let fits : SFits w64 c.in_ok-top.top = search rules in
    simp to_z-of_z (reads_under (g.S.Store.view c.args.store.now) (g.S.Store.view c.is_missing.new.store) (Some c.in_ok-top.top) same
    (c.in_ok-top.ensures.under top))

pub append-requires-clause-good : goal.append-requires-clause-good
append-requires-clause-good g c mid =
    let top : IsClean (g.S.Store.view c.top_of.new.store) = omega (arith, c.is_missing.ensures.quiet.clean) in
    reads_good (g.S.Store.view c.args.store.now) (g.S.Store.view c.is_missing.new.store)
    (reads_again (g.S.Store.view c.args.store.now) (g.S.Store.view c.top_of.new.store) (g.S.Store.view c.is_missing.new.store)
    (c.in_ok-top.ensures.same top) (c.in_ok-is_missing.ensures.same mid)) (c.in_ok-top.ensures.under top).good

pub append-requires-clause-free : goal.append-requires-clause-free
append-requires-clause-free g c mid =
    free_after (g.S.Store.view c.top_of.new.store) (g.S.Store.view c.is_missing.new.store) c.args.oid c.args.ident.now
    (c.in_ok-is_missing.ensures.same mid)
    (c.in_ok-is_missing.ensures.free mid c.if-not-branch.false)

pub append-requires-clause-below : goal.append-requires-clause-below
append-requires-clause-below g c mid =
    let top : IsClean (g.S.Store.view c.top_of.new.store) = omega (arith, c.is_missing.ensures.quiet.clean) in
    let same = reads_again (g.S.Store.view c.args.store.now) (g.S.Store.view c.top_of.new.store) (g.S.Store.view c.is_missing.new.store)
    (c.in_ok-top.ensures.same top) (c.in_ok-is_missing.ensures.same mid) in
    let fits : SFits w64 c.in_ok-top.top = search rules in
    simp to_z-of_z ((reads_under (g.S.Store.view c.args.store.now) (g.S.Store.view c.is_missing.new.store) (Some c.in_ok-top.top) same
    (c.in_ok-top.ensures.under top)).below)

pub returns-clause-added : goal.returns-clause-added
returns-clause-added g c clean _ =
    let mid : IsClean (g.S.Store.view c.is_missing.new.store) = omega (arith, c.append.ensures.quiet.clean) in
    let top : IsClean (g.S.Store.view c.top_of.new.store) = omega (arith, c.is_missing.ensures.quiet.clean, c.append.ensures.quiet.clean) in
    let same = reads_again (g.S.Store.view c.args.store.now) (g.S.Store.view c.top_of.new.store) (g.S.Store.view c.is_missing.new.store)
    (c.in_ok-top.ensures.same top) (c.in_ok-is_missing.ensures.same mid) in
    let under = c.in_ok-top.ensures.under top in
    let up = open_of (g.S.Store.view c.args.store.now) (g.met.S.Store.broken_if_shut c.args.store.now) under.good.unbroken in
    let free = c.in_ok-is_missing.ensures.free mid c.if-not-branch.false in (
      free_is c.args.oid c.args.ident.now _
          (free_before (g.S.Store.view c.args.store.now) (g.S.Store.view c.top_of.new.store) c.args.oid c.args.ident.now
          (c.in_ok-top.ensures.same top) free),
      record {
        was_open = up;
        is_open = ap (λ (v : View). v.is_open) (c.in_ok-id.ensures.frame clean)
            ∙ opened (g.S.Store.view c.args.store.now) (g.S.Store.view c.is_missing.new.store) same up;
        made = (c.in_ok-id.ensures.kept clean).1
            ∙ ap (λ (v : View). with_row c.args.oid c.args.ident.now (record { body = c.args.body.now; copies = c.args.copies })
            (tables_in v.trees)) same;
      },
    )

pub returns-clause-there : goal.returns-clause-there
returns-clause-there g c clean is = absurd (true≢false is)

pub returns-clause-rows : goal.returns-clause-rows
returns-clause-rows g c clean _ =
    let mid : IsClean (g.S.Store.view c.is_missing.new.store) = omega (arith, c.append.ensures.quiet.clean) in
    let top : IsClean (g.S.Store.view c.top_of.new.store) = omega (arith, c.is_missing.ensures.quiet.clean, c.append.ensures.quiet.clean) in
    let same = reads_again (g.S.Store.view c.args.store.now) (g.S.Store.view c.top_of.new.store) (g.S.Store.view c.is_missing.new.store)
    (c.in_ok-top.ensures.same top) (c.in_ok-is_missing.ensures.same mid) in
    let fits : SFits w64 c.in_ok-id.id = search rules in
    let top_fits : SFits w64 c.in_ok-top.top = search rules in
    let above = simp to_z-of_z at c.in_ok-id.ensures.above in
    simp to_z-of_z (grew_on (g.S.Store.view c.args.store.now) (g.S.Store.view c.is_missing.new.store) (g.S.Store.view c.append.new.store)
    c.in_ok-top.top c.in_ok-id.id above same (c.in_ok-top.ensures.under top) (c.in_ok-id.ensures.frame clean)
    (c.in_ok-id.ensures.kept clean).0 (c.in_ok-id.ensures.below clean))

pub returns-clause-keeps : goal.returns-clause-keeps
returns-clause-keeps g c clean =
    let mid : IsClean (g.S.Store.view c.is_missing.new.store) = omega (arith, c.append.ensures.quiet.clean) in
    let top : IsClean (g.S.Store.view c.top_of.new.store) = omega (arith, c.is_missing.ensures.quiet.clean, c.append.ensures.quiet.clean) in
    let same = reads_again (g.S.Store.view c.args.store.now) (g.S.Store.view c.top_of.new.store) (g.S.Store.view c.is_missing.new.store)
    (c.in_ok-top.ensures.same top) (c.in_ok-is_missing.ensures.same mid) in
    keeps_then g.S.Store c.args.store.now c.is_missing.new.store c.append.new.store
    (keeps_reads g.S.Store c.args.store.now c.is_missing.new.store same)
    (keeps_writes g.S.Store c.is_missing.new.store c.append.new.store (c.in_ok-id.ensures.frame clean))

pub returns-clause-quiet : goal.returns-clause-quiet
returns-clause-quiet g c = still_quiet c.top_of.ensures.quiet (still_quiet c.is_missing.ensures.quiet c.append.ensures.quiet)

pub is_missing-requires-clause-gap : goal.is_missing-requires-clause-gap
is_missing-requires-clause-gap g c clean =
    let was : IsClean (g.S.Store.view c.args.store.now) = omega (arith, c.top_of.ensures.quiet.clean) in
    let under = c.in_ok-top.ensures.under clean in
    let up = open_of (g.S.Store.view c.args.store.now) (g.met.S.Store.broken_if_shut c.args.store.now) under.good.unbroken in
    subst (λ (v : View). IsGap c.args.low.now c.args.high.now (tables_in v.trees).rows) (sym (c.in_ok-top.ensures.same clean))
    (c.requires.gap was up)

pub returns-then-not-branch-clause-gap : goal.returns-then-not-branch-clause-gap
returns-then-not-branch-clause-gap g c = rw c.clear.ensures (gap_none g.S.Store c.is_missing.new.store c.is_missing.new.high)

pub returns-clause-gap : goal.returns-clause-gap
returns-clause-gap g c clean _ =
    let mid : IsClean (g.S.Store.view c.is_missing.new.store) = omega (arith, c.append.ensures.quiet.clean) in
    let next : IsNext c.args.oid c.args.ident.now c.is_missing.new.high (tables_of g.S.Store c.is_missing.new.store).rows =
    subst (λ (v : View). IsNext c.args.oid c.args.ident.now c.is_missing.new.high (tables_in v.trees).rows)
    (sym (c.in_ok-is_missing.ensures.same mid)) (c.in_ok-is_missing.ensures.next mid) in
    put_gap c.args.oid c.args.ident.now c.in_ok-id.id (record { body = c.args.body.now; copies = c.args.copies }) c.append.new.entry
    c.is_missing.new.high (tables_of g.S.Store c.is_missing.new.store) (tables_of g.S.Store c.append.new.store)
    c.in_ok-id.ensures.entry (c.in_ok-id.ensures.kept clean).1 next
