use Rattle.std.proofs.Common.{◌≡◌, ◌+◌, Ok, List, [], length}
use Rattle.std.proofs.Common.{sym, ap, subst, ◌∙◌, arith, true≢false}
use Rattle.std.specs.Prelude.{unwrap_or}
use Rattle.sqlite_value.specs.Order.{Row}
use Rattle.sqlite_trees.specs.View.{View, IsClean}
use Rattle.sqlite_rules.proofs.ViewLemmas.{still_quiet}
use Rattle.sqlite_exec.specs.Loops.{left_of}
use Rattle.sqlite_exec.proofs.CheckLemmas as lemma
use Rattle.sqlite_exec.proofs.MarkLemmas.{only_reads_then}
use Rattle.pgverify.specs.Seen.{HasGiven, IsNamed, IsSameKey}
use Rattle.pgverify.proofs.Given.{placed_reads, sought_all, still_given}
use Rattle.pgverify.proofs.Matching.{IsMatching, none_matched, one_matched, all_matched, same_count}
use Rattle.pgverify.proofs.keys.are_matched.Goals as goal

pub entries-init : goal.entries-init
entries-init g c = (
  c.in_ok-seek.ensures.live,
  c.in_ok-seek.ensures.stay 1 c.in_ok-rows.ensures.live,
  (λ clean.
      let mid : IsClean (g.S.Store.view c.begin.new.store) = omega (arith, c.seek.ensures.quiet.clean, clean) in
      only_reads_then (g.S.Store.view c.args.store.now) (g.S.Store.view c.begin.new.store) (g.S.Store.view c.seek.new.self)
      (c.in_ok-rows.ensures.same mid)
      (placed_reads (g.S.Store.view c.begin.new.store) (g.S.Store.view c.seek.new.self) 0 _ (c.in_ok-seek.ensures.ok clean))),
  still_quiet c.begin.ensures.quiet c.seek.ensures.quiet,
  (λ clean.
      let mid : IsClean (g.S.Store.view c.begin.new.store) = omega (arith, c.seek.ensures.quiet.clean, clean) in
      still_given (g.S.Store.view c.begin.new.store) (g.S.Store.view c.seek.new.self) _ _ _ (c.in_ok-seek.ensures.ok clean)
      (c.in_ok-rows.ensures.given mid)),
  (λ clean.
      let old = g.S.Store.view c.args.store.now in
      let begun = g.S.Store.view c.begin.new.store in
      let mid : IsClean begun = omega (arith, c.seek.ensures.quiet.clean, clean) in
      let trees : begun.trees 2 ≡ old.trees 2 = ap (λ (v : View). v.trees 2) (c.in_ok-rows.ensures.same mid) in
      subst (λ (left : List Row). IsMatching g.C.RowCheck.accepts c.args.check.now (old.trees 1) (old.trees 2) c.new-last.result left 0)
      (sym trees ∙ sought_all begun (g.S.Store.view c.seek.new.self) _ c.new-entry.result (begun.trees 2) c.new-entry.ensures
      (c.in_ok-seek.ensures.ok clean))
      (none_matched g.C.RowCheck.accepts c.args.check.now (old.trees 1) (old.trees 2) c.new-last.result)),
)

pub returns-then-is_same_key-clause-quiet : goal.returns-then-is_same_key-clause-quiet
returns-then-is_same_key-clause-quiet g c = still_quiet c.entries.invariant.3 c.next.ensures.quiet

pub returns-then-not-branch-2-clause-quiet : goal.returns-then-not-branch-2-clause-quiet
returns-then-not-branch-2-clause-quiet g c = still_quiet c.entries.invariant.3 (still_quiet c.next.ensures.quiet c.is_named.ensures.quiet)

pub returns-in_err-copy_from-clause-quiet : goal.returns-in_err-copy_from-clause-quiet
returns-in_err-copy_from-clause-quiet g c = still_quiet c.entries.invariant.3 (still_quiet c.next.ensures.quiet c.is_named.ensures.quiet)

pub entries-preserved : goal.entries-preserved
entries-preserved g c = (
  c.in_ok-is_named.ensures.stay 0 (c.in_ok-next.ensures.stay 0 c.entries.invariant.0),
  c.in_ok-is_named.ensures.stay 1 (c.in_ok-next.ensures.stay 1 c.entries.invariant.1),
  (λ clean.
      let mid : IsClean (g.S.Store.view c.next.new.self) = omega (arith, c.is_named.ensures.quiet.clean, clean) in
      let at : IsClean (g.S.Store.view c.entries.store) = omega (arith, c.next.ensures.quiet.clean, mid) in
      only_reads_then (g.S.Store.view c.args.store.now) (g.S.Store.view c.entries.store) (g.S.Store.view c.is_named.new.store)
      (c.entries.invariant.2 at)
      (only_reads_then (g.S.Store.view c.entries.store) (g.S.Store.view c.next.new.self) (g.S.Store.view c.is_named.new.store)
      (c.in_ok-next.ensures.moves mid).same (c.in_ok-is_named.ensures.reads clean).reads)),
  still_quiet c.entries.invariant.3 (still_quiet c.next.ensures.quiet c.is_named.ensures.quiet),
  (λ clean.
      let mid : IsClean (g.S.Store.view c.next.new.self) = omega (arith, c.is_named.ensures.quiet.clean, clean) in
      let at : IsClean (g.S.Store.view c.entries.store) = omega (arith, c.next.ensures.quiet.clean, mid) in
      let step = rw c.if-not-branch.false at (c.in_ok-next.ensures.ok mid) in
      c.in_ok-is_named.ensures.given clean (still_given _ _ _ _ step.0 step.2 (c.entries.invariant.4 at))),
  (λ clean.
      let old = g.S.Store.view c.args.store.now in
      let next = g.S.Store.view c.next.new.self in
      let now = g.S.Store.view c.is_named.new.store in
      let mid : IsClean next = omega (arith, c.is_named.ensures.quiet.clean, clean) in
      let at : IsClean (g.S.Store.view c.entries.store) = omega (arith, c.next.ensures.quiet.clean, mid) in
      let entry = c.next.new.row in
      let step = rw c.if-not-branch.false at (c.in_ok-next.ensures.ok mid) in
      let given = still_given _ _ _ _ step.0 step.2 (c.entries.invariant.4 at) in
      let reads = only_reads_then old (g.S.Store.view c.entries.store) next (c.entries.invariant.2 at)
      (c.in_ok-next.ensures.moves mid).same in
      let other : ¬ IsSameKey c.entries.last entry = λ same. true≢false (sym (c.is_same_key.ensures same) ∙ c.if-is_same_key.false) in
      let one = subst (λ (rows : List Row). IsNamed g.C.RowCheck.accepts c.args.check.now rows entry) (ap (λ (v : View). v.trees 1) reads)
      (c.is_named.ensures.named clean (c.in_ok-is_named.was ∙ ap Ok c.if-not-branch-2.false) given) in
      let so_far = subst
      (λ (left : List Row). IsMatching g.C.RowCheck.accepts c.args.check.now (old.trees 1) (old.trees 2)
      c.entries.last left c.entries.count)
      (lemma.stepped _ _ 0 entry step) (c.entries.invariant.5 at) in
      let left : left_of next 0 ≡ left_of now 0 =
      ap (λ o. unwrap_or o []) (sym ((c.in_ok-is_named.ensures.reads clean).below 0 (omega arith))) in
      rw c.in_ok-copy_from.ensures.ok (subst
      (λ (l : List Row). IsMatching g.C.RowCheck.accepts c.args.check.now (old.trees 1) (old.trees 2) entry l (c.entries.count + 1)) left
      (one_matched g.C.RowCheck.accepts c.args.check.now (old.trees 1) (old.trees 2) c.entries.last entry (left_of next 0) c.entries.count
      so_far other one))),
)

pub returns-then-not-branch-clause-matched : goal.returns-then-not-branch-clause-matched
returns-then-not-branch-clause-matched g c clean is =
    let old = g.S.Store.view c.args.store.now in
    let next = g.S.Store.view c.next.new.self in
    let mid : IsClean next = omega (arith, c.count_all.ensures.quiet.clean, clean) in
    let at : IsClean (g.S.Store.view c.entries.store) = omega (arith, c.next.ensures.quiet.clean, mid) in
    let entry = c.next.new.row in
    let step = rw c.if-not-branch.true at (c.in_ok-next.ensures.ok mid) in
    let given = subst (λ (v : View). HasGiven v c.entries.rows.row c.entries.rows.count) (sym step.1) (c.entries.invariant.4 at) in
    let trees : next.trees 1 ≡ old.trees 1 = ap (λ (v : View). v.trees 1) (step.1 ∙ c.entries.invariant.2 at) in
    let so_far = subst
    (λ (left : List Row). IsMatching g.C.RowCheck.accepts c.args.check.now (old.trees 1) (old.trees 2) c.entries.last left c.entries.count)
    (lemma.ended _ _ 0 entry step) (c.entries.invariant.5 at) in
    all_matched g.C.RowCheck.accepts c.args.check.now (old.trees 1) (old.trees 2) c.entries.last c.entries.count so_far
    (sym (same_count _ _ is) ∙ c.in_ok-all.ensures.count clean given ∙ ap length trees)
