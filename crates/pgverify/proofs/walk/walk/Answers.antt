use Rattle.std.proofs.Common.{◌≡◌, ◌++◌, ◌∷◌, [], Ok, arith, rules, refl, sym, ap, subst, ◌∙◌}
use Rattle.std.proofs.Common.{append_assoc, append-nil}
use Rattle.sqlite_trees.specs.View.{IsClean}
use Rattle.sqlite_exec.proofs.CheckLemmas as lemma
use Rattle.pgverify.proofs.walk.walk.Goals as goal

pub entries-init : goal.entries-init
entries-init g c = (
  search rules,
  search rules,
  search rules,
  λ clean start. (
    [],
    start,
    rw (c.in_ok-seek.ensures.ok (omega (arith, c.seek.ensures.quiet.clean)), c.clear.ensures, lemma.from_no_key) refl,
  ),
)

pub returns-then-not-branch-clause-seen : goal.returns-then-not-branch-clause-seen
returns-then-not-branch-clause-seen g c clean is start =
    let was = c.entries.invariant.3 (omega (arith, c.next.ensures.quiet.clean, clean)) start in
    let ended = rw c.if-not-branch.true at (c.in_ok-next.ensures.ok clean) in
    let all : was.0 ≡ (g.S.Store.view c.args.store.now).trees c.args.tree =
    sym (append-nil was.0) ∙ ap (λ l. was.0 ++ l) (sym (lemma.ended _ _ 0 c.next.new.row ended)) ∙ was.2 in
    subst (g.V.TreeVisitor.has_seen c.args.visitor.now c.entries.visitor) all was.1

pub entries-preserved : goal.entries-preserved
entries-preserved g c = (
  search rules,
  search rules,
  search rules,
  λ clean start.
      let at : IsClean (g.S.Store.view c.entries.store) = omega (arith, c.next.ensures.quiet.clean, clean) in
      let was = c.entries.invariant.3 at start in
      let step = lemma.stepped _ _ 0 c.next.new.row (rw c.if-not-branch.false at (c.in_ok-next.ensures.ok clean)) in (
        was.0 ++ c.next.new.row ∷ [],
        c.visit.ensures (c.in_ok-visit.was ∙ ap Ok c.if-not-branch-2.false) c.args.visitor.now was.0 was.1,
        append_assoc was.0 (c.next.new.row ∷ []) _ ∙ ap (λ l. was.0 ++ l) (sym step) ∙ was.2,
      ),
)
