use Rattle.std.proofs.Common.{Result, Ok, Err, IfOk, IsTrue, sym, ap, subst, ◌∙◌, arith}
use Rattle.sqlite_trees.specs.View.{IsClean}
use Rattle.sqlite.specs.State.{HasCleanDisk}
use Rattle.pgrows.specs.Rows.{state}
use Rattle.pgrows.proofs.Found.{open_of}
use Rattle.pgrows.proofs.rows.Rows.into_connection.Goals as goal

pub over-requires : goal.over-requires
over-requires g c clean =
    let before = g.S.Store.view c.self.inside.store in
    let after = g.S.Store.view c.rollback.new.self in
    let was : IsClean before = omega (arith, c.rollback.ensures.quiet.clean) in
    let unbroken = sym (c.is_broken.ensures clean) ∙ c.if-is_broken.false in
    let up = open_of after (g.met.S.Store.broken_if_shut c.rollback.new.self) unbroken in
    let back = c.rollback.ensures.undone in
    let kept = back.kept clean in
    let undone = back.undone up in
    let behind = c.self.invariant.behind was (kept.was_open up) in
    record {
      sound = unbroken;
      numbered = subst IsTrue (sym back.numbered) behind.numbered;
      clean = undone.0 ∙ sym (kept.committed up);
      unmarked = kept.marks up;
    }

ok_of_both : {A E : Type 0} {P Q R : A → Type 0} (r : Result A E) → IfOk r P → IfOk r Q → ((a : A) → P a → Q a → R a) → IfOk r R
ok_of_both (Ok a) p q go = go a p q
ok_of_both (Err e) p q go = tt

pub returns : goal.returns
returns g c = ok_of_both c.over.result c.over.ensures.clean c.over.ensures.trees (λ conn doubts trees clean.
    let after = g.S.Store.view c.rollback.new.self in
    let still : IsClean after = omega (arith, doubts) in
    let unbroken = sym (c.is_broken.ensures still) ∙ c.if-is_broken.false in
    let up = open_of after (g.met.S.Store.broken_if_shut c.rollback.new.self) unbroken in
    let back = c.rollback.ensures.undone in
    let was : HasCleanDisk (state g.S.Store c.self.inside.store) = omega (arith, c.rollback.ensures.quiet.clean, still) in (
      subst (λ s. HasCleanDisk (state g.S.Store s)) c.self.view_is was,
      subst (λ s. IsTrue (state g.S.Store s).is_open) c.self.view_is ((back.kept still).was_open up),
      trees clean ∙ (back.undone up).0 ∙ ap (λ s. (g.S.Store.view s).committed) c.self.view_is,
    ))
