use Rattle.std.proofs.Common.{◌≡◌, ◌<◌, ◌≤◌, ◌⊎◌, inl, inr, ◌+◌, ◌-◌}
use Rattle.std.proofs.Common.{ℕ, List, [], ◌∷◌, drop, take, length}
use Rattle.std.proofs.Common.{refl, ap, sym, ◌∙◌, subst, rules, arith, false, is_lt, nat_cmp}
use Rattle.pgfeed.specs.declared.mark.Mark.{Mark}
use Rattle.pgfeed.specs.Reading.{BeginsWith, HasItsCrc, Walks}
use Rattle.pgfeed.specs.Segments.{EndsTested}
use Rattle.pgfeed.specs.Cutting.Files.{drop_drop}
use Rattle.pgfeed.proofs.opening.find_end.Goals as goal

sized : (at place a b : ℕ) (marks : List Mark) (text : List ℕ) → a ≡ b → Walks at marks text place a → Walks at marks text place b
sized at place a b marks text e walk = subst (λ n. Walks at marks text place n) e walk

-- a commit more before the walk
one_more : (at place offset rest : ℕ) (mark : Mark) (marks : List Mark) (file : List ℕ) → BeginsWith at mark (drop offset file)
    → Walks mark.end marks (drop (offset + (256 + mark.bytes)) file) place rest
    → Walks at (mark ∷ marks) (drop offset file) place (256 + mark.bytes + rest)
one_more at place offset rest mark marks file begins walk =
    (begins, (rest, refl, subst (λ text. Walks mark.end marks text place rest) (sym (drop_drop offset (256 + mark.bytes) file)) walk))

not_below : (a b : ℕ) → false ≡ is_lt (nat_cmp a b) → b ≤ a
not_below a b e = search rules

pub commits-init : goal.commits-init
commits-init g c = record {
  seen_is = c.test_head.ensures.seen ∙ c.len.ensures.seen;
  usable = c.test_head.ensures.usable;
  crash = λ d left. c.len.ensures.crash d (c.test_head.ensures.crash d left);
  clean = λ clean. clean;
  within = c.in_ok-test_head.ensures.within;
  behind_head = omega arith;
  below = search rules;
  walk = λ clean marks place rest walk. (marks, sized _ _ _ _ marks _ (let e : rest ≡ 0 + rest = omega arith in e) walk);
  tested = λ clean. inl refl;
}

pub commits-preserved : goal.commits-preserved
commits-preserved g c =
    let file : List ℕ = g.D.Disk.seen c.args.disk.now in
    let mark : Mark = record { end = c.in_ok-mark.mark.end; bytes = c.in_ok-mark.mark.bytes } in
    let kept = c.commits.invariant in
    let above = c.in_ok-mark.ensures.above in
    record {
      seen_is = c.test_last.ensures.seen ∙ c.next_mark.ensures.seen ∙ kept.seen_is;
      usable = c.test_last.ensures.usable;
      crash = λ d left. kept.crash d (c.next_mark.ensures.crash d (c.test_last.ensures.crash d left));
      clean = λ clean. kept.clean (c.next_mark.ensures.clean (c.test_last.ensures.clean clean));
      within = omega arith;
      behind_head = omega arith;
      below = above.1;
      walk = λ clean marks place rest walk.
          let mid = c.test_last.ensures.clean clean in
          let before = c.next_mark.ensures.clean mid in
          let first = c.test_head.ensures.clean (kept.clean before) in
          let long : c.in-Ok.len ≡ length (g.D.Disk.seen c.commits.disk) = c.in-Ok.ensures.len first ∙ ap length (sym kept.seen_is) in
          let begins : BeginsWith c.commits.at mark (drop c.commits.offset file) =
          subst (λ bytes. BeginsWith c.commits.at mark (drop c.commits.offset bytes)) kept.seen_is
          (c.in_ok-mark.ensures.mark mid long) in
          let all = kept.walk before (mark ∷ marks) place (256 + mark.bytes + rest)
          (one_more c.commits.at place c.commits.offset rest mark marks file begins walk) in
          (all.0, sized _ _ _ _ all.0 _ (omega arith) all.1);
      tested = λ clean. inr (λ ends.
          let mid = c.test_last.ensures.clean clean in
          let before = c.next_mark.ensures.clean mid in
          let first = c.test_head.ensures.clean (kept.clean before) in
          let long : c.in-Ok.len ≡ length (g.D.Disk.seen c.commits.disk) = c.in-Ok.ensures.len first ∙ ap length (sym kept.seen_is) in
          record {
            prev = c.commits.at;
            mark = mark;
            offset = c.commits.offset;
            begins = subst (λ bytes. BeginsWith c.commits.at mark (drop c.commits.offset bytes)) kept.seen_is
                (c.in_ok-mark.ensures.mark mid long);
            ends = ends;
            size_is = omega arith;
            tested = λ few. subst (λ bytes. HasItsCrc mark.bytes (drop c.commits.offset bytes)) (c.next_mark.ensures.seen ∙ kept.seen_is)
                (c.in_ok-test_last.ensures.tested clean ends few);
          });
    }

-- the last commit was tested, where there is one
last_is : (base at place size : ℕ) (text : List ℕ) → base < place → at ≡ place
    → (at ≡ base) ⊎ (at ≡ place → EndsTested place text size) → EndsTested place text size
last_is base at place size text above ends (inl none) = absurd (omega arith)
last_is base at place size text above ends (inr tested) = tested ends

pub returns-clause-tested : goal.returns-clause-tested
returns-clause-tested g c = λ clean above.
    let kept = c.commits.invariant in
    let up = not_below c.commits.at c.args.position c.commits-test.ensures in
    let ends : c.commits.at ≡ c.args.position = omega arith in
    last_is c.args.base c.commits.at c.args.position c.commits.offset _ above ends (kept.tested clean)

pub returns-clause-found : goal.returns-clause-found
returns-clause-found g c = λ clean.
    let kept = c.commits.invariant in
    let first = c.test_head.ensures.clean (kept.clean clean) in
    let head = c.in_ok-test_head.ensures.head (kept.clean clean) in
    let up = not_below c.commits.at c.args.position c.commits-test.ensures in
    let ends : c.args.position ≡ c.commits.at = omega arith in
    let long : c.in-Ok.len ≡ length (g.D.Disk.seen c.args.disk.now) = c.in-Ok.ensures.len first in
    let all = kept.walk clean [] c.args.position 0 (ends, refl) in (
      record {
        marks = all.0;
        entries_size = c.commits.offset - 1024 + 0;
        more = head.0;
        head = ap (take 1024) (sym c.len.ensures.seen) ∙ head.1;
        head_within = omega arith;
        walk = all.1;
        size_is = omega arith;
      },
      omega arith,
    )
