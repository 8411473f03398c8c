use Rattle.std.proofs.Common.{◌≡◌, ◌+◌, ◌++◌, ℕ, List, take, drop, refl, ap, sym, ◌∙◌, subst, arith}
use Rattle.std.proofs.Common.{append-nil, append_assoc}
use Rattle.std.proofs.lemmas.List.{take-append-drop, take-take, drop-take}
use Rattle.pgcrc.specs.Covering.{Covers}
use Rattle.pgfeed.specs.Cutting.Files.{drop_drop}
use Rattle.pgfeed.proofs.opening.sum_bytes.Goals as goal

take_sum : (a b : ℕ) (bs : List ℕ) → take (a + b) bs ≡ take a bs ++ take b (drop a bs)
take_sum a b bs =
    let whole : take a (take (a + b) bs) ++ drop a (take (a + b) bs) ≡ take (a + b) bs = take-append-drop a (take (a + b) bs) in
    sym (rw (take-take a (a + b) bs (omega arith), drop-take a b bs) at whole)

-- a piece more
one_more : (before file : List ℕ) (offset done size : ℕ)
    → (before ++ take done (drop offset file)) ++ take size (drop (offset + done) file) ≡ before ++ take (done + size) (drop offset file)
one_more before file offset done size =
    append_assoc before (take done (drop offset file)) (take size (drop (offset + done) file))
    ∙ ap (λ xs. before ++ (take done (drop offset file) ++ take size xs)) (sym (drop_drop offset done file))
    ∙ ap (λ xs. before ++ xs) (sym (take_sum done size (drop offset file)))

pub pieces-init : goal.pieces-init
pieces-init g c = record {
  seen_is = refl;
  usable = c.requires.usable;
  crash = λ d left. left;
  clean = λ clean. clean;
  within = omega arith;
  sums = λ clean before covers. subst (Covers c.args.crc) (sym (append-nil before)) covers;
}

pub pieces-preserved : goal.pieces-preserved
pieces-preserved g c =
    let kept = c.pieces.invariant in
    let file : List ℕ = g.D.Disk.seen c.args.disk.now in
    record {
      seen_is = c.sum_piece.ensures.seen ∙ kept.seen_is;
      usable = c.sum_piece.ensures.usable;
      crash = λ d left. kept.crash d (c.sum_piece.ensures.crash d left);
      clean = λ clean. kept.clean (c.sum_piece.ensures.clean clean);
      within = omega arith;
      sums = λ clean before covers.
          let front = before ++ take c.pieces.done (drop c.args.offset file) in
          let size = c.min-size.result in
          let more = c.in_ok-sum.ensures.sums clean front (kept.sums (c.sum_piece.ensures.clean clean) before covers) in
          subst (Covers c.in_ok-sum.sum)
          (ap (λ bytes. front ++ take size (drop (c.args.offset + c.pieces.done) bytes)) kept.seen_is
          ∙ one_more before file c.args.offset c.pieces.done size) more;
    }

pub returns-clause-sums : goal.returns-clause-sums
returns-clause-sums g c = λ clean before covers.
    let kept = c.pieces.invariant in
    let ends : c.pieces.done ≡ c.args.count = omega arith in
    subst (λ n. Covers c.pieces.sum (before ++ take n (drop c.args.offset (g.D.Disk.seen c.args.disk.now)))) ends
    (kept.sums clean before covers)
