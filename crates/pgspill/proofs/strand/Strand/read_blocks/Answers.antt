use Rattle.std.proofs.Common.{◌≡◌, ◌≤◌, ◌<◌, ◌^◌, ◌+◌, ◌-◌, ◌++◌, ℕ, suc, List, length, take, drop}
use Rattle.std.proofs.Common.{refl, sym, ap, ◌∙◌}
use Rattle.std.proofs.Common.{arith, length-append, append-nil, append_assoc}
use Rattle.std.specs.Prelude.{slice_range}
use Rattle.std.proofs.lemmas.List.{take_all}
use Rattle.std.proofs.lemmas.Option.{slice_get_read}
use Rattle.pgspill.specs.Pieces.{bytes_of}
use Rattle.pgspill.specs.Strands.{spilled_bytes}
use Rattle.pgspill.proofs.Ranges.{range-more, range-whole}
use Rattle.pgspill.proofs.Strands.{piece_long, one_more, split_pieces}
use Rattle.pgspill.proofs.strand.Strand.read_blocks.Goals as goal

pub overflow_add-at : goal.overflow_add-at
overflow_add-at g c =
    let s = c.args.self.now in
    let b = c.args.blocks.now in
    let file = g.D.Disk.seen b.disk in
    let ps = s.pieces.items in
    let n = c.passed.place in
    let p = c.index.result.now in
    let ok = s.pieces.ok.0 in
    let len = c.len.ensures in
    let test = c.passed-test.true in
    let there = slice_get_read ps (length ps) n p refl (omega arith) c.index.ensures in
    let long = piece_long b.key file b.owners.items _ p (c.requires.strand.pieces n p there) in
    let sum = ap length (one_more file ps n p there) ∙ length-append (spilled_bytes file (take n ps)) (bytes_of file p) in
    let all = ap length (split_pieces file ps (suc n))
    ∙ length-append (spilled_bytes file (take (suc n) ps)) (spilled_bytes file (drop (suc n) ps)) in
    let at = c.passed.invariant.at in
    let whole = c.requires.strand.spilled in
    let within : c.passed.at + p.kept ≤ s.spilled = omega arith in
    omega arith

pub passed-preserved : goal.passed-preserved
passed-preserved g c =
    let s = c.args.self.now in
    let b = c.args.blocks.now in
    let file = g.D.Disk.seen b.disk in
    let ps = s.pieces.items in
    let n = c.passed.place in
    let p = c.index.result.now in
    let i = c.passed.invariant in
    let e = c.in_ok-read_piece.ensures in
    let ok = s.pieces.ok.0 in
    let len = c.len.ensures in
    let test = c.passed-test.true in
    let there = slice_get_read ps (length ps) n p refl (omega arith) c.index.ensures in
    let long = piece_long b.key file b.owners.items _ p (c.requires.strand.pieces n p there) in
    let was : List ℕ = spilled_bytes file (take n ps) in
    let next : n + 1 ≡ suc n = omega arith in
    let more : spilled_bytes file (take (n + 1) ps) ≡ was ++ bytes_of file p =
    ap (λ k. spilled_bytes file (take k ps)) next ∙ one_more file ps n p there in
    let sum = ap length more ∙ length-append was (bytes_of file p) in
    let at = i.at in
    record {
      usable = e.usable;
      place = omega arith;
      at = omega arith;
      read = λ clean. range-more c.args.out.now.items was (bytes_of file p) _ c.passed.out.items _ c.args.start c.args.end
          c.saturating_sub.result (c.args.end - c.passed.at) c.passed.at at more (i.read (e.clean clean)) c.saturating_sub.ensures refl
          (rw (← i.seen) (e.read clean p there));
      seen = e.seen ∙ i.seen;
      owners = e.owners ∙ i.owners;
      key = e.key ∙ i.key;
      clean = λ clean. i.clean (e.clean clean);
      fair = ap (g.D.Disk.is_fair c.read_piece.new.blocks.disk) (sym i.key) ∙ e.fair
          ∙ ap (g.D.Disk.is_fair c.passed.blocks.disk) i.key ∙ i.fair;
    }

pub returns-else-at-end-clause-read : goal.returns-else-at-end-clause-read
returns-else-at-end-clause-read g c clean =
    let s = c.args.self.now in
    let file = g.D.Disk.seen c.args.blocks.now.disk in
    let ps = s.pieces.items in
    let n = c.passed.place in
    range-whole c.args.out.now.items (spilled_bytes file (take n ps)) (spilled_bytes file (drop n ps)) _ _ c.args.start c.args.end
    c.passed.at c.passed.invariant.at (split_pieces file ps n) (c.passed.invariant.read clean) (omega (arith, c.if-at-end.false))
