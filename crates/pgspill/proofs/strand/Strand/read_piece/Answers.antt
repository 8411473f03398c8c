use Rattle.std.proofs.Common.{◌≡◌, ◌≤◌, ◌++◌, Some, length, refl, sym, ap, subst, ◌∙◌, arith}
use Rattle.std.proofs.Common.{append-nil}
use Rattle.std.specs.Prelude.{OnOk, min, slice_range}
use Rattle.std.proofs.lemmas.Option.{slice_get_read, same_Some}
use Rattle.pgspill.specs.Pieces.{bytes_of}
use Rattle.pgspill.proofs.Ranges.{range-empty}
use Rattle.pgspill.proofs.Strands.{piece_long}
use Rattle.pgspill.proofs.strand.Strand.read_piece.Goals as goal

pub returns-then-start-min-clause-read : goal.returns-then-start-min-clause-read
returns-then-start-min-clause-read g c clean p there =
    let s = c.args.self.now in
    let b = c.args.blocks.now in
    let file = g.D.Disk.seen b.disk in
    let ok = s.pieces.ok.0 in
    let at = slice_get_read s.pieces.items (length s.pieces.items) c.args.place c.index-piece.result.now refl
    (omega (arith, c.requires.place)) c.index-piece.ensures in
    let same = same_Some c.index-piece.result.now p (sym at ∙ there) in
    let long = piece_long b.key file b.owners.items _ p (c.requires.strand.pieces c.args.place p there) in
    let kept = ap (λ q. q.kept) same in
    let least = c.min.ensures in
    let none : min c.args.end (length (bytes_of file p)) ≤ c.args.start = omega arith in
    sym (ap (λ l. c.args.out.now.items ++ l) (range-empty (bytes_of file p) c.args.start c.args.end none)
    ∙ append-nil c.args.out.now.items)

pub read_range-requires-clause-piece : goal.read_range-requires-clause-piece
read_range-requires-clause-piece g c =
    let s = c.args.self.now in
    let ok = s.pieces.ok.0 in
    c.requires.strand.pieces c.args.place c.index-piece.result.now
    (slice_get_read s.pieces.items (length s.pieces.items) c.args.place c.index-piece.result.now refl
    (omega (arith, c.requires.place)) c.index-piece.ensures)

pub returns-clause-read : goal.returns-clause-read
returns-clause-read g c clean p there =
    let s = c.args.self.now in
    let file = g.D.Disk.seen c.args.blocks.now.disk in
    let ok = s.pieces.ok.0 in
    let at = slice_get_read s.pieces.items (length s.pieces.items) c.args.place c.index-piece.result.now refl
    (omega (arith, c.requires.place)) c.index-piece.ensures in
    let same = same_Some c.index-piece.result.now p (sym at ∙ there) in
    subst (λ q. OnOk c.read_range.result (c.read_range.new.out.items
    ≡ c.args.out.now.items ++ slice_range (bytes_of file q) c.args.start c.args.end)) same (c.read_range.ensures.read clean)
