use Rattle.std.proofs.Common.{◌≡◌, ◌+◌, ◌-◌, refl, ap, arith, length}
use Rattle.std.proofs.lemmas.Option.{slice_get_read}
use Rattle.pgspill.specs.declared.piece.Piece.{Piece}
use Rattle.pgspill.proofs.Strands.{last_piece, last_within, cut_part, cut_whole, some_piece}
use Rattle.pgspill.proofs.strand.Strand.cut_last.Goals as goal

pub overflow_sub-before : goal.overflow_sub-before
overflow_sub-before g c =
    let s = c.args.self.now in
    let b = c.args.blocks.now in
    let file = g.D.Disk.seen b.disk in
    let n = c.len-place.result - 1 in
    let ok = s.pieces.ok.0 in
    let some = some_piece file s.pieces.items s.spilled c.args.len c.requires.strand.spilled c.requires.longer in
    let long : length s.pieces.items ≡ n + 1 = omega (arith, c.len-place.ensures) in
    let there = slice_get_read s.pieces.items (length s.pieces.items) n c.index.result.now refl (omega arith) c.index.ensures in
    last_within b.key file b.owners.items s n c.index.result.now c.requires.strand c.requires.spilled there long

pub returns-then-before-len-clause-bytes : goal.returns-then-before-len-clause-bytes
returns-then-before-len-clause-bytes g c =
    let s = c.args.self.now in
    let b = c.args.blocks.now in
    let file = g.D.Disk.seen b.disk in
    let n = c.len-place.result - 1 in
    let ok = s.pieces.ok.0 in
    let p = c.index.result.now in
    let q : Piece = record { block = p.block; kept = c.args.len - (s.spilled - p.kept); written = p.written; digest = p.digest } in
    let some = some_piece file s.pieces.items s.spilled c.args.len c.requires.strand.spilled c.requires.longer in
    let long : length s.pieces.items ≡ n + 1 = omega (arith, c.len-place.ensures) in
    let there = slice_get_read s.pieces.items (length s.pieces.items) n p refl (omega arith) c.index.ensures in
    (cut_part b.key file b.owners.items s n p c.requires.strand c.requires.spilled there long q c.args.len c.requires.longer
    c.if-before-len.true refl).2

pub returns-then-before-len-clause-strand : goal.returns-then-before-len-clause-strand
returns-then-before-len-clause-strand g c =
    let s = c.args.self.now in
    let b = c.args.blocks.now in
    let file = g.D.Disk.seen b.disk in
    let n = c.len-place.result - 1 in
    let ok = s.pieces.ok.0 in
    let p = c.index.result.now in
    let q : Piece = record { block = p.block; kept = c.args.len - (s.spilled - p.kept); written = p.written; digest = p.digest } in
    let some = some_piece file s.pieces.items s.spilled c.args.len c.requires.strand.spilled c.requires.longer in
    let long : length s.pieces.items ≡ n + 1 = omega (arith, c.len-place.ensures) in
    let there = slice_get_read s.pieces.items (length s.pieces.items) n p refl (omega arith) c.index.ensures in
    let r = cut_part b.key file b.owners.items s n p c.requires.strand c.requires.spilled there long q c.args.len c.requires.longer
    c.if-before-len.true refl in
    record { pieces = r.0; spilled = r.1; start = c.requires.strand.start }

pub free-requires : goal.free-requires
free-requires g c =
    let s = c.args.self.now in
    let b = c.args.blocks.now in
    let file = g.D.Disk.seen b.disk in
    let n = c.len-place.result - 1 in
    let ok = s.pieces.ok.0 in
    let some = some_piece file s.pieces.items s.spilled c.args.len c.requires.strand.spilled c.requires.longer in
    c.requires.strand.pieces n c.index.result.now
    (slice_get_read s.pieces.items (length s.pieces.items) n c.index.result.now refl (omega (arith, c.len-place.ensures)) c.index.ensures)

pub returns-clause-bytes : goal.returns-clause-bytes
returns-clause-bytes g c =
    let s = c.args.self.now in
    let b = c.args.blocks.now in
    let b' = c.free.new.self in
    let file = g.D.Disk.seen b.disk in
    let n = c.len-place.result - 1 in
    let ok = s.pieces.ok.0 in
    let p = c.index.result.now in
    let some = some_piece file s.pieces.items s.spilled c.args.len c.requires.strand.spilled c.requires.longer in
    let long : length s.pieces.items ≡ n + 1 = omega (arith, c.len-place.ensures) in
    let there = slice_get_read s.pieces.items (length s.pieces.items) n p refl (omega arith) c.index.ensures in
    (cut_whole b.key file b.owners.items s n p c.requires.strand c.requires.spilled there long b'.key (g.D.Disk.seen b'.disk)
    b'.owners.items c.truncate.new.self.items c.args.len c.if-before-len.false c.free.ensures.key (ap g.D.Disk.seen c.free.ensures.disk)
    c.truncate.ensures.items c.free.ensures.others).2

pub returns-clause-strand : goal.returns-clause-strand
returns-clause-strand g c =
    let s = c.args.self.now in
    let b = c.args.blocks.now in
    let b' = c.free.new.self in
    let file = g.D.Disk.seen b.disk in
    let n = c.len-place.result - 1 in
    let ok = s.pieces.ok.0 in
    let p = c.index.result.now in
    let some = some_piece file s.pieces.items s.spilled c.args.len c.requires.strand.spilled c.requires.longer in
    let long : length s.pieces.items ≡ n + 1 = omega (arith, c.len-place.ensures) in
    let there = slice_get_read s.pieces.items (length s.pieces.items) n p refl (omega arith) c.index.ensures in
    let r = cut_whole b.key file b.owners.items s n p c.requires.strand c.requires.spilled there long b'.key (g.D.Disk.seen b'.disk)
    b'.owners.items c.truncate.new.self.items c.args.len c.if-before-len.false c.free.ensures.key (ap g.D.Disk.seen c.free.ensures.disk)
    c.truncate.ensures.items c.free.ensures.others in
    record { pieces = r.0; spilled = r.1; start = c.requires.strand.start }

pub returns-clause-shorter : goal.returns-clause-shorter
returns-clause-shorter g c =
    let s = c.args.self.now in
    let b = c.args.blocks.now in
    let file = g.D.Disk.seen b.disk in
    let n = c.len-place.result - 1 in
    let ok = s.pieces.ok.0 in
    let some = some_piece file s.pieces.items s.spilled c.args.len c.requires.strand.spilled c.requires.longer in
    let long : length s.pieces.items ≡ n + 1 = omega (arith, c.len-place.ensures) in
    let there = slice_get_read s.pieces.items (length s.pieces.items) n c.index.result.now refl (omega arith) c.index.ensures in
    let within = last_within b.key file b.owners.items s n c.index.result.now c.requires.strand c.requires.spilled there long in
    let is = last_piece b.key file b.owners.items s n c.index.result.now c.requires.strand c.requires.spilled there long in
    let kept = is.some in
    omega arith
