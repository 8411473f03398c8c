use Rattle.std.proofs.Common.{◌≤◌, ◌∙◌, refl, arith, length}
use Rattle.pgspill.proofs.Strands.{spilled_all, strand_stays}
use Rattle.pgspill.proofs.strand.Strand.spill.Goals as goal

pub returns-clause-bytes : goal.returns-clause-bytes
returns-clause-bytes g c =
    let s = c.left.self in
    let new = c.forget_tail.new.self in
    let f = c.forget_tail.ensures in
    let ok = s.tail.ok.0 in
    let over : length s.tail.items ≤ s.start = omega (arith, c.len.ensures) in
    spilled_all (g.D.Disk.seen c.left.blocks.disk) s.pieces.items new.pieces.items s.tail.items new.tail.items s.start new.start
    f.pieces over f.tail ∙ c.left.invariant.bytes

pub returns-clause-strand : goal.returns-clause-strand
returns-clause-strand g c =
    let s = c.left.self in
    let b = c.left.blocks in
    let file = g.D.Disk.seen b.disk in
    let new = c.forget_tail.new.self in
    let f = c.forget_tail.ensures in
    let r = strand_stays b.key b.key file file b.owners.items b.owners.items s new.pieces.items
    (λ owner p is. record { is_piece = is; same = refl }) refl c.left.invariant.strand f.pieces in
    record { pieces = rw f.xid (r.0); spilled = f.spilled ∙ r.1; start = let st = f.start in omega arith }
