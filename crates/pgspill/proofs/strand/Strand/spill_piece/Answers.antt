use Rattle.std.proofs.Common.{◌≡◌, ◌≤◌, ◌+◌, ◌-◌, ◌∙◌, ◌++◌, ◌∷◌, [], ℕ, List, refl, ap, arith}
use Rattle.std.proofs.Common.{length, take, drop, length-drop}
use Rattle.std.specs.Prelude.{slice_range}
use Rattle.std.proofs.lemmas.List.{length-take-le}
use Rattle.pgspill.specs.declared.piece.Piece.{Piece}
use Rattle.pgspill.proofs.Strands.{strand_stays, strand_spills}
use Rattle.pgspill.proofs.strand.Strand.spill_piece.Goals as goal

pub returns-in_err-reserve-clause-strand : goal.returns-in_err-reserve-clause-strand
returns-in_err-reserve-clause-strand g c =
    let b = c.args.blocks.now in
    let file = g.D.Disk.seen b.disk in
    let r = strand_stays b.key b.key file file b.owners.items b.owners.items c.args.self.now c.reserve.new.self.items
    (λ owner p is. record { is_piece = is; same = refl }) refl c.requires.strand c.reserve.ensures.items in
    record { pieces = r.0; spilled = r.1; start = c.requires.strand.start }

pub returns-in_err-piece-clause-bytes : goal.returns-in_err-piece-clause-bytes
returns-in_err-piece-clause-bytes g c =
    let b = c.args.blocks.now in
    let b' = c.put.new.self in
    (strand_stays b.key b'.key (g.D.Disk.seen b.disk) (g.D.Disk.seen b'.disk) b.owners.items b'.owners.items c.args.self.now
    c.reserve.new.self.items c.put.ensures.others c.put.ensures.key c.requires.strand c.reserve.ensures.items).2

pub returns-in_err-piece-clause-strand : goal.returns-in_err-piece-clause-strand
returns-in_err-piece-clause-strand g c =
    let b = c.args.blocks.now in
    let b' = c.put.new.self in
    let r = strand_stays b.key b'.key (g.D.Disk.seen b.disk) (g.D.Disk.seen b'.disk) b.owners.items b'.owners.items c.args.self.now
    c.reserve.new.self.items c.put.ensures.others c.put.ensures.key c.requires.strand c.reserve.ensures.items in
    record { pieces = r.0; spilled = r.1; start = c.requires.strand.start }

-- the bytes that are written are the next ones
part_is : (read tail : List ℕ) (start n : ℕ) → read ≡ tail → slice_range read start (start + n) ≡ take n (drop start tail)
part_is read tail start n same =
    let m : start + n - start ≡ n = omega arith in
    ap (λ (l : List ℕ). slice_range l start (start + n)) same ∙ ap (λ k. take k (drop start tail)) m

part_length : (tail : List ℕ) (start n : ℕ) → start + n ≤ length tail → length (take n (drop start tail)) ≡ n
part_length tail start n within = length-take-le n (drop start tail) (omega (arith, length-drop start tail))

pub returns-clause-bytes : goal.returns-clause-bytes
returns-clause-bytes g c =
    let b = c.args.blocks.now in
    let b' = c.put.new.self in
    let s = c.args.self.now in
    let n = c.min-len.result in
    let p = c.in_ok-piece.piece in
    let ok = s.tail.ok.0 in
    let within : s.start + n ≤ length s.tail.items = omega (arith, c.min-len.ensures, c.len.ensures) in
    let part = part_is c.deref.result.now s.tail.items s.start n c.deref.ensures.value in
    let place : c.len-2.result ≡ length s.pieces.items = c.len-2.ensures ∙ c.reserve.new.self.ok.0 ∙ ap length c.reserve.ensures.items in
    let items : c.push.new.self.items ≡ s.pieces.items ++ p ∷ [] =
    (rw c.unwrap.ensures at c.push.ensures.items) ∙ ap (λ (l : List Piece). l ++ p ∷ []) c.reserve.ensures.items in
    (strand_spills b.key b'.key (g.D.Disk.seen b.disk) (g.D.Disk.seen b'.disk) b.owners.items b'.owners.items s c.push.new.self.items
    p n c.len-2.result c.put.ensures.others c.put.ensures.key c.requires.strand place c.in_ok-piece.ensures.piece
    (c.in_ok-piece.ensures.bytes ∙ part)
    (c.in_ok-piece.ensures.whole ∙ ap length part ∙ part_length s.tail.items s.start n within) items).2

pub returns-clause-strand : goal.returns-clause-strand
returns-clause-strand g c =
    let b = c.args.blocks.now in
    let b' = c.put.new.self in
    let s = c.args.self.now in
    let n = c.min-len.result in
    let p = c.in_ok-piece.piece in
    let ok = s.tail.ok.0 in
    let within : s.start + n ≤ length s.tail.items = omega (arith, c.min-len.ensures, c.len.ensures) in
    let part = part_is c.deref.result.now s.tail.items s.start n c.deref.ensures.value in
    let place : c.len-2.result ≡ length s.pieces.items = c.len-2.ensures ∙ c.reserve.new.self.ok.0 ∙ ap length c.reserve.ensures.items in
    let items : c.push.new.self.items ≡ s.pieces.items ++ p ∷ [] =
    (rw c.unwrap.ensures at c.push.ensures.items) ∙ ap (λ (l : List Piece). l ++ p ∷ []) c.reserve.ensures.items in
    let r = strand_spills b.key b'.key (g.D.Disk.seen b.disk) (g.D.Disk.seen b'.disk) b.owners.items b'.owners.items s c.push.new.self.items
    p n c.len-2.result c.put.ensures.others c.put.ensures.key c.requires.strand place c.in_ok-piece.ensures.piece
    (c.in_ok-piece.ensures.bytes ∙ part)
    (c.in_ok-piece.ensures.whole ∙ ap length part ∙ part_length s.tail.items s.start n within) items in
    record { pieces = r.0; spilled = let r1 = r.1 in omega (arith, c.in-Some.ensures); start = within }
