use Rattle.std.proofs.Common.{refl, arith, length}
use Rattle.std.proofs.lemmas.Option.{slice_get_read}
use Rattle.pgspill.proofs.strand.Strand.read.Goals as goal

pub read-requires-clause-piece : goal.read-requires-clause-piece
read-requires-clause-piece g c =
    let s = c.args.self.now in
    let ok = s.pieces.ok.0 in
    let i = c.loop-place.invariant in
    let there = slice_get_read s.pieces.items (length s.pieces.items) c.loop-place.place c.index.result.now refl
    (omega (arith, c.len-place-end.ensures)) c.index.ensures in
    rw (i.key, i.seen, i.owners) (c.requires.strand.pieces c.loop-place.place c.index.result.now there)
