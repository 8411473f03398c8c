use Rattle.std.proofs.Common.{◌*◌, ◌∙◌, drop}
use Rattle.pgspill.proofs.Ranges.{range-read}
use Rattle.pgspill.proofs.blocks.Blocks.read_range.Goals as goal

pub returns-clause-read : goal.returns-clause-read
returns-clause-read g c clean =
    let p = c.args.piece.now in
    range-read c.args.out.now.items _ c.deref.result.now (drop (p.block * 65536) (g.D.Disk.seen c.args.self.now.disk)) c.args.start
    c.args.end c.min.result p.kept p.written (c.deref.ensures.value ∙ c.in_ok-bytes.ensures.read clean) c.min.ensures c.requires.within
    c.requires.piece.kept c.in_ok-extend_from_slice.ensures.items
