use Rattle.std.proofs.Common.{◌-◌, drop, refl}
use Rattle.std.proofs.lemmas.Result.{on_ok_weaker}
use Rattle.pgspill.specs.Strands.{spilled_bytes}
use Rattle.pgspill.proofs.Ranges.{range-more}
use Rattle.pgspill.proofs.strand.Strand.read_range.Goals as goal

pub returns-clause-read : goal.returns-clause-read
returns-clause-read g c clean =
    let s = c.args.self.now in
    on_ok_weaker c.read_tail.result
    (range-more c.args.out.now.items (spilled_bytes (g.D.Disk.seen c.args.blocks.now.disk) s.pieces.items) (drop s.start s.tail.items) _
    c.read_blocks.new.out.items c.read_tail.new.out.items c.args.start c.args.end (c.args.start - s.spilled) (c.args.end - s.spilled)
    s.spilled c.requires.strand.spilled refl (c.in_ok-read_blocks.ensures.read clean) refl refl)
    c.read_tail.ensures.read
