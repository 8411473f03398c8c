use Rattle.std.proofs.Common.{rules}
use Rattle.pgfeed.specs.Segments.{IsCut, IsFound}
use Rattle.pgfeed.proofs.Calls.{left_reopens}
use Rattle.pgfeed.proofs.segment.Segment.open.Goals as goal

pub returns-in-Ok-cut-clause-reopens : goal.returns-in-Ok-cut-clause-reopens
returns-in-Ok-cut-clause-reopens g c = λ clean old same left.
    let found : IsFound c.args.base c.args.position (g.D.Disk.seen c.args.disk) c.of.result.size = search rules in
    let cut : IsCut (g.D.Disk.seen c.args.disk) c.of.result.size (g.D.Disk.seen c.of.result.disk) (g.D.Disk.may_leave c.of.result.disk) =
    search rules in
    left_reopens _ _ _ _ _ _ _ _ _ _ _ _ same left c.of.ensures.base c.of.ensures.last c.of.ensures.untold found cut
