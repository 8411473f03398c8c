use Rattle.std.proofs.Common.{[], ◌++◌}
use Rattle.pgrepeats.proofs.digest.crc_of.Goals as goal

pub returns : goal.returns
returns c =
    c.value.ensures (c.args.front.now ++ c.args.middle.now ++ c.args.back.now)
    (c.update-3.ensures (c.args.front.now ++ c.args.middle.now)
    (c.update-2.ensures c.args.front.now (c.update.ensures [] c.new-crc.ensures)))
