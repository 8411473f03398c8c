use Rattle.std.proofs.Common.{rules}
use Rattle.std.proofs.lemmas.Slice.{between_to_end}
use Rattle.pgfollow.proofs.Writing.{none_written, part_written}
use Rattle.pgfollow.proofs.link.Link.write_bytes.Goals as goal

pub loop-rest-init : goal.loop-rest-init
loop-rest-init g c = (c.requires.sound, search rules, search rules, search rules, none_written _ c.args.bytes.now)

pub loop-rest-preserved : goal.loop-rest-preserved
loop-rest-preserved g c =
    let front = c.loop-rest.invariant.4 in (
      c.loop-rest.invariant.0,
      c.loop-rest.invariant.1,
      c.loop-rest.invariant.2,
      c.loop-rest.invariant.3,
      part_written _ _ _ c.args.bytes.now c.loop-rest.rest.now _ front.0 c.in-Ok.count front.1 front.2 c.in-Ok.ensures.bytes
          (between_to_end c.loop-rest.rest.now c.in-Ok.count _ (search rules)),
    )
