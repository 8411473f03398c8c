use Rattle.pgreshaping.proofs.Parked.{stays_none}
use Rattle.pgreshaping.proofs.parking.free_oid.Goals as goal

pub loop-park-init : goal.loop-park-init
loop-park-init g c = stays_none g.S.Store c.args.rows.now
