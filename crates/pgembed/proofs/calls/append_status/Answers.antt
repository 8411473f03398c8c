use Rattle.std.proofs.Common.{inl, refl, w64}
use Rattle.std.proofs.lemmas.Int.{to_z-of_z}
use Rattle.pgembed.proofs.Clocks.{asked_at}
use Rattle.pgembed.proofs.calls.append_status.Goals as goal

pub returns-in-Ok-clause-asked : goal.returns-in-Ok-clause-asked
returns-in-Ok-clause-asked g c =
    let same = to_z-of_z w64 c.args.clock c.ranges.clock in
    inl (refl, asked_at g.C.ReplicaStore.place c.args.ask c.args.subscriber.now c.status.new.self same c.in-Ok.ensures.appended)
