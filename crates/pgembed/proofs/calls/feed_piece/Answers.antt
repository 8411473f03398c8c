use Rattle.std.proofs.Common.{inl, inr, refl, w64}
use Rattle.std.proofs.lemmas.Int.{to_z-of_z}
use Rattle.pgembed.proofs.Clocks.{fed_at, refused_at}
use Rattle.pgembed.proofs.calls.feed_piece.Goals as goal

pub returns-in-Ok-clause-fed : goal.returns-in-Ok-clause-fed
returns-in-Ok-clause-fed g c serves =
    let C = g.C.ReplicaStore in
    let fed = fed_at C.holds C.place c.args.subscriber.now c.feed.new.self c.args.piece.now
    (to_z-of_z w64 c.args.clock c.ranges.clock) (c.in-Ok.ensures.fed serves) in
    inl (fed, refl, (refl, refl))

pub returns-in-Err-clause-fed : goal.returns-in-Err-clause-fed
returns-in-Err-clause-fed g c serves =
    let C = g.C.ReplicaStore in
    let refused = refused_at C.holds C.place c.args.subscriber.now c.feed.new.self c.args.piece.now
    (to_z-of_z w64 c.args.clock c.ranges.clock) c.in-Err.fault (c.in-Err.ensures.refused serves) in
    inr (c.in-Err.fault, refused, c.pass_stream_fault.ensures.number, c.pass_stream_fault.ensures.text)
