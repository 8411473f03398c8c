use Rattle.std.proofs.Common.{◌∷◌, [], ℤ, refl, sym, subst}
use Rattle.std.specs.Int.{w64}
use Rattle.std.proofs.lemmas.Int.{to_z-of_z}
use Rattle.pgwire.specs.Deframed.{Stands}
use Rattle.pgwire.specs.Frames.{Frame, CopyData, CopyDone}
use Rattle.pgwire.specs.Borrowed.{frame_value}
use Rattle.pgsub_core.specs.Calls.Framing.{FramesGo}
use Rattle.pgsub_core.proofs.FeedSteps.{one_stands}
use Rattle.pgsub_core.proofs.feeding.take_whole.Goals as goal

pub returns-in_ok-take_payload-in-Some-Data-clause-goes : goal.returns-in_ok-take_payload-in-Some-Data-clause-goes
returns-in_ok-take_payload-in-Some-Data-clause-goes g c serves stood_one f stands =
    let it = g.C.ReplicaStore in
    let here = CopyData c.in-Some-Data.payload.now in
    let stood = subst (λ x. Stands c.args.deframer.now (frame_value x)) c.in-Some-Data.field-0-is c.in-Some-Data.ensures in
    subst (λ (x : Frame). FramesGo it.stages it.reach c.args.now (x ∷ []) c.args.applier.now c.take_payload.new.self)
    (one_stands c.args.deframer.now here f stood stands)
    (subst (λ (z : ℤ). FramesGo it.stages it.reach z (here ∷ []) c.args.applier.now c.take_payload.new.self)
    (to_z-of_z w64 c.args.now c.ranges.now) (c.in_ok-take_payload-in-Some-Data.ensures.takes serves))

pub returns-in-Some-Done-clause-goes : goal.returns-in-Some-Done-clause-goes
returns-in-Some-Done-clause-goes g c serves stood_one f stands framing tables h =
    let stood = subst (λ x. Stands c.args.deframer.now (frame_value x)) c.in-Some-Done.field-0-is c.in-Some-Done.ensures in
    (tables, h, rw (sym (one_stands c.args.deframer.now CopyDone f stood stands)) refl)
