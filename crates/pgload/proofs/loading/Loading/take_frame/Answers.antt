use Rattle.std.proofs.lemmas.Result.{err_from_is_err_and}
use Rattle.std.proofs.Common.{refl, subst, sym, ◌++◌}
use Rattle.pgwire.specs.Frames as wire
use Rattle.pgwire.specs.Borrowed.{frame_value}
use Rattle.pgwire.specs.Deframed.{Stands}
use Rattle.pgload.specs.Inputs.{HasStopped}
use Rattle.pgload.proofs.Frames.{refused, done_refused, handled}
use Rattle.pgload.proofs.loading.Loading.take_frame.Goals as goal

pub returns-in-Some-Done-clause-steps : goal.returns-in-Some-Done-clause-steps
returns-in-Some-Done-clause-steps g c bytes read =
    let s = g.C.ReplicaStore in
    let stands = subst (λ f. Stands c.args.self.now.deframer (frame_value f)) c.in-Some-Done.field-0-is c.in-Some-Done.ensures in
    λ more.
    subst (λ store. HasStopped s.holds s.place s.reopens s.serves s.is_honest c.args.self.now.load.limits.max_line
    c.args.self.now.deframer.max (bytes ++ more) store
    c.refuse.new.self.table c.refuse.new.self.closed c.refuse.result) (sym c.refuse.ensures.store)
    (subst (λ fault. HasStopped s.holds s.place s.reopens s.serves s.is_honest c.args.self.now.load.limits.max_line
    c.args.self.now.deframer.max (bytes ++ more)
    c.args.self.now.load.store c.refuse.new.self.table c.refuse.new.self.closed fault)
    (sym c.refuse.ensures.fault)
    (done_refused s.holds s.place s.reopens s.serves s.is_honest c.args.self.now.load.limits.max_line bytes c.args.self.now.deframer
    c.args.self.now.load.store c.args.self.now.load.table
    c.args.self.now.load.closed read wire.CopyDone stands
    c.refuse.new.self.table c.refuse.new.self.closed refl more))

pub returns-in_err-step-in-Some-Data-clause-steps : goal.returns-in_err-step-in-Some-Data-clause-steps
returns-in_err-step-in-Some-Data-clause-steps g c bytes read =
    let s = g.C.ReplicaStore in
    let p = err_from_is_err_and c.from_residual.result c.from_residual.ensures.1 in
    let stands = subst (λ f. Stands c.args.self.now.deframer (frame_value f)) c.in-Some-Data.field-0-is c.in-Some-Data.ensures in
    rw (p.1, p.2)
    (refused s.holds s.place s.reopens s.serves s.is_honest c.args.self.now.load.limits.max_line bytes c.args.self.now.deframer
    c.args.self.now.load.store c.args.self.now.load.table
    c.args.self.now.load.closed read (wire.CopyData c.in-Some-Data.payload.now) stands
    c.take_payload.new.load.store c.take_payload.new.load.table c.take_payload.new.load.closed c.in_err-step-in-Some-Data.field-0.0
    (c.in_err-step-in-Some-Data.ensures.takes read.come read.has))

pub returns-clause-steps : goal.returns-clause-steps
returns-clause-steps g c bytes read =
    let s = g.C.ReplicaStore in
    let stands = subst (λ f. Stands c.args.self.now.deframer (frame_value f)) c.in-Some-Data.field-0-is c.in-Some-Data.ensures in
    handled s.holds s.place s.reopens s.serves s.is_honest c.args.self.now.load.limits.max_line bytes c.args.self.now.deframer
    c.args.self.now.load.store c.args.self.now.load.table
    c.args.self.now.load.closed read (wire.CopyData c.in-Some-Data.payload.now) stands
    c.in_ok-step-in-Some-Data.step c.take_payload.new.load.store c.take_payload.new.load.table c.take_payload.new.load.closed
    c.release.new.self (c.in_ok-step-in-Some-Data.ensures.takes read.come read.has) c.release.ensures refl

pub returns-clause-waits : goal.returns-clause-waits
returns-clause-waits g c is = absurd (c.in_ok-step-in-Some-Data.ensures.some is)
