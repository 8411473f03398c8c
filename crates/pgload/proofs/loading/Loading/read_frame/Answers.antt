use Rattle.std.proofs.lemmas.Result.{err_from_is_err_and}
use Rattle.std.proofs.Common.{◌++◌, ap, subst, sym, take, drop}
use Rattle.pgload.specs.declared.limits.Limits.{Limits}
use Rattle.pgload.specs.Inputs.{HasRead}
use Rattle.pgload.proofs.Frames.{filled, used_up, joined, stopped_at, advanced}
use Rattle.pgload.proofs.loading.Loading.read_frame.Goals as goal

pub returns-in_err-step-clause-advances : goal.returns-in_err-step-clause-advances
returns-in_err-step-clause-advances g c bytes read =
    let s = g.C.ReplicaStore in
    let p = err_from_is_err_and c.from_residual-in_err-step.result c.from_residual-in_err-step.ensures.1 in
    let at = subst (λ load. HasRead s.holds s.place s.reopens s.serves s.is_honest load.limits.max_line (bytes ++ take c.in_ok-taken.taken
    c.args.piece.now) c.fill.new.self.deframer
    load.store load.table load.closed) (sym c.in_ok-taken.ensures.load)
    (filled s.holds s.place s.reopens s.serves s.is_honest c.args.self.now.load.limits.max_line bytes c.args.self.now.deframer
    c.args.self.now.load.store c.args.self.now.load.table
    c.args.self.now.load.closed read
    c.fill.new.self.deframer c.args.piece.now c.in_ok-taken.taken c.in_ok-taken.ensures.fed) in
    let line = ap (λ (l : Limits). l.max_line) c.in_ok-taken.ensures.limits in
    rw (p.1, p.2)
    (stopped_at s.holds s.place s.reopens s.serves s.is_honest c.args.self.now.load.limits.max_line c.args.self.now.deframer.max
    c.fill.new.self.load.limits.max_line
    c.fill.new.self.deframer.max (bytes ++ c.args.piece.now)
    ((bytes ++ take c.in_ok-taken.taken c.args.piece.now) ++ drop c.in_ok-taken.taken c.args.piece.now)
    c.take_frame.new.self.load.store c.take_frame.new.self.load.table c.take_frame.new.self.load.closed c.in_err-step.field-0.0
    line c.in_ok-taken.ensures.max_frame (joined bytes c.args.piece.now c.in_ok-taken.taken)
    (c.in_err-step.ensures.steps (bytes ++ take c.in_ok-taken.taken c.args.piece.now) at (drop c.in_ok-taken.taken c.args.piece.now)))

pub returns-clause-advances : goal.returns-clause-advances
returns-clause-advances g c bytes read =
    let s = g.C.ReplicaStore in
    let at = subst (λ load. HasRead s.holds s.place s.reopens s.serves s.is_honest load.limits.max_line (bytes ++ take c.in_ok-taken.taken
    c.args.piece.now) c.fill.new.self.deframer
    load.store load.table load.closed) (sym c.in_ok-taken.ensures.load)
    (filled s.holds s.place s.reopens s.serves s.is_honest c.args.self.now.load.limits.max_line bytes c.args.self.now.deframer
    c.args.self.now.load.store c.args.self.now.load.table
    c.args.self.now.load.closed read
    c.fill.new.self.deframer c.args.piece.now c.in_ok-taken.taken c.in_ok-taken.ensures.fed) in
    let line = ap (λ (l : Limits). l.max_line) c.in_ok-taken.ensures.limits in
    advanced s.holds s.place s.reopens s.serves s.is_honest c.args.self.now.load.limits.max_line c.args.self.now.deframer.max
    c.fill.new.self.load.limits.max_line
    c.fill.new.self.deframer.max bytes c.args.piece.now c.in_ok-taken.taken c.in_ok-step.step
    c.take_frame.new.self.deframer c.take_frame.new.self.load.store c.take_frame.new.self.load.table c.take_frame.new.self.load.closed
    line c.in_ok-taken.ensures.max_frame
    (λ is. used_up c.args.self.now.deframer c.fill.new.self.deframer c.args.piece.now c.in_ok-taken.taken c.in_ok-taken.ensures.fed
    (c.in_ok-step.ensures.waits is))
    (c.in_ok-step.ensures.steps (bytes ++ take c.in_ok-taken.taken c.args.piece.now) at)
