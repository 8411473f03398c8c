use Rattle.std.proofs.lemmas.Result.{err_from_is_err_and}
use Rattle.std.proofs.Common.{◌++◌, ◌+◌, ◌-◌, ◌∙◌, Ok, ap, subst, sym, take, drop, length}
use Rattle.pgload.specs.declared.limits.Limits.{Limits}
use Rattle.pgload.specs.declared.input.Step.{Step}
use Rattle.pgload.specs.Inputs.{HasRead, Advances}
use Rattle.pgload.proofs.Texts.{read_within}
use Rattle.pgload.proofs.Frames.{joined_all, joined_next, stopped_at, ended_at, stopped_stands}
use Rattle.pgload.proofs.Frames.{read_leaves, ended_leaves}
use Rattle.pgload.specs.Loading.{LeavesNoPart, IsBounded}
use Rattle.pgload.proofs.loading.Loading.feed.Goals as goal

pub returns-in_err-count-clause-reads : goal.returns-in_err-count-clause-reads
returns-in_err-count-clause-reads g c bytes read =
    let s = g.C.ReplicaStore in
    let p = err_from_is_err_and c.from_residual.result c.from_residual.ensures.1 in
    let line = ap (λ (l : Limits). l.max_line) c.frames.invariant.limits in
    let before = bytes ++ take c.frames.taken c.args.piece.now in
    let here = subst (λ m. HasRead s.holds s.place s.reopens s.serves s.is_honest m before c.frames.self.deframer c.frames.self.load.store
    c.frames.self.load.table
    c.frames.self.load.closed) (sym line) (c.frames.invariant.read bytes read) in
    rw (p.1, p.2)
    (stopped_at s.holds s.place s.reopens s.serves s.is_honest c.args.self.now.load.limits.max_line c.args.self.now.deframer.max
    c.frames.self.load.limits.max_line
    c.frames.self.deframer.max (bytes ++ c.args.piece.now)
    (before ++ (take (length c.args.piece.now - c.frames.taken) (drop c.frames.taken c.args.piece.now)))
    c.read_frame.new.self.load.store c.read_frame.new.self.load.table c.read_frame.new.self.load.closed c.in_err-count.field-0.0
    line c.frames.invariant.max_frame (joined_all bytes c.args.piece.now c.frames.taken)
    (c.in_err-count.ensures.advances before here))

pub frames-preserved : goal.frames-preserved
frames-preserved g c = let batch = ap (λ (l : Limits). l.batch) c.frames.invariant.limits in record {
  within = read_within c.frames.taken c.in_ok-count.count c.args.piece.now c.frames.invariant.within c.in_ok-count.ensures.within;
  read = λ bytes read.
      let s = g.C.ReplicaStore in
      let line = ap (λ (l : Limits). l.max_line) c.frames.invariant.limits in
      let before = bytes ++ take c.frames.taken c.args.piece.now in
      let here = subst (λ m. HasRead s.holds s.place s.reopens s.serves s.is_honest m before c.frames.self.deframer
      c.frames.self.load.store c.frames.self.load.table
      c.frames.self.load.closed) (sym line) (c.frames.invariant.read bytes read) in
      let went = subst (λ (it : Step). Advances s.holds s.place s.reopens s.serves s.is_honest c.frames.self.load.limits.max_line
      c.frames.self.deframer.max before
      (take (length c.args.piece.now - c.frames.taken) (drop c.frames.taken c.args.piece.now)) c.read_frame.new.self.deframer
      c.read_frame.new.self.load.store c.read_frame.new.self.load.table c.read_frame.new.self.load.closed (Ok (c.in_ok-count.count, it)))
      c.in-Goes.is (c.in_ok-count.ensures.advances before here) in
      subst (λ m. HasRead s.holds s.place s.reopens s.serves s.is_honest m (bytes ++ take (c.frames.taken + c.in_ok-count.count)
      c.args.piece.now) c.read_frame.new.self.deframer
      c.read_frame.new.self.load.store c.read_frame.new.self.load.table c.read_frame.new.self.load.closed) line
      (subst (λ it. HasRead s.holds s.place s.reopens s.serves s.is_honest c.frames.self.load.limits.max_line it
      c.read_frame.new.self.deframer
      c.read_frame.new.self.load.store c.read_frame.new.self.load.table c.read_frame.new.self.load.closed)
      (joined_next bytes c.args.piece.now c.frames.taken c.in_ok-count.count) went);
  bounded = λ was. subst (λ b. IsBounded b c.read_frame.new.self.load.table) batch (c.in_ok-count.ensures.bounded
      (subst (λ b. IsBounded b c.frames.self.load.table) (sym batch) (c.frames.invariant.bounded was)));
  limits = c.in_ok-count.ensures.limits ∙ c.frames.invariant.limits;
  max_frame = c.in_ok-count.ensures.max_frame ∙ c.frames.invariant.max_frame;
}

pub returns-in-Ended-clause-reads : goal.returns-in-Ended-clause-reads
returns-in-Ended-clause-reads g c bytes read =
    let s = g.C.ReplicaStore in
    let line = ap (λ (l : Limits). l.max_line) c.frames.invariant.limits in
    let before = bytes ++ take c.frames.taken c.args.piece.now in
    let here = subst (λ m. HasRead s.holds s.place s.reopens s.serves s.is_honest m before c.frames.self.deframer c.frames.self.load.store
    c.frames.self.load.table
    c.frames.self.load.closed) (sym line) (c.frames.invariant.read bytes read) in
    let went = subst (λ (it : Step). Advances s.holds s.place s.reopens s.serves s.is_honest c.frames.self.load.limits.max_line
    c.frames.self.deframer.max before
    (take (length c.args.piece.now - c.frames.taken) (drop c.frames.taken c.args.piece.now)) c.read_frame.new.self.deframer
    c.read_frame.new.self.load.store c.read_frame.new.self.load.table c.read_frame.new.self.load.closed (Ok (c.in_ok-count.count, it)))
    c.in-Ended.is (c.in_ok-count.ensures.advances before here) in (
      read_within c.frames.taken c.in_ok-count.count c.args.piece.now c.frames.invariant.within c.in_ok-count.ensures.within,
      ended_at s.holds s.place s.reopens s.serves s.is_honest c.args.self.now.load.limits.max_line c.args.self.now.deframer.max
          c.frames.self.load.limits.max_line c.frames.self.deframer.max
          (bytes ++ take (c.frames.taken + c.in_ok-count.count) c.args.piece.now)
          (before ++ take c.in_ok-count.count (take (length c.args.piece.now - c.frames.taken) (drop c.frames.taken c.args.piece.now)))
          c.in-Ended.point c.read_frame.new.self.load.store line c.frames.invariant.max_frame
          (joined_next bytes c.args.piece.now c.frames.taken c.in_ok-count.count) went,
    )

pub returns-in_err-count-clause-position : goal.returns-in_err-count-clause-position
returns-in_err-count-clause-position g c bytes read =
    let s = g.C.ReplicaStore in
    let p = err_from_is_err_and c.from_residual.result c.from_residual.ensures.1 in
    let line = ap (λ (l : Limits). l.max_line) c.frames.invariant.limits in
    let before = bytes ++ take c.frames.taken c.args.piece.now in
    let here = subst (λ m. HasRead s.holds s.place s.reopens s.serves s.is_honest m before c.frames.self.deframer
    c.frames.self.load.store c.frames.self.load.table c.frames.self.load.closed) (sym line) (c.frames.invariant.read bytes read) in
    let stopped = stopped_stands s.holds s.place s.reopens s.serves s.is_honest c.frames.self.load.limits.max_line
    c.frames.self.deframer.max (before ++ (take (length c.args.piece.now - c.frames.taken) (drop c.frames.taken c.args.piece.now)))
    c.read_frame.new.self.load.store c.read_frame.new.self.load.table c.read_frame.new.self.load.closed c.in_err-count.field-0.0
    (c.in_err-count.ensures.advances before here) in
    rw p.1 stopped.0

pub returns-in_err-count-clause-crash : goal.returns-in_err-count-clause-crash
returns-in_err-count-clause-crash g c bytes read =
    let s = g.C.ReplicaStore in
    let line = ap (λ (l : Limits). l.max_line) c.frames.invariant.limits in
    let before = bytes ++ take c.frames.taken c.args.piece.now in
    let here = subst (λ m. HasRead s.holds s.place s.reopens s.serves s.is_honest m before c.frames.self.deframer
    c.frames.self.load.store c.frames.self.load.table c.frames.self.load.closed) (sym line) (c.frames.invariant.read bytes read) in
    let stopped = stopped_stands s.holds s.place s.reopens s.serves s.is_honest c.frames.self.load.limits.max_line
    c.frames.self.deframer.max (before ++ (take (length c.args.piece.now - c.frames.taken) (drop c.frames.taken c.args.piece.now)))
    c.read_frame.new.self.load.store c.read_frame.new.self.load.table c.read_frame.new.self.load.closed c.in_err-count.field-0.0
    (c.in_err-count.ensures.advances before here) in
    subst (λ m. LeavesNoPart s.holds s.place s.reopens s.serves s.is_honest m c.read_frame.new.self.load.store) line stopped.1

pub returns-in-Waits-clause-crash : goal.returns-in-Waits-clause-crash
returns-in-Waits-clause-crash g c bytes read =
    let s = g.C.ReplicaStore in
    let line = ap (λ (l : Limits). l.max_line) c.frames.invariant.limits in
    let before = bytes ++ take c.frames.taken c.args.piece.now in
    let here = subst (λ m. HasRead s.holds s.place s.reopens s.serves s.is_honest m before c.frames.self.deframer
    c.frames.self.load.store c.frames.self.load.table c.frames.self.load.closed) (sym line) (c.frames.invariant.read bytes read) in
    let went = subst (λ (it : Step). Advances s.holds s.place s.reopens s.serves s.is_honest c.frames.self.load.limits.max_line
    c.frames.self.deframer.max before (take (length c.args.piece.now - c.frames.taken) (drop c.frames.taken c.args.piece.now))
    c.read_frame.new.self.deframer c.read_frame.new.self.load.store c.read_frame.new.self.load.table
    c.read_frame.new.self.load.closed (Ok (c.in_ok-count.count, it)))
    c.in-Waits.is (c.in_ok-count.ensures.advances before here) in
    subst (λ m. LeavesNoPart s.holds s.place s.reopens s.serves s.is_honest m c.read_frame.new.self.load.store) line
    (read_leaves s.holds s.place s.reopens s.serves s.is_honest c.frames.self.load.limits.max_line
    (before ++ (take (length c.args.piece.now - c.frames.taken) (drop c.frames.taken c.args.piece.now)))
    c.read_frame.new.self.deframer c.read_frame.new.self.load.store c.read_frame.new.self.load.table
    c.read_frame.new.self.load.closed went)

pub returns-in-Ended-clause-crash : goal.returns-in-Ended-clause-crash
returns-in-Ended-clause-crash g c bytes read =
    let s = g.C.ReplicaStore in
    let line = ap (λ (l : Limits). l.max_line) c.frames.invariant.limits in
    let before = bytes ++ take c.frames.taken c.args.piece.now in
    let here = subst (λ m. HasRead s.holds s.place s.reopens s.serves s.is_honest m before c.frames.self.deframer
    c.frames.self.load.store c.frames.self.load.table c.frames.self.load.closed) (sym line) (c.frames.invariant.read bytes read) in
    let went = subst (λ (it : Step). Advances s.holds s.place s.reopens s.serves s.is_honest c.frames.self.load.limits.max_line
    c.frames.self.deframer.max before (take (length c.args.piece.now - c.frames.taken) (drop c.frames.taken c.args.piece.now))
    c.read_frame.new.self.deframer c.read_frame.new.self.load.store c.read_frame.new.self.load.table
    c.read_frame.new.self.load.closed (Ok (c.in_ok-count.count, it)))
    c.in-Ended.is (c.in_ok-count.ensures.advances before here) in
    subst (λ m. LeavesNoPart s.holds s.place s.reopens s.serves s.is_honest m c.read_frame.new.self.load.store) line
    (ended_leaves s.holds s.place s.reopens s.serves s.is_honest c.frames.self.load.limits.max_line c.frames.self.deframer.max
    (before ++ take c.in_ok-count.count (take (length c.args.piece.now - c.frames.taken) (drop c.frames.taken c.args.piece.now)))
    c.in-Ended.point c.read_frame.new.self.load.store went)
