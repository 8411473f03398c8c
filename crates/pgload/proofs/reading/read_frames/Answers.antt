use Rattle.std.proofs.lemmas.Result.{err_from_is_err_and}
use Rattle.std.proofs.Common.{◌≡◌, ◌≢◌, ◌∙◌, ℕ, Ok, Err, [], refl, ap, subst, sym}
use Rattle.pgload.specs.declared.limits.Limits.{Limits}
use Rattle.pgload.specs.declared.input.Step.{Step}
use Rattle.pgload.specs.declared.input.Step.TheVariants as step
use Rattle.pgwire.specs.Deframed.{fresh}
use Rattle.pgload.specs.Inputs.{HasRead}
use Rattle.pgload.specs.Readers.{ReadsFrame}
use Rattle.pgload.proofs.Readers.{stops_behind, goes_behind, ends_behind, stops_low}
use Rattle.pgload.proofs.reading.read_frames.Goals as goal

pub returns-in_err-step-clause-reads : goal.returns-in_err-step-clause-reads
returns-in_err-step-clause-reads g c is =
    let s = g.C.ReplicaStore in
    let p = err_from_is_err_and c.from_residual.result c.from_residual.ensures.1 in
    let line = ap (λ (l : Limits). l.max_line) c.loop-count.invariant.limits in
    let so_far = c.loop-count.invariant.read is in
    let here = subst (λ m. HasRead s.holds s.place s.reopens s.serves s.is_honest m so_far.0 (fresh c.args.max_frame)
    c.loop-count.load.store
    c.loop-count.load.table c.loop-count.load.closed) (sym line) so_far.2 in
    let stopped = subst (λ m. ReadsFrame s.holds s.place s.reopens s.serves s.is_honest m c.args.max_frame so_far.0
    (g.R.Read.remaining c.loop-count.reader) (g.R.Read.remaining c.read_frame.new.reader) c.read_frame.new.load.store
    c.read_frame.new.load.table c.read_frame.new.load.closed (Err c.in_err-step.field-0.0)) line
    (c.in_err-step.ensures.reads so_far.0 here) in
    rw (p.1, p.2)
    (stops_behind s.holds s.place s.reopens s.serves s.is_honest c.args.load.now.limits.max_line c.args.max_frame
    (g.R.Read.remaining c.args.reader.now) (g.R.Read.remaining c.loop-count.reader) (g.R.Read.remaining c.read_frame.new.reader) so_far.0
    c.in_err-step.field-0.0 c.read_frame.new.load.store c.read_frame.new.load.table c.read_frame.new.load.closed so_far.1
    stopped)

pub returns-in-Ended-clause-reads : goal.returns-in-Ended-clause-reads
returns-in-Ended-clause-reads g c is =
    let s = g.C.ReplicaStore in
    let line = ap (λ (l : Limits). l.max_line) c.loop-count.invariant.limits in
    let so_far = c.loop-count.invariant.read is in
    let here = subst (λ m. HasRead s.holds s.place s.reopens s.serves s.is_honest m so_far.0 (fresh c.args.max_frame)
    c.loop-count.load.store
    c.loop-count.load.table c.loop-count.load.closed) (sym line) so_far.2 in
    let ended = subst (λ (it : Step). ReadsFrame s.holds s.place s.reopens s.serves s.is_honest c.args.load.now.limits.max_line
    c.args.max_frame so_far.0 (g.R.Read.remaining c.loop-count.reader) (g.R.Read.remaining c.read_frame.new.reader)
    c.read_frame.new.load.store c.read_frame.new.load.table c.read_frame.new.load.closed (Ok it)) c.in-Ended.is
    (subst (λ m. ReadsFrame s.holds s.place s.reopens s.serves s.is_honest m c.args.max_frame so_far.0
    (g.R.Read.remaining c.loop-count.reader) (g.R.Read.remaining c.read_frame.new.reader) c.read_frame.new.load.store
    c.read_frame.new.load.table c.read_frame.new.load.closed (Ok c.in_ok-step.step)) line
    (c.in_ok-step.ensures.reads so_far.0 here)) in
    ends_behind s.holds s.place s.reopens s.serves s.is_honest c.args.load.now.limits.max_line c.args.max_frame
    (g.R.Read.remaining c.args.reader.now) (g.R.Read.remaining c.loop-count.reader) (g.R.Read.remaining c.read_frame.new.reader) so_far.0
    c.in-Ended.point c.read_frame.new.load.store c.read_frame.new.load.table c.read_frame.new.load.closed so_far.1 ended

pub loop-count-preserved : goal.loop-count-preserved
loop-count-preserved g c = record {
  limits = c.read_frame.ensures.limits ∙ c.loop-count.invariant.limits;
  honest = λ now. c.loop-count.invariant.honest (c.read_frame.ensures.honest now);
  read = λ is.
      let s = g.C.ReplicaStore in
      let line = ap (λ (l : Limits). l.max_line) c.loop-count.invariant.limits in
      let so_far = c.loop-count.invariant.read is in
      let here = subst (λ m. HasRead s.holds s.place s.reopens s.serves s.is_honest m so_far.0 (fresh c.args.max_frame)
      c.loop-count.load.store c.loop-count.load.table c.loop-count.load.closed) (sym line) so_far.2 in
      let went = subst (λ m. ReadsFrame s.holds s.place s.reopens s.serves s.is_honest m c.args.max_frame so_far.0
      (g.R.Read.remaining c.loop-count.reader) (g.R.Read.remaining c.read_frame.new.reader) c.read_frame.new.load.store
      c.read_frame.new.load.table c.read_frame.new.load.closed (Ok c.in_ok-step.step)) line
      (c.in_ok-step.ensures.reads so_far.0 here) in
      goes_behind s.holds s.place s.reopens s.serves s.is_honest c.args.load.now.limits.max_line c.args.max_frame
      (g.R.Read.remaining c.args.reader.now) (g.R.Read.remaining c.loop-count.reader) (g.R.Read.remaining c.read_frame.new.reader)
      so_far.0 c.in_ok-step.step c.read_frame.new.load.store c.read_frame.new.load.table c.read_frame.new.load.closed
      so_far.1 went c.in_default.not-Ended;
}
