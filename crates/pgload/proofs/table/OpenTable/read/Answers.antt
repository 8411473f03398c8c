use Rattle.std.proofs.lemmas.Result.{err_from_is_err_and}
use Rattle.std.proofs.Common.{subst, take}
use Rattle.pgload.specs.Loading.{IsLoading, TextStops, with_text}
use Rattle.pgload.proofs.Texts.{read_next, read_last, read_within}
use Rattle.pgload.proofs.table.OpenTable.read.Goals as goal

pub returns-in_err-taken-clause-goes : goal.returns-in_err-taken-clause-goes
returns-in_err-taken-clause-goes g c max_line before table is =
    let s = g.C.ReplicaStore in
    let p = err_from_is_err_and c.from_residual.result c.from_residual.ensures.1 in
    rw (p.1, p.2)
    (subst (λ it. TextStops s.holds s.place s.reopens s.serves s.is_honest max_line before it c.read_row.new.store c.in_err-taken.field-0.0)
    (read_last table c.loop-taken.read c.args.piece.now)
    (c.in_err-taken.ensures.goes max_line before (with_text table (take c.loop-taken.read c.args.piece.now))
    (c.loop-taken.invariant.loading max_line before table is)))

pub loop-taken-preserved : goal.loop-taken-preserved
loop-taken-preserved g c = record {
  within = read_within c.loop-taken.read c.in-Some.taken c.args.piece.now c.loop-taken.invariant.within
      (rw c.in-Some.is at c.in_ok-taken.ensures.some).1;
  loading = λ max_line before table is.
      let s = g.C.ReplicaStore in
      subst (λ it. IsLoading s.holds s.place s.reopens s.serves s.is_honest max_line before it c.read_row.new.store c.read_row.new.self)
      (read_next table c.loop-taken.read c.in-Some.taken c.args.piece.now)
      (rw c.in-Some.is at (c.in_ok-taken.ensures.goes max_line before (with_text table (take c.loop-taken.read c.args.piece.now))
      (c.loop-taken.invariant.loading max_line before table is)));
  batch = λ most. c.in_ok-taken.ensures.batch (c.loop-taken.invariant.batch most);
  honest = λ now. c.loop-taken.invariant.honest (c.read_row.ensures.honest now);
}
