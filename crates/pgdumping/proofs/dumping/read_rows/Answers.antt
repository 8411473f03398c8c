use Rattle.std.proofs.Common.{[], None, refl, subst, arith, inl, inr}
use Rattle.pgrows.specs.Rows.{tables_of}
use Rattle.pgdumping.specs.declared.dumping.Reading.{Reading}
use Rattle.pgdumping.proofs.DumpShown.{all_written, dump_read, front_read, if_all, if_told}
use Rattle.pgdumping.proofs.DumpShown.{own_of_left, some_cause}
use Rattle.pgdumping.proofs.dumping.read_rows.Goals as goal

pub returns-clause-front : goal.returns-clause-front
returns-clause-front g c clean v h start none =
    let begun : Reading g.row.T.Denot = record { alloc = c.args.alloc; sink = start; fault = None } in
    let front = c.each_row-read.ensures.front clean begun in
    let taken = front.3 [] ([], tt, none) in
    let more = front_read v (tables_of g.S.Store c.args.rows.now) h front.0 front.1 front.2 taken.0 taken.1 in
    (taken.0, more.0, more.1, taken.2)

pub returns-clause-all : goal.returns-clause-all
returns-clause-all g c clean = if_all c.ending.result (λ is v h start none.
    let begun : Reading g.row.T.Denot = record { alloc = c.args.alloc; sink = start; fault = None } in
    let taken = (rw (c.ending.ensures.all is) at c.each_row-read.ensures.all clean) refl begun [] ([], tt, none) in
    subst (g.T.DumpSink.has_taken start c.each_row-read.new.sink.sink) (dump_read v (tables_of g.S.Store c.args.rows.now) h taken.0 taken.1)
    taken.2)

pub returns-clause-formed : goal.returns-clause-formed
returns-clause-formed g c clean stored =
    if_told c.ending.result c.ending.ensures.refusal c.ending.ensures.told (λ fault refusal told. elim told [
      | inl own ↦ own.2
      | inr left_at ↦
          let made = rw left_at.0 at c.each_row-read.ensures.made clean in
          let left = (rw left_at.0 at c.each_row-read.ensures.left clean) refl in
          let v = stored (omega (arith, c.each_row-read.ensures.survives.clean)) made.was_open in
          let cause = some_cause c.each_row-read.new.sink.fault _ left_at.1 left.2 in
          own_of_left {told = c.each_row-read.new.sink.fault} _ (all_written v.0 (tables_of g.S.Store c.args.rows.now) v.1)
          (left.0, left.1, cause) refusal left_at.2
    ])
