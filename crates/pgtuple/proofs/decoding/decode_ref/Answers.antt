use Rattle.std.proofs.Common.{arith}
use Rattle.std.proofs.lemmas.Result.{err_from_is_err_and}
use Rattle.pgtuple.specs.Reading.{tuple_at}
use Rattle.pgtuple.proofs.FirstFaults.{faults_are_first}
use Rattle.pgtuple.proofs.SpelledReads.{SpelledFront, spelled_front}
use Rattle.pgtuple.proofs.decoding.decode_ref.Goals.{In_ok-columns}
use Rattle.pgtuple.proofs.decoding.decode_ref.Goals as goal

pub returns-in_err-columns-clause-exact : goal.returns-in_err-columns-clause-exact
unfolding tuple_at
returns-in_err-columns-clause-exact c =
    let p = err_from_is_err_and c.from_residual.result c.from_residual.ensures.1 in
    rw (p.1, p.2) (rw c.new-reader.ensures at c.in_err-columns.ensures)

pub returns-in_err-columns-clause-fault : goal.returns-in_err-columns-clause-fault
unfolding tuple_at
returns-in_err-columns-clause-fault c =
    let p = err_from_is_err_and c.from_residual.result c.from_residual.ensures.1 in
    rw (p.1, p.2) ((faults_are_first c.args.bytes.now c.in_err-columns.field-0.0 (λ i. omega (arith, c.type_inv.bytes i))).0
    (rw c.new-reader.ensures at c.in_err-columns.ensures))

front : (c : In_ok-columns) → SpelledFront c.args.bytes.now c.columns.new.reader
front c = spelled_front c.args.bytes.now c.columns.new.reader (λ i. omega (arith, c.type_inv.bytes i))
    (rw c.new-reader.ensures at c.in_ok-columns.ensures)

pub split_at-requires : goal.split_at-requires
split_at-requires c = rw c.offset-len.ensures (front (goal.at.split_at-requires c).In_ok-columns).within

pub of_bytes-requires : goal.of_bytes-requires
of_bytes-requires c = rw (c.split_at.ensures.front, c.offset-len.ensures) (front (goal.at.of_bytes-requires c).In_ok-columns).spelled

pub returns-clause-found : goal.returns-clause-found
returns-clause-found c =
    let f = front (goal.at.returns-clause-found c).In_ok-columns in
    rw (c.of_bytes.ensures, c.split_at.ensures.front, c.offset-len.ensures, f.same) (f.front.fits, f.front.parts, f.front.place)

pub returns-clause-exact : goal.returns-clause-exact
returns-clause-exact c =
    let f = front (goal.at.returns-clause-exact c).In_ok-columns in
    rw (c.of_bytes.ensures, c.split_at.ensures.front, c.offset-len.ensures, f.same) f.exact
