use Rattle.std.proofs.Common.{drop}
use Rattle.std.proofs.lemmas.Result.{err_from_is_err_and}
use Rattle.pgtuple.specs.Reading.{tuple_from, tuple_at}
use Rattle.pgtuple.proofs.Decoded.{is_only, is_memory, no_memory}
use Rattle.pgtuple.proofs.SpelledReads.{fails_so}
use Rattle.pgtuple.proofs.decoding.decode.Goals as goal

pub returns-in_err-borrowed-clause-only : goal.returns-in_err-borrowed-clause-only
unfolding tuple_at
returns-in_err-borrowed-clause-only c =
    let p = err_from_is_err_and c.from_residual.result c.from_residual.ensures.1 in
    rw (p.1, p.2) (λ t more fits same.
    is_memory c.args.bytes.now c.in_err-borrowed.field-0.0 t more
    (fails_so c.in_err-borrowed.field-0.0 (tuple_from (0, c.args.bytes.now)) c.in_err-borrowed.ensures.exact) fits same)

pub returns-in_err-borrowed-clause-fault : goal.returns-in_err-borrowed-clause-fault
returns-in_err-borrowed-clause-fault c =
    let p = err_from_is_err_and c.from_residual.result c.from_residual.ensures.1 in
    rw (p.1, p.2) (λ _other. c.in_err-borrowed.ensures.fault)

pub returns-clause-only : goal.returns-clause-only
unfolding tuple_at
returns-clause-only c =
    rw c.in_ok-to_tuple.ensures.same
    (λ t more fits same. is_only c.args.bytes.now c.in_ok-borrowed.borrowed
    (c.in_ok-borrowed.len, drop c.in_ok-borrowed.len c.args.bytes.now) t more
    c.in_ok-borrowed.ensures.exact fits same)

pub returns-in_err-borrowed-clause-memory : goal.returns-in_err-borrowed-clause-memory
returns-in_err-borrowed-clause-memory c =
    let p = err_from_is_err_and c.from_residual.result c.from_residual.ensures.1 in
    rw (p.1, p.2) (λ memory. absurd (no_memory c.args.bytes.now c.in_err-borrowed.field-0.0 c.in_err-borrowed.ensures.fault memory))

pub returns-in_err-to_tuple-clause-memory : goal.returns-in_err-to_tuple-clause-memory
returns-in_err-to_tuple-clause-memory c =
    let p = err_from_is_err_and c.from_residual-in_err-to_tuple.result c.from_residual-in_err-to_tuple.ensures.1 in
    let found = c.in_ok-borrowed.ensures.found in
    rw (p.1, p.2) (λ _memory. (c.in_ok-borrowed.borrowed, drop c.in_ok-borrowed.len c.args.bytes.now, found.0, found.1))
