use Rattle.std.proofs.Common.{◌≡◌, true, [], arith}
use Rattle.std.proofs.lemmas.Result.{err_from_is_err_and}
use Rattle.pgwire.proofs.Holding.{next_fault}
use Rattle.pgwire.proofs.deframer.next.Goals as goal
use Rattle.pgwire.proofs.deframer.next.Goals.{else-done-via-then-done+else-not-is_empty}
use Rattle.pgwire.proofs.deframer.next.Goals.{else-done-via-else-done}
use Rattle.std.proofs.lemmas.List.{nil_from_length}

pub returns-in_err-payload_len : goal.returns-in_err-payload_len
returns-in_err-payload_len c =
    let p = err_from_is_err_and c.from_residual.result c.from_residual.ensures.1 in
    let empty : c.args.done ≡ true → c.args.piece.now ≡ [] = λ d. elim c.else-done.branch [
      | else-done-via-then-done+else-not-is_empty w ↦ nil_from_length _ (grind arith)
      | else-done-via-else-done w ↦ absurd (grind arith)
    ] in
    rw (p.1, p.2) (next_fault c.args.max_frame c.args.done c.args.header c.with-header.result c.args.piece.now
    c.in_err-payload_len.field-0.0 c.with-header.ensures c.requires empty c.in_err-payload_len.ensures)
