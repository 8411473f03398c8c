use Rattle.pglogical.proofs.Appended.{still_kept}
use Rattle.pgtuple.proofs.Appending.{on_err}
use Rattle.pglogical.proofs.encoding.put_logical.Goals as goal

pub returns-in_err-put_lsn-clause-err : goal.returns-in_err-put_lsn-clause-err
returns-in_err-put_lsn-clause-err c =
    still_kept c.from_residual-in_err-put_lsn.result _ _ _ _ c.in_ok-put_head.ensures.ok
    (still_kept c.from_residual-in_err-put_lsn.result _ _ _ _ c.in_ok-push.ensures.items
    (on_err c.from_residual-in_err-put_lsn.result c.in_err-put_lsn.ensures.err))

pub returns-in_err-put_c_string-clause-err : goal.returns-in_err-put_c_string-clause-err
returns-in_err-put_c_string-clause-err c =
    still_kept c.from_residual-in_err-put_c_string.result _ _ _ _ c.in_ok-put_head.ensures.ok
    (still_kept c.from_residual-in_err-put_c_string.result _ _ _ _ c.in_ok-push.ensures.items
    (still_kept c.from_residual-in_err-put_c_string.result _ _ _ _ c.in_ok-put_lsn.ensures.ok
    (on_err c.from_residual-in_err-put_c_string.result c.in_err-put_c_string.ensures.err)))

pub returns-clause-err : goal.returns-clause-err
returns-clause-err c =
    still_kept c.put_counted.result _ _ _ _ c.in_ok-put_head.ensures.ok
    (still_kept c.put_counted.result _ _ _ _ c.in_ok-push.ensures.items
    (still_kept c.put_counted.result _ _ _ _ c.in_ok-put_lsn.ensures.ok
    (still_kept c.put_counted.result _ _ _ _ c.in_ok-put_c_string.ensures.ok c.put_counted.ensures.err)))
