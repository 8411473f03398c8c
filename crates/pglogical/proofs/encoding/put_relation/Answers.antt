use Rattle.pglogical.proofs.Appended.{still_kept}
use Rattle.pglogical.proofs.encoding.put_relation.Goals as goal

pub returns-clause-err : goal.returns-clause-err
returns-clause-err c =
    still_kept c.put_columns.result _ _ _ _ c.in_ok-put_head.ensures.ok
    (still_kept c.put_columns.result _ _ _ _ c.in_ok-put_u32.ensures.ok
    (still_kept c.put_columns.result _ _ _ _ c.in_ok-put_c_string.ensures.ok
    (still_kept c.put_columns.result _ _ _ _ c.in_ok-put_c_string-2.ensures.ok
    (still_kept c.put_columns.result _ _ _ _ c.in_ok-push.ensures.items c.put_columns.ensures.err))))
