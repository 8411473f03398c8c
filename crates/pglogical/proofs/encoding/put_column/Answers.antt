use Rattle.pglogical.proofs.Appended.{still_kept}
use Rattle.pglogical.proofs.encoding.put_column.Goals as goal

pub returns-clause-err : goal.returns-clause-err
returns-clause-err c =
    still_kept c.put_i32.result _ _ _ _ c.in_ok-push.ensures.items
    (still_kept c.put_i32.result _ _ _ _ c.in_ok-put_c_string.ensures.ok
    (still_kept c.put_i32.result _ _ _ _ c.in_ok-put_u32.ensures.ok c.put_i32.ensures.err))
