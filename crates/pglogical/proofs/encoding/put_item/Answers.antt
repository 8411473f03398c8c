use Rattle.pglogical.proofs.Appended.{still_kept}
use Rattle.pglogical.proofs.encoding.put_item.Goals as goal

pub returns-in_ok-push-in-Insert-clause-err : goal.returns-in_ok-push-in-Insert-clause-err
returns-in_ok-push-in-Insert-clause-err c =
    still_kept c.put_tuple.result _ _ _ _ c.in_ok-put_head-in-Insert.ensures.ok
    (still_kept c.put_tuple.result _ _ _ _ c.in_ok-put_u32-in-Insert.ensures.ok
    (still_kept c.put_tuple.result _ _ _ _ c.in_ok-push-in-Insert.ensures.items c.put_tuple.ensures.err))

pub returns-in_ok-push-in-Update-clause-err : goal.returns-in_ok-push-in-Update-clause-err
returns-in_ok-push-in-Update-clause-err c =
    still_kept c.put_tuple-in-Update.result _ _ _ _ c.in_ok-put_head-in-Update.ensures.ok
    (still_kept c.put_tuple-in-Update.result _ _ _ _ c.in_ok-put_u32-in-Update.ensures.ok
    (still_kept c.put_tuple-in-Update.result _ _ _ _ c.in_ok-put_prior-in-Update.ensures.ok
    (still_kept c.put_tuple-in-Update.result _ _ _ _ c.in_ok-push-in-Update.ensures.items c.put_tuple-in-Update.ensures.err)))

pub returns-in_ok-push-in-Delete-clause-err : goal.returns-in_ok-push-in-Delete-clause-err
returns-in_ok-push-in-Delete-clause-err c =
    still_kept c.put_tuple-in-Delete.result _ _ _ _ c.in_ok-put_head-in-Delete.ensures.ok
    (still_kept c.put_tuple-in-Delete.result _ _ _ _ c.in_ok-put_u32-in-Delete.ensures.ok
    (still_kept c.put_tuple-in-Delete.result _ _ _ _ c.in_ok-push-in-Delete.ensures.items c.put_tuple-in-Delete.ensures.err))

pub returns-in_ok-push-in-Truncate-clause-err : goal.returns-in_ok-push-in-Truncate-clause-err
returns-in_ok-push-in-Truncate-clause-err c =
    still_kept c.put_oids.result _ _ _ _ c.in_ok-put_head-in-Truncate.ensures.ok
    (still_kept c.put_oids.result _ _ _ _ c.in_ok-put_u32-in-Truncate.ensures.ok
    (still_kept c.put_oids.result _ _ _ _ c.in_ok-push-in-Truncate.ensures.items c.put_oids.ensures.err))
