use Rattle.std.proofs.Common.{rules, ap, to_z, of_z}
use Rattle.std.specs.Int.{w64}
use Rattle.std.proofs.lemmas.Int.{to_z-of_z}
use Rattle.pgsub_core.specs.Subscriber.SubscriberValue.{SubscriberValue}
use Rattle.pgfollow.proofs.Telling.{on_ok_as, by_result, keeps_confirmed, announced_replies}
use Rattle.pgfollow.proofs.Telling.{announced_state}
use Rattle.pgfollow.proofs.live.announce.Goals as goal

pub returns-clause-confirmed : goal.returns-clause-confirmed
returns-clause-confirmed g c =
    by_result c.status.result _ _ _ c.status.ensures.appended c.status.ensures.unchanged
    (keeps_confirmed g.C.ReplicaStore.place c.args.subscriber.now c.status.new.self (to_z w64 (of_z w64 c.args.now)))
    (λ same. ap (λ (s : SubscriberValue g.row.C.Denot). s.applied.confirmed) same)

pub returns-clause-replies : goal.returns-clause-replies
returns-clause-replies g c =
    on_ok_as c.status.result _ _ c.status.ensures.appended
    (announced_replies g.C.ReplicaStore.place c.args.subscriber.now c.status.new.self (to_z w64 (of_z w64 c.args.now)) c.args.now
    c.args.told (to_z-of_z w64 c.args.now c.ranges.now) (search rules))

pub returns-clause-state : goal.returns-clause-state
returns-clause-state g c =
    on_ok_as c.status.result _ _ c.status.ensures.appended
    (announced_state g.C.ReplicaStore.place c.args.subscriber.now c.status.new.self (to_z w64 (of_z w64 c.args.now)))
