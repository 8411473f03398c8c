use Rattle.std.proofs.Common.{sym, subst}
use Rattle.std.specs.Int.{w64}
use Rattle.std.proofs.lemmas.Int.{to_z-of_z}
use Rattle.pgsub_core.proofs.DescribedChanges.{on_ok}
use Rattle.pgsub_core.specs.Subscriber.SubscriberValue.{seen}
use Rattle.pgsub_core.specs.Subscriber.Confirming.{AreSafeReplies}
use Rattle.pgsub_core.proofs.Confirmed.{status_is_safe}
use Rattle.pgsub_core.proofs.Starting.{status_seen}
use Rattle.pgsub_core.proofs.subscriber.Subscriber.status.Goals as goal

pub returns-clause-appended : goal.returns-clause-appended
returns-clause-appended g c =
    on_ok c.append_status.result _ _ c.append_status.ensures.ok
    (λ is tables. status_seen g.C.ReplicaStore.place c.args.now _ c.args.ask c.self.inside.deframer c.self.inside.closed
    c.self.inside.applier c.append_status.new.self c.args.self.now c.self.view_is (to_z-of_z w64 c.args.now c.ranges.now) is tables)

pub returns-clause-safe : goal.returns-clause-safe
returns-clause-safe g c =
    on_ok c.append_status.result _ _ c.append_status.ensures.ok
    (λ is history tables safe before.
    subst (AreSafeReplies history)
    (sym (status_seen g.C.ReplicaStore.place c.args.now _ c.args.ask c.self.inside.deframer c.self.inside.closed c.self.inside.applier
    c.append_status.new.self c.args.self.now c.self.view_is (to_z-of_z w64 c.args.now c.ranges.now) is tables))
    (status_is_safe history c.args.now c.args.ask (seen g.C.ReplicaStore.place c.args.self.now tables) safe before))
