use Rattle.std.proofs.Common.{sym, subst}
use Rattle.std.specs.FinMap as map
use Rattle.pgsub_core.specs.Subscriber.Subscribed.{bytes_of}
use Rattle.pgsub_core.specs.Subscriber.SubscriberValue.{seen}
use Rattle.pgtasks.proofs.ComparedSides.{ends_as_new, is_new}
use Rattle.pgtasks.proofs.comparing.BesideJob.run.Goals as goal

pub returns : goal.returns
returns g c honest empty honest' tables h =
    let it = g.C.ReplicaStore in
    let job = c.args.self in
    let right = c.subscriber_over-right in
    ends_as_new job.sides.version (seen g.D.ReplicaStore.place job.left tables) (seen it.place right.result map.empty)
    (bytes_of job.sides.left.now) (bytes_of job.sides.right.now) c.compare_subscribers.result
    (is_new job.sides.version (seen it.place right.result map.empty) (it.place c.args.store) (right.ensures.state map.empty) empty.position)
    (c.compare_subscribers.ensures.ends honest' honest tables h map.empty
    (subst (λ s. it.holds s map.empty) (sym right.ensures.store) empty.held))
