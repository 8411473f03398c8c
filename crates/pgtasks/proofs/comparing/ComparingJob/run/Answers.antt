use Rattle.std.proofs.Common.{sym, subst}
use Rattle.std.specs.FinMap as map
use Rattle.pgsub_core.specs.Subscriber.Subscribed.{bytes_of}
use Rattle.pgsub_core.specs.Subscriber.SubscriberValue.{seen}
use Rattle.pgsub_cli.specs.Followed.{new_subscriber}
use Rattle.pgsub_cli.specs.Limits.{default_limits}
use Rattle.pgsub_cli.proofs.Came.{if_ok}
use Rattle.pgtasks.proofs.ComparedSides.{ends_as_made, ends_of_new, is_new}
use Rattle.pgtasks.proofs.comparing.ComparingJob.run.Goals as goal

pub returns : goal.returns
returns g c honest empty =
    let it = g.C.ReplicaStore in
    let job = c.args.self in
    let left = c.subscriber_over-left in
    let made = c.in_new_store in
    let new = new_subscriber default_limits job.version in
    ends_as_made job.version new new (bytes_of job.left.now) (bytes_of job.right.now) made.result c.ended.result c.ended.ensures.compared
    c.ended.ensures.unmade
    (if_ok made.result _ _ made.ensures.ends (λ answered said.
    ends_of_new job.version (seen it.place left.result map.empty) (bytes_of job.left.now) (bytes_of job.right.now) answered
    (is_new job.version (seen it.place left.result map.empty) (it.place c.args.store) (left.ensures.state map.empty) empty.position)
    (said honest map.empty (subst (λ s. it.holds s map.empty) (sym left.ensures.store) empty.held))))
    made.ensures.fault
