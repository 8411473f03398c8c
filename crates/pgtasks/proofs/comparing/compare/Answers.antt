use Rattle.pgsub_core.specs.Subscriber.Subscribed.{bytes_of}
use Rattle.pgsub_cli.specs.Followed.{new_subscriber}
use Rattle.pgsub_cli.specs.Limits.{default_limits}
use Rattle.pgtasks.proofs.ComparedSides.{compared_as, uncompared, ends_as_made}
use Rattle.pgtasks.proofs.comparing.compare.Goals as goal

pub returns-clause-compared : goal.returns-clause-compared
returns-clause-compared c =
    let new = new_subscriber default_limits c.args.version in
    compared_as c.args.version c.args.left.now c.args.right.now c.ended.result
    (ends_as_made c.args.version new new (bytes_of c.args.left.now) (bytes_of c.args.right.now) c.in_new_store.result c.ended.result
    c.ended.ensures.compared c.ended.ensures.unmade c.in_new_store.ensures.ends c.in_new_store.ensures.fault)

pub returns-clause-stopped : goal.returns-clause-stopped
returns-clause-stopped c =
    let new = new_subscriber default_limits c.args.version in
    uncompared c.args.version c.args.left.now c.args.right.now c.ended.result
    (ends_as_made c.args.version new new (bytes_of c.args.left.now) (bytes_of c.args.right.now) c.in_new_store.result c.ended.result
    c.ended.ensures.compared c.ended.ensures.unmade c.in_new_store.ensures.ends c.in_new_store.ensures.fault)
