use Rattle.std.proofs.Common.{◌∙◌, sym, subst}
use Rattle.pgsub_cli.specs.StoreAfter.{FeedsIncoming}
use Rattle.pgsub_cli.proofs.Came.{fault_is}
use Rattle.pgsub_cli.proofs.LeftStores.{holds_over, may_be_left, loses_nothing}
use Rattle.pgsub_cli.proofs.storing.feed_over.Goals as goal

pub returns-clause-held : goal.returns-clause-held
returns-clause-held g c serves =
    holds_over g.R.Input.gives g.R.Input.begins g.R.Input.failed g.C.ReplicaStore.holds g.C.ReplicaStore.place c.args.store
    c.into_store.result c.args.limits c.in-Some.version c.in-Some.incoming c.args.input c.in-Some.is c.subscriber_over-subscriber.result
    c.feed_incoming.new.subscriber
    (c.subscriber_over-subscriber.ensures.store, c.subscriber_over-subscriber.ensures.state) c.into_store.ensures
    c.fed_sessions_are_followed.ensures.followed c.err-stopped.result
    (subst (FeedsIncoming g.R.Input.gives g.R.Input.begins g.R.Input.failed g.C.ReplicaStore.holds g.C.ReplicaStore.place c.in-Some.incoming
    c.subscriber_over-subscriber.result c.feed_incoming.new.subscriber)
    (fault_is c.feed_incoming.result ∙ sym c.err-stopped.ensures.value)
    (c.feed_incoming.ensures.fed (subst g.C.ReplicaStore.serves c.into_store.ensures serves)))

pub returns-clause-left : goal.returns-clause-left
returns-clause-left g c honest =
    may_be_left g.R.Input.gives g.R.Input.begins g.R.Input.failed g.C.ReplicaStore.holds g.C.ReplicaStore.place c.args.store
    c.into_store.result c.args.limits c.in-Some.version c.in-Some.incoming c.args.input c.in-Some.is c.subscriber_over-subscriber.result
    c.feed_incoming.new.subscriber
    (c.subscriber_over-subscriber.ensures.store, c.subscriber_over-subscriber.ensures.state) c.into_store.ensures g.C.ReplicaStore.reopens
    g.C.ReplicaStore.serves
    (c.feed_incoming.ensures.left (subst g.C.ReplicaStore.is_honest c.into_store.ensures honest))

pub returns-clause-crash : goal.returns-clause-crash
returns-clause-crash g c honest serves =
    let own = subst g.C.ReplicaStore.is_honest c.into_store.ensures honest in
    let served = subst g.C.ReplicaStore.serves (sym c.subscriber_over-subscriber.ensures.store) serves in
    loses_nothing g.R.Input.gives g.R.Input.begins g.R.Input.failed g.C.ReplicaStore.holds g.C.ReplicaStore.place c.args.store
    c.into_store.result c.args.limits c.in-Some.version c.in-Some.incoming c.args.input c.in-Some.is c.subscriber_over-subscriber.result
    c.feed_incoming.new.subscriber
    (c.subscriber_over-subscriber.ensures.store, c.subscriber_over-subscriber.ensures.state) c.into_store.ensures g.C.ReplicaStore.reopens
    g.C.ReplicaStore.serves (c.feed_incoming.ensures.stands own served) (c.feed_incoming.ensures.crash own served)
