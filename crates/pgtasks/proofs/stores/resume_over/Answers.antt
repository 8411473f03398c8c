use Rattle.std.proofs.Common.{◌∙◌, ap, sym, subst}
use Rattle.pgsub_core.specs.Subscriber.Crashing.{StandsAsFed}
use Rattle.pgsub_core.specs.Subscriber.Following.{FeedsSessions}
use Rattle.pgsub_core.specs.Subscriber.Subscribed.{bytes_of}
use Rattle.pgsub_cli.specs.DumpText.{resumed_of}
use Rattle.pgsub_cli.specs.Limits.{clock}
use Rattle.pgsub_cli.proofs.Came.{fault_is}
use Rattle.pgsub_cli.proofs.LeftStores.{stands_as}
use Rattle.pgtasks.proofs.stores.resume_over.Goals as goal

pub returns-in-Ok-clause-stands : goal.returns-in-Ok-clause-stands
returns-in-Ok-clause-stands g c honest serves =
    let it = g.C.ReplicaStore in
    let new = c.follow.new.subscriber in
    let fed = FeedsSessions it.holds it.place clock c.args.subscriber.now (bytes_of c.args.sessions.now) in
    subst (λ f. StandsAsFed it.place (λ s. fed s f) new) (fault_is c.follow.result ∙ sym c.err-stopped.ensures.value)
    (stands_as it.place it.serves fed new c.follow.result (c.follow.ensures.still_serves honest serves) c.follow.ensures.fed
    (c.follow.ensures.stopped honest serves))

pub returns-in-Ok-clause-lines : goal.returns-in-Ok-clause-lines
returns-in-Ok-clause-lines g c =
    c.in-Ok.ensures ∙ ap (λ n. resumed_of n c.confirmed.result) c.position.ensures.position
    ∙ ap (resumed_of (g.C.ReplicaStore.place c.follow.new.subscriber.applied.store)) c.confirmed.ensures
