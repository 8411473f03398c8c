use Rattle.std.proofs.Common.{◌∙◌, Bool, ap, sym}
use Rattle.pgsub_core.specs.Subscriber.SubscriberValue.{seen}
use Rattle.pgfollow.specs.Live.{settled}
use Rattle.pgfollow.proofs.live.tell.Goals as goal

pub returns-then-ends-clause-state : goal.returns-then-ends-clause-state
returns-then-ends-clause-state g c tables =
    c.disconnect.ensures.state tables
    ∙ ap (λ (b : Bool). settled b (seen g.C.ReplicaStore.place c.args.subscriber.now tables)) (sym c.if-ends.true)

pub returns-else-ends-clause-state : goal.returns-else-ends-clause-state
returns-else-ends-clause-state g c tables =
    c.clear_replies.ensures.state tables
    ∙ ap (λ (b : Bool). settled b (seen g.C.ReplicaStore.place c.args.subscriber.now tables)) (sym c.if-ends.false)
