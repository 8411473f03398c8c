use Rattle.std.proofs.Common.{ℕ, ap, ◌∙◌}
use Rattle.pgsub_core.specs.Subscriber.Subscribed.{newly}
use Rattle.pgembed.proofs.subscribing.subscriber_over.Goals as goal

pub returns-clause-state : goal.returns-clause-state
returns-clause-state g c tables =
    c.new.ensures.state tables
    ∙ ap (λ (n : ℕ). newly tables (g.C.ReplicaStore.place c.args.store) c.args.version 16777216 n) c.new-spools.ensures.limit
