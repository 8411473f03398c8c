use Rattle.std.proofs.Common.{ℕ, ap, ◌∙◌}
use Rattle.pgsub_core.specs.Subscriber.Subscribed.{newly}
use Rattle.pgsub_cli.proofs.storing.subscriber_over.Goals as goal

pub returns-clause-state : goal.returns-clause-state
returns-clause-state g c tables =
    c.new.ensures.state tables
    ∙ ap (λ (n : ℕ). newly tables (g.C.ReplicaStore.place c.args.store) c.args.version c.max_frame.result n) c.new-spools.ensures.limit
    ∙ ap (λ (n : ℕ). newly tables (g.C.ReplicaStore.place c.args.store) c.args.version n c.args.limits.max_buffered)
    c.max_frame.ensures.least
