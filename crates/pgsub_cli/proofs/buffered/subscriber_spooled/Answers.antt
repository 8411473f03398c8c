use Rattle.std.proofs.Common.{ℕ, ap, ◌∙◌}
use Rattle.pgspooled.specs.Live.{most_live}
use Rattle.pgsub_core.specs.Subscriber.Subscribed.{newly}
use Rattle.pgsub_cli.proofs.buffered.subscriber_spooled.Goals as goal

pub returns-clause-state : goal.returns-clause-state
returns-clause-state g c tables =
    let place = g.C.ReplicaStore.place in
    c.new.ensures.state tables
    ∙ ap (λ s. newly tables (place s) c.args.version c.max_frame.result (most_live c.in_file-spools.result)) c.new-store.ensures.store
    ∙ ap (λ (n : ℕ). newly tables (place c.args.store) c.args.version c.max_frame.result n) c.in_file-spools.ensures.limit
    ∙ ap (λ (n : ℕ). newly tables (place c.args.store) c.args.version n c.args.limits.max_buffered)
    c.max_frame.ensures.least
