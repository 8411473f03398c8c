use Rattle.std.proofs.Common.{◌∙◌, ap, to_z, of_z}
use Rattle.std.specs.Int.{w64}
use Rattle.std.specs.FinMap as map
use Rattle.pgsub_core.specs.Subscriber.Subscribed.{Subscribed}
use Rattle.pgsub_core.specs.Subscriber.SubscriberValue.{SubscriberValue}
use Rattle.pgfollow.specs.Live.{StopsGreeting}
use Rattle.pgfollow.proofs.Telling.{on_ok_as, on_ok_both, by_result, if_unwritten, is_greeted}
use Rattle.pgfollow.proofs.Telling.{stops_greeting, keeps_confirmed}
use Rattle.pgfollow.proofs.live.greet.Goals as goal

pub returns-in-Ok-clause-greeted : goal.returns-in-Ok-clause-greeted
returns-in-Ok-clause-greeted g c =
    let it = g.C.ReplicaStore in
    on_ok_both c.tell.result _ _ _ c.tell.ensures.written c.tell.ensures.state (λ written state.
    is_greeted it.place (to_z w64 (of_z w64 c.args.now)) c.args.subscriber.now c.disconnect.new.self c.status.new.self
    c.disconnect.ensures.state c.in-Ok.ensures.appended c.tell.new.subscriber state _ _
    c.status.ensures.store c.disconnect.ensures.store c.tell.ensures.store written.1)

pub returns-in-Ok-clause-stopped : goal.returns-in-Ok-clause-stopped
returns-in-Ok-clause-stopped g c =
    let it = g.C.ReplicaStore in
    if_unwritten c.tell.result _ _ _
    (StopsGreeting it.place (g.W.Write.contents c.args.link.now.writer) (g.W.Write.contents c.tell.new.link.writer)
    c.args.subscriber.now)
    c.tell.ensures.unwritten c.tell.ensures.part c.tell.ensures.unchanged (λ part same.
    stops_greeting it.place (to_z w64 (of_z w64 c.args.now)) c.args.subscriber.now c.disconnect.new.self c.status.new.self
    c.disconnect.ensures.state c.in-Ok.ensures.appended _ _ part.0 c.disconnect.ensures.store part.1 part.2)

pub returns-in-Ok-clause-confirmed : goal.returns-in-Ok-clause-confirmed
returns-in-Ok-clause-confirmed g c =
    by_result c.tell.result _ _ _ c.tell.ensures.state c.tell.ensures.unchanged
    (λ state. ap (λ (x : Subscribed). x.confirmed) (state map.empty))
    (λ same. ap (λ (s : SubscriberValue g.row.C.Denot). s.applied.confirmed) same)
    ∙ keeps_confirmed g.C.ReplicaStore.place c.disconnect.new.self c.status.new.self (to_z w64 (of_z w64 c.args.now))
    c.in-Ok.ensures.appended
    ∙ ap (λ (x : Subscribed). x.confirmed) (c.disconnect.ensures.state map.empty)

pub returns-in-Err-clause-confirmed : goal.returns-in-Err-clause-confirmed
returns-in-Err-clause-confirmed g c =
    ap (λ (s : SubscriberValue g.row.C.Denot). s.applied.confirmed) c.in-Err.ensures.unchanged
    ∙ ap (λ (x : Subscribed). x.confirmed) (c.disconnect.ensures.state map.empty)

pub returns-in-Ok-clause-unclosed : goal.returns-in-Ok-clause-unclosed
returns-in-Ok-clause-unclosed g c =
    on_ok_as c.tell.result _ _ c.tell.ensures.state (λ state.
    ap (λ (x : Subscribed). x.closed) (state map.empty) ∙ ap (λ (x : Subscribed). x.closed) (c.in-Ok.ensures.appended map.empty)
    ∙ ap (λ (x : Subscribed). x.closed) (c.disconnect.ensures.state map.empty))
