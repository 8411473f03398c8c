use Rattle.std.proofs.Common.{◌≡◌, max, refl, sym, ap, subst, ◌∙◌}
use Rattle.pglogical.specs.Borrowed.{message_value}
use Rattle.pgsub_core.specs.Server.Stream.{Data}
use Rattle.pgsub_core.specs.Subscriber.Applied.{Applied, Stops}
use Rattle.pgsub_core.specs.Machine.Counted.{message_counted}
use Rattle.pgsub_core.specs.Machine.Faults.{fault_of_order}
use Rattle.pgsub_core.specs.Machine.Opened.{AreOpened}
use Rattle.pgsub_core.specs.Machine.Taking.{take}
use Rattle.pgsub_core.proofs.Opening.{event_opens}
use Rattle.pgsub_core.proofs.DescribedChanges.{on_residual, on_told}
use Rattle.pgsub_core.proofs.Counts.{counts_message}
use Rattle.pgsub_core.proofs.Hearing.{goes_heard, stops_heard, counts_heard}
use Rattle.pgsub_core.proofs.MessageSteps.{order_refuses, event_takes, message_stops}
use Rattle.pgsub_core.proofs.PayloadStops.{unchanged, stops_here}
use Rattle.pgsub_core.proofs.applier.Applier.take_message.Goals as goal

pub returns-in_err-event-clause-refused : goal.returns-in_err-event-clause-refused
returns-in_err-event-clause-refused g c serves =
    let holds = g.C.ReplicaStore.stages in
    let place = g.C.ReplicaStore.reach in
    let m = message_value c.args.message.now in
    let k = c.in_err-event.field-0.0 in
    on_told c.from_residual.result (fault_of_order k) _ _ c.from_residual.ensures.1
    (λ now clock.
    stops_heard holds place c.args.self.now c.hear.new.self c.hear.ensures.beside c.hear.ensures.hears.staged
    c.hear.ensures.hears.reach_is now (Data c.args.start c.args.end clock m) _ (fault_of_order k)
    (order_refuses holds place m c.args.start c.args.end _
    c.hear.new.self c.self.view_is c.step.new.self.state c.step.new.self.version c.step.ensures.version
    k (fault_of_order k) refl c.in_err-event.ensures.fault now clock))

pub returns-in_err-take_event-clause-refused : goal.returns-in_err-take_event-clause-refused
returns-in_err-take_event-clause-refused g c serves =
    let holds = g.C.ReplicaStore.stages in
    let place = g.C.ReplicaStore.reach in
    let m = message_value c.args.message.now in
    let f = c.in_err-take_event.field-0.0 in
    let stops = c.in_err-take_event.ensures.refused serves in
    let taken = c.in_ok-event.ensures.taken in
    on_residual c.from_residual-in_err-take_event.result f _ c.from_residual-in_err-take_event.ensures.1 (λ now clock.
    stops_heard holds place c.args.self.now c.hear.new.self c.hear.ensures.beside c.hear.ensures.hears.staged
    c.hear.ensures.hears.reach_is now (Data c.args.start c.args.end clock m) c.take_event.new.self f
    (subst (λ (a : Applied g.row.C.Denot). Stops holds place now (Data c.args.start c.args.end clock m) a c.take_event.new.self f)
    c.self.view_is
    (message_stops holds place m c.args.start c.args.end _ c.step.new.self.state c.in_ok-event.event
    c.step.new.self.version taken c.take_event.new.self f stops c.in_err-take_event.ensures.kept c.step.ensures.version now clock)))

pub returns-in_err-event-clause-why : goal.returns-in_err-event-clause-why
returns-in_err-event-clause-why g c honest serves =
    let holds = g.C.ReplicaStore.stages in
    let place = g.C.ReplicaStore.reach in
    let m = message_value c.args.message.now in
    let k = c.in_err-event.field-0.0 in
    on_told c.from_residual.result (fault_of_order k) _ _ c.from_residual.ensures.1
    (λ now clock.
    stops_here holds place now (Data c.args.start c.args.end clock m) c.args.self.now _ _
    (stops_heard holds place c.args.self.now c.hear.new.self c.hear.ensures.beside c.hear.ensures.hears.staged
    c.hear.ensures.hears.reach_is now (Data c.args.start c.args.end clock m) _ (fault_of_order k)
    (order_refuses holds place m c.args.start c.args.end _
    c.hear.new.self c.self.view_is c.step.new.self.state c.step.new.self.version c.step.ensures.version
    k (fault_of_order k) refl c.in_err-event.ensures.fault now clock)))

pub returns-in_err-take_event-clause-why : goal.returns-in_err-take_event-clause-why
returns-in_err-take_event-clause-why g c honest serves =
    let holds = g.C.ReplicaStore.stages in
    let place = g.C.ReplicaStore.reach in
    let m = message_value c.args.message.now in
    let f = c.in_err-take_event.field-0.0 in
    let stops = c.in_err-take_event.ensures.why honest
    (subst (λ (a : Applied g.row.C.Denot). g.C.ReplicaStore.serves a.store) (sym c.self.view_is)
    (c.hear.ensures.hears.serves_on serves)) in
    let taken = c.in_ok-event.ensures.taken in
    on_residual c.from_residual-in_err-take_event.result f _ c.from_residual-in_err-take_event.ensures.1 (λ now clock.
    stops_here holds place now (Data c.args.start c.args.end clock m) c.args.self.now _ f
    (stops_heard holds place c.args.self.now c.hear.new.self c.hear.ensures.beside c.hear.ensures.hears.staged
    c.hear.ensures.hears.reach_is now (Data c.args.start c.args.end clock m) _ f
    (subst (λ (a : Applied g.row.C.Denot). Stops holds place now (Data c.args.start c.args.end clock m) a a f) c.self.view_is
    (stops_here holds place now (Data c.args.start c.args.end clock m) _ _ f
    (message_stops holds place m c.args.start c.args.end _ c.step.new.self.state c.in_ok-event.event
    c.step.new.self.version taken _ f stops (unchanged place _) c.step.ensures.version now clock)))))

pub returns-clause-takes : goal.returns-clause-takes
returns-clause-takes g c serves now clock =
    let holds = g.C.ReplicaStore.stages in
    let place = g.C.ReplicaStore.reach in
    let m = message_value c.args.message.now in
    let own = c.self-2.view_is in
    let taken = c.in_ok-event.ensures.taken in
    let goes = c.in_ok-take_event.ensures.goes (subst (λ (a : Applied g.row.C.Denot). g.C.ReplicaStore.serves a.store) own serves) in
    let raised : c.later-self-inside.result ≡ max c.self-2.inside.confirmed (max c.self-2.inside.received (max c.args.start c.args.end)) =
    c.later-self-inside.ensures
    ∙ ap (max c.self-2.inside.confirmed) (c.later-2.ensures ∙ ap (max c.self-2.inside.received) c.later.ensures) in
    goes_heard holds place c.args.self.now c.hear.new.self c.hear.ensures.beside c.hear.ensures.hears.staged
    c.hear.ensures.hears.reach_is (λ s. take now s (Data c.args.start c.args.end clock m)) _
    (event_takes holds place m c.args.start c.args.end _ c.hear.new.self
    c.self.view_is c.step.new.self.state c.step.new.self.version c.step.ensures.version
    c.in_ok-event.event taken _ c.take_event.new.self own goes c.in_ok-take_event.ensures.room c.take_event.ensures.beside
    c.later-self-inside.result raised now clock)

pub returns-clause-opened : goal.returns-clause-opened
returns-clause-opened g c =
    let own = c.self-2.view_is in
    let taken = c.in_ok-event.ensures.taken in
    let beside = c.take_event.ensures.beside in
    let held_now = ap (λ (a : Applied g.row.C.Denot). a.held) own in
    let order_now : c.self-2.inside.order.state ≡ c.step.new.self.state = ap (λ (a : Applied g.row.C.Denot). a.order) own ∙ beside.order in
    let was : AreOpened c.self.inside.order.state (g.P.Spools.held c.self.inside.spools) =
    subst (λ (a : Applied g.row.C.Denot). AreOpened a.order a.held) (sym (c.self.view_is ∙ c.hear.ensures.beside)) c.requires.opened in
    let opened = event_opens c.self.inside.order.version c.self.inside.order.state c.step.new.self.state (message_value c.args.message.now)
    c.in_ok-event.event (g.P.Spools.held c.self.inside.spools) was taken c.take_event.new.self.held c.in_ok-take_event.ensures.opened in
    rw (order_now, held_now) opened

pub returns-clause-counts : goal.returns-clause-counts
returns-clause-counts g c serves =
    let own = c.self-2.view_is in
    let it = g.C.ReplicaStore in
    let m = message_value c.args.message.now in
    counts_heard it.stages it.reach c.args.self.now c.hear.new.self c.hear.ensures.beside c.hear.ensures.hears.staged
    c.hear.ensures.hears.reach_is it.stages_tally (λ s. message_counted s m) (record c.hear.new.self { store = c.self-2.inside.store })
    c.hear.ensures.hears.stages_tally_is
    (counts_message it.stages it.reach it.stages_tally m _ c.hear.new.self c.self.view_is
    c.step.new.self.state c.step.new.self.version c.in_ok-event.event c.in_ok-event.ensures.taken _ c.take_event.new.self own
    (c.in_ok-take_event.ensures.counts (subst (λ (a : Applied g.row.C.Denot). it.serves a.store) own serves)) c.later-self-inside.result)
