use Rattle.std.proofs.Common.{◌≡◌, inr, ℤ, Bool, Ok, Err, refl, ap, subst, ◌∙◌}
use Rattle.std.specs.Int.{w64}
use Rattle.std.proofs.lemmas.Int.{to_z-of_z}
use Rattle.pgwire.specs.declared.message.ServerMsg.{ServerMsg}
use Rattle.pgwire.specs.Borrowed.{message_value}
use Rattle.pglogical.specs.Reading.{message_at}
use Rattle.pglogical.specs.Borrowed.{message_value as logical_value}
use Rattle.pgorder.specs.States.{is_in_block}
use Rattle.pgsub_core.specs.Server.Stream.{Keepalive}
use Rattle.pgsub_core.specs.Machine.Faults.{fault_of_decode}
use Rattle.pgsub_core.specs.Machine.Taking.{take}
use Rattle.pgsub_core.specs.Subscriber.Applied.{Applied, Goes}
use Rattle.pgsub_core.proofs.DescribedChanges.{on_ok, on_told, if_err, if_err_kept}
use Rattle.pgsub_core.proofs.Counts.{counts_body, counts_data, counts_keepalive}
use Rattle.pgsub_core.proofs.PayloadSteps.{data_goes, keepalive_goes, message_spells}
use Rattle.pgsub_core.proofs.PayloadStops.{unchanged, body_stops, refused_body, data_stops}
use Rattle.pgsub_core.proofs.PayloadStops.{keepalive_stops, payload_stops}
use Rattle.pgsub_core.proofs.applier.Applier.take_payload.Goals as goal

pub take_message-requires-clause-spellable : goal.take_message-requires-clause-spellable
take_message-requires-clause-spellable g c =
    message_spells (logical_value c.in_ok-logical-in-Data.logical) c.in_ok-logical-in-Data.ensures.found.wire

pub returns-in_ok-logical-in-Data-clause-takes : goal.returns-in_ok-logical-in-Data-clause-takes
returns-in_ok-logical-in-Data-clause-takes g c serves =
    let here = c.in_block.ensures ∙ ap (λ (x : Applied g.row.C.Denot). is_in_block x.order.context) c.self.view_is in
    let m = logical_value c.in_ok-logical-in-Data.logical in
    let read = subst (λ (b : Bool). message_at b c.in-Data.body.now ≡ Ok m) here c.in_ok-logical-in-Data.ensures.exact in
    on_ok c.take_message.result _ _ (c.take_message.ensures.takes serves) (λ takes.
    data_goes g.C.ReplicaStore.stages g.C.ReplicaStore.reach c.args.now c.args.payload.now c.in-Data.start c.in-Data.end c.in-Data.clock
    c.in-Data.body.now c.args.self.now c.take_message.new.self
    (c.in-Ok.ensures.gives ∙ ap (λ (m : ServerMsg). Ok (message_value m)) c.in-Data.is) m read
    (takes c.args.now c.in-Data.clock))

pub returns-in-Keepalive-clause-takes : goal.returns-in-Keepalive-clause-takes
returns-in-Keepalive-clause-takes g c serves = on_ok c.take_keepalive.result _ _ c.take_keepalive.ensures.takes (λ takes.
    keepalive_goes g.C.ReplicaStore.stages g.C.ReplicaStore.reach c.args.now c.args.payload.now c.in-Keepalive.end c.in-Keepalive.clock
    c.in-Keepalive.reply c.args.self.now c.take_keepalive.new.self
    (c.in-Ok.ensures.gives ∙ ap (λ (m : ServerMsg). Ok (message_value m)) c.in-Keepalive.is)
    (subst (λ (z : ℤ). Goes g.C.ReplicaStore.stages g.C.ReplicaStore.reach
    (λ s. take z s (Keepalive c.in-Keepalive.end c.in-Keepalive.clock c.in-Keepalive.reply)) c.args.self.now c.take_keepalive.new.self)
    (to_z-of_z w64 c.args.now c.ranges.now)
    (takes c.in-Keepalive.clock)))

pub returns-in_ok-logical-in-Data-clause-refused : goal.returns-in_ok-logical-in-Data-clause-refused
returns-in_ok-logical-in-Data-clause-refused g c serves =
    let here = c.in_block.ensures ∙ ap (λ (x : Applied g.row.C.Denot). is_in_block x.order.context) c.self.view_is in
    let m = logical_value c.in_ok-logical-in-Data.logical in
    let read = subst (λ (b : Bool). message_at b c.in-Data.body.now ≡ Ok m) here c.in_ok-logical-in-Data.ensures.exact in
    if_err c.take_message.result _ _ (c.take_message.ensures.refused serves) (λ f stops.
    data_stops g.C.ReplicaStore.stages g.C.ReplicaStore.reach c.args.now c.args.payload.now c.args.self.now c.take_message.new.self
    c.in-Data.clock c.in-Data.start c.in-Data.end c.in-Data.body.now
    (c.in-Ok.ensures.gives ∙ ap (λ (m : ServerMsg). Ok (message_value m)) c.in-Data.is) f
    (body_stops g.C.ReplicaStore.stages g.C.ReplicaStore.reach c.args.now c.in-Data.clock c.in-Data.start c.in-Data.end c.in-Data.body.now
    c.args.self.now c.take_message.new.self m f read (stops c.args.now c.in-Data.clock)))

pub returns-in_err-logical-in-Data-clause-refused : goal.returns-in_err-logical-in-Data-clause-refused
returns-in_err-logical-in-Data-clause-refused g c serves =
    let here = c.in_block.ensures ∙ ap (λ (x : Applied g.row.C.Denot). is_in_block x.order.context) c.self.view_is in
    let k = c.in_err-logical-in-Data.field-0.0 in
    on_told c.from_residual.result (fault_of_decode k) _ _ c.from_residual.ensures.1
    (data_stops g.C.ReplicaStore.stages g.C.ReplicaStore.reach c.args.now c.args.payload.now c.args.self.now c.args.self.now
    c.in-Data.clock c.in-Data.start c.in-Data.end c.in-Data.body.now
    (c.in-Ok.ensures.gives ∙ ap (λ (m : ServerMsg). Ok (message_value m)) c.in-Data.is) (fault_of_decode k)
    (refused_body g.C.ReplicaStore.stages g.C.ReplicaStore.reach c.args.now c.in-Data.clock c.in-Data.start c.in-Data.end c.in-Data.body.now
    c.args.self.now c.args.self.now k (fault_of_decode k) refl
    (inr (subst (λ (b : Bool). message_at b c.in-Data.body.now ≡ Err k) here c.in_err-logical-in-Data.ensures.exact))))

pub returns-in-Keepalive-clause-refused : goal.returns-in-Keepalive-clause-refused
returns-in-Keepalive-clause-refused g c serves =
    if_err_kept c.take_keepalive.result _ _ _ c.take_keepalive.ensures.memory c.take_keepalive.ensures.kept (λ f is kept.
    keepalive_stops g.C.ReplicaStore.stages g.C.ReplicaStore.reach c.args.now c.args.payload.now c.args.self.now c.take_keepalive.new.self f
    is kept c.take_keepalive.ensures.store)

pub returns-in-Err-clause-refused : goal.returns-in-Err-clause-refused
returns-in-Err-clause-refused g c serves =
    payload_stops g.C.ReplicaStore.stages g.C.ReplicaStore.reach c.args.now c.args.payload.now c.args.self.now c.args.self.now
    c.in-Err.fault c.in-Err.ensures.first c.in-Err.ensures.gives

pub returns-in_ok-logical-in-Data-clause-why : goal.returns-in_ok-logical-in-Data-clause-why
returns-in_ok-logical-in-Data-clause-why g c honest serves =
    let here = c.in_block.ensures ∙ ap (λ (x : Applied g.row.C.Denot). is_in_block x.order.context) c.self.view_is in
    let m = logical_value c.in_ok-logical-in-Data.logical in
    let read = subst (λ (b : Bool). message_at b c.in-Data.body.now ≡ Ok m) here c.in_ok-logical-in-Data.ensures.exact in
    if_err c.take_message.result _ _ (c.take_message.ensures.why honest serves) (λ f stops.
    data_stops g.C.ReplicaStore.stages g.C.ReplicaStore.reach c.args.now c.args.payload.now c.args.self.now c.args.self.now
    c.in-Data.clock c.in-Data.start c.in-Data.end c.in-Data.body.now
    (c.in-Ok.ensures.gives ∙ ap (λ (m : ServerMsg). Ok (message_value m)) c.in-Data.is) f
    (body_stops g.C.ReplicaStore.stages g.C.ReplicaStore.reach c.args.now c.in-Data.clock c.in-Data.start c.in-Data.end c.in-Data.body.now
    c.args.self.now c.args.self.now m f read (stops c.args.now c.in-Data.clock)))

pub returns-in_err-logical-in-Data-clause-why : goal.returns-in_err-logical-in-Data-clause-why
returns-in_err-logical-in-Data-clause-why g c honest serves =
    let here = c.in_block.ensures ∙ ap (λ (x : Applied g.row.C.Denot). is_in_block x.order.context) c.self.view_is in
    let k = c.in_err-logical-in-Data.field-0.0 in
    on_told c.from_residual.result (fault_of_decode k) _ _ c.from_residual.ensures.1
    (data_stops g.C.ReplicaStore.stages g.C.ReplicaStore.reach c.args.now c.args.payload.now c.args.self.now c.args.self.now
    c.in-Data.clock c.in-Data.start c.in-Data.end c.in-Data.body.now
    (c.in-Ok.ensures.gives ∙ ap (λ (m : ServerMsg). Ok (message_value m)) c.in-Data.is) (fault_of_decode k)
    (refused_body g.C.ReplicaStore.stages g.C.ReplicaStore.reach c.args.now c.in-Data.clock c.in-Data.start c.in-Data.end c.in-Data.body.now
    c.args.self.now c.args.self.now k (fault_of_decode k) refl
    (inr (subst (λ (b : Bool). message_at b c.in-Data.body.now ≡ Err k) here c.in_err-logical-in-Data.ensures.exact))))

pub returns-in-Keepalive-clause-why : goal.returns-in-Keepalive-clause-why
returns-in-Keepalive-clause-why g c honest serves =
    if_err_kept c.take_keepalive.result _ _ _ c.take_keepalive.ensures.memory c.take_keepalive.ensures.kept (λ f is kept.
    keepalive_stops g.C.ReplicaStore.stages g.C.ReplicaStore.reach c.args.now c.args.payload.now c.args.self.now c.args.self.now f is
    (unchanged g.C.ReplicaStore.reach c.args.self.now) refl)

pub returns-in-Err-clause-why : goal.returns-in-Err-clause-why
returns-in-Err-clause-why g c honest serves =
    payload_stops g.C.ReplicaStore.stages g.C.ReplicaStore.reach c.args.now c.args.payload.now c.args.self.now c.args.self.now
    c.in-Err.fault c.in-Err.ensures.first c.in-Err.ensures.gives

pub returns-in_ok-logical-in-Data-clause-counts : goal.returns-in_ok-logical-in-Data-clause-counts
returns-in_ok-logical-in-Data-clause-counts g c serves =
    let here = c.in_block.ensures ∙ ap (λ (x : Applied g.row.C.Denot). is_in_block x.order.context) c.self.view_is in
    let m = logical_value c.in_ok-logical-in-Data.logical in
    let read = subst (λ (b : Bool). message_at b c.in-Data.body.now ≡ Ok m) here c.in_ok-logical-in-Data.ensures.exact in
    on_ok c.take_message.result _ _ (c.take_message.ensures.counts serves) (λ counts.
    counts_data g.C.ReplicaStore.stages g.C.ReplicaStore.reach g.C.ReplicaStore.stages_tally c.args.payload.now c.in-Data.start
    c.in-Data.end c.in-Data.clock c.in-Data.body.now c.args.self.now c.take_message.new.self
    (c.in-Ok.ensures.gives ∙ ap (λ (m : ServerMsg). Ok (message_value m)) c.in-Data.is)
    (counts_body g.C.ReplicaStore.stages g.C.ReplicaStore.reach g.C.ReplicaStore.stages_tally m c.in-Data.body.now c.args.self.now
    c.take_message.new.self read counts))

pub returns-in-Keepalive-clause-counts : goal.returns-in-Keepalive-clause-counts
returns-in-Keepalive-clause-counts g c serves = on_ok c.take_keepalive.result _ _ c.take_keepalive.ensures.takes (λ takes.
    counts_keepalive g.C.ReplicaStore.stages g.C.ReplicaStore.reach g.C.ReplicaStore.stages_tally c.args.payload.now c.in-Keepalive.end
    c.in-Keepalive.clock c.in-Keepalive.reply c.args.self.now c.take_keepalive.new.self
    (c.in-Ok.ensures.gives ∙ ap (λ (m : ServerMsg). Ok (message_value m)) c.in-Keepalive.is) c.take_keepalive.ensures.store)
