use Rattle.std.proofs.Common.{◌≡◌, inl, inr, true, not, ◌||◌, ◌&&◌, [], refl, sym, ap, subst, ◌∙◌}
use Rattle.std.specs.Prelude.{◌==◌}
use Rattle.std.specs.FinMap as map
use Rattle.pglogical.specs.Borrowed.{message_value}
use Rattle.pgspool.specs.Labels.{HeldMap, cut, items_of, held_of}
use Rattle.pgorder.specs.declared.Event.{Event}
use Rattle.pgsub_core.specs.Server.Stream.{kind}
use Rattle.pgsub_core.specs.Subscriber.Applied.{Applied}
use Rattle.pgsub_core.specs.Machine.Opened.{Fits, under_way_behind}
use Rattle.pgsub_core.specs.Calls.Events.{event_end}
use Rattle.pgsub_core.specs.Machine.Counted.{CountsCommit}
use Rattle.pgsub_core.proofs.Opening.{key_inserted, key_removed}
use Rattle.pgsub_core.proofs.DescribedChanges.{on_ok, on_residual}
use Rattle.pgsub_core.proofs.EventSteps.{goes_by, goes_committed, stops_committed}
use Rattle.pgsub_core.proofs.EventSteps.{stops_uncommitted, pushed_keys, cut_when_open}
use Rattle.pgsub_core.proofs.applier.Applier.take_event.Goals as goal

pub returns-in-Ignore-clause-goes : goal.returns-in-Ignore-clause-goes
returns-in-Ignore-clause-goes g c serves tables h = elim c.in-Ignore.is [
  | inl is ↦ (tables, h, rw is refl)
  | inr (inl is) ↦ (tables, h, rw is.1 refl)
  | inr (inr is) ↦ (tables, h, rw is refl)
]

pub returns-in-Hold-clause-goes : goal.returns-in-Hold-clause-goes
returns-in-Hold-clause-goes g c serves = on_ok c.hold.result _ _ c.hold.ensures.ok (λ ok.
    goes_by g.C.ReplicaStore.stages g.C.ReplicaStore.reach (message_value c.args.message.now) c.args.event _ c.args.self.now c.self.view_is
    _ _ ok (λ tables. rw c.in-Hold.is refl))

pub returns-in-Hold-clause-opened : goal.returns-in-Hold-clause-opened
returns-in-Hold-clause-opened g c = on_ok c.hold.result _ _ c.hold.ensures.ok (λ ok x.
    let held = g.P.Spools.held c.self.inside.spools in
    let same : held ≡ c.args.self.now.held = ap (λ (a : Applied g.row.C.Denot). a.held) c.self.view_is in
    let fits : map.contains_key c.args.self.now.held c.in-Hold.top ≡ true =
    subst (Fits c.args.self.now.held) c.in-Hold.is c.requires.fits in
    ap (λ (y : HeldMap). map.contains_key y x) ok
    ∙ pushed_keys held c.in-Hold.top c.in-Hold.label (kind (message_value c.args.message.now))
    (ap (λ (y : HeldMap). map.contains_key y c.in-Hold.top) same ∙ fits) x
    ∙ ap (λ (y : HeldMap). (c.in-Hold.top == x) || map.contains_key y x) same
    ∙ ap (λ (e : Event). under_way_behind e (map.contains_key c.args.self.now.held) x) (sym c.in-Hold.is))

pub returns-in-Cut-clause-goes : goal.returns-in-Cut-clause-goes
returns-in-Cut-clause-goes g c serves = on_ok c.cut.result _ _ c.cut.ensures.ok (λ ok.
    let held = g.P.Spools.held c.self.inside.spools in
    let same : held ≡ c.args.self.now.held = ap (λ (a : Applied g.row.C.Denot). a.held) c.self.view_is in
    let fits : map.contains_key c.args.self.now.held c.in-Cut.xid ≡ true = subst (Fits c.args.self.now.held) c.in-Cut.is c.requires.fits in
    let cutted = map.insert held c.in-Cut.xid (cut c.in-Cut.label (held_of held c.in-Cut.xid)) in
    goes_by g.C.ReplicaStore.stages g.C.ReplicaStore.reach (message_value c.args.message.now) c.args.event _ c.args.self.now c.self.view_is
    _ cutted
    (ok ∙ cut_when_open held (map.contains_key held c.in-Cut.xid) cutted
    (ap (λ (y : HeldMap). map.contains_key y c.in-Cut.xid) same ∙ fits)) (λ tables. rw c.in-Cut.is refl))

pub returns-in-Cut-clause-opened : goal.returns-in-Cut-clause-opened
returns-in-Cut-clause-opened g c = on_ok c.cut.result _ _ c.cut.ensures.ok (λ ok x.
    let held = g.P.Spools.held c.self.inside.spools in
    let same : held ≡ c.args.self.now.held = ap (λ (a : Applied g.row.C.Denot). a.held) c.self.view_is in
    let fits : map.contains_key c.args.self.now.held c.in-Cut.xid ≡ true = subst (Fits c.args.self.now.held) c.in-Cut.is c.requires.fits in
    let cutted = map.insert held c.in-Cut.xid (cut c.in-Cut.label (held_of held c.in-Cut.xid)) in
    ap (λ (y : HeldMap). map.contains_key y x)
    (ok ∙ cut_when_open held (map.contains_key held c.in-Cut.xid) cutted
    (ap (λ (y : HeldMap). map.contains_key y c.in-Cut.xid) same ∙ fits))
    ∙ key_inserted held c.in-Cut.xid (cut c.in-Cut.label (held_of held c.in-Cut.xid)) x
    ∙ ap (λ (y : HeldMap). (c.in-Cut.xid == x) || map.contains_key y x) same
    ∙ ap (λ (e : Event). under_way_behind e (map.contains_key c.args.self.now.held) x) (sym c.in-Cut.is))

pub returns-in-Drop-clause-goes : goal.returns-in-Drop-clause-goes
returns-in-Drop-clause-goes g c serves =
    goes_by g.C.ReplicaStore.stages g.C.ReplicaStore.reach (message_value c.args.message.now) c.args.event _ c.args.self.now c.self.view_is
    _ _ c.drop_xid.ensures.held (λ tables. rw c.in-Drop.is refl)

pub returns-in-Drop-clause-opened : goal.returns-in-Drop-clause-opened
returns-in-Drop-clause-opened g c x =
    let held = g.P.Spools.held c.self.inside.spools in
    let same : held ≡ c.args.self.now.held = ap (λ (a : Applied g.row.C.Denot). a.held) c.self.view_is in
    ap (λ (y : HeldMap). map.contains_key y x) c.drop_xid.ensures.held
    ∙ key_removed held c.in-Drop.xid x
    ∙ ap (λ (y : HeldMap). not (c.in-Drop.xid == x) && map.contains_key y x) same
    ∙ ap (λ (e : Event). under_way_behind e (map.contains_key c.args.self.now.held) x) (sym c.in-Drop.is)

pub returns-in_ok-confirmed-in-CommitPair-clause-goes : goal.returns-in_ok-confirmed-in-CommitPair-clause-goes
returns-in_ok-confirmed-in-CommitPair-clause-goes g c serves =
    let held = c.drop_xid-in-CommitPair.ensures.held ∙ ap (λ (h : HeldMap). map.remove h c.in-CommitPair.xid) c.stage_commit.ensures.held in
    let taken = c.in_ok-confirmed-in-CommitPair.ensures.taken serves in
    elim c.in-CommitPair.is [
      | inl is ↦ goes_committed g.C.ReplicaStore.stages g.C.ReplicaStore.reach (message_value c.args.message.now) c.args.event
          _ c.args.self.now c.self.view_is c.in-CommitPair.end c.in-CommitPair.xid (λ st. rw is.1 refl) _ _ _ _ held taken
      | inr is ↦ goes_committed g.C.ReplicaStore.stages g.C.ReplicaStore.reach (message_value c.args.message.now) c.args.event
          _ c.args.self.now c.self.view_is c.in-CommitPair.end c.in-CommitPair.xid (λ st. rw is.1 refl) _ _ _ _ held taken
    ]

pub returns-in_ok-confirmed-in-CommitPair-clause-opened : goal.returns-in_ok-confirmed-in-CommitPair-clause-opened
returns-in_ok-confirmed-in-CommitPair-clause-opened g c x =
    let held = g.P.Spools.held c.self.inside.spools in
    let same : held ≡ c.args.self.now.held = ap (λ (a : Applied g.row.C.Denot). a.held) c.self.view_is in
    let removed = c.drop_xid-in-CommitPair.ensures.held
    ∙ ap (λ (h : HeldMap). map.remove h c.in-CommitPair.xid) (c.stage_commit.ensures.held ∙ same) in
    ap (λ (y : HeldMap). map.contains_key y x) removed ∙ key_removed c.args.self.now.held c.in-CommitPair.xid x
    ∙ elim c.in-CommitPair.is [
      | inl is ↦ ap (λ (e : Event). under_way_behind e (map.contains_key c.args.self.now.held) x) (sym is.1)
      | inr is ↦ ap (λ (e : Event). under_way_behind e (map.contains_key c.args.self.now.held) x) (sym is.1)
    ]

pub returns-in_err-confirmed-in-CommitPair-clause-refused : goal.returns-in_err-confirmed-in-CommitPair-clause-refused
returns-in_err-confirmed-in-CommitPair-clause-refused g c serves =
    let f = c.in_err-confirmed-in-CommitPair.field-0.0 in
    let refuses = c.in_err-confirmed-in-CommitPair.ensures.refused serves in
    on_residual c.from_residual.result f _ c.from_residual.ensures.1 (elim c.in-CommitPair.is [
      | inl is ↦ stops_committed g.C.ReplicaStore.stages g.C.ReplicaStore.reach (message_value c.args.message.now) c.args.event
          _ c.args.self.now c.self.view_is c.in-CommitPair.end c.in-CommitPair.xid (λ st. rw is.1 refl) (ap event_end is.1) _ f refuses
      | inr is ↦ stops_committed g.C.ReplicaStore.stages g.C.ReplicaStore.reach (message_value c.args.message.now) c.args.event
          _ c.args.self.now c.self.view_is c.in-CommitPair.end c.in-CommitPair.xid (λ st. rw is.1 refl) (ap event_end is.1) _ f refuses
    ])

pub returns-in_err-confirmed-in-CommitPair-clause-why : goal.returns-in_err-confirmed-in-CommitPair-clause-why
returns-in_err-confirmed-in-CommitPair-clause-why g c honest serves =
    let f = c.in_err-confirmed-in-CommitPair.field-0.0 in
    let serving = subst (λ (a : Applied g.row.C.Denot). g.C.ReplicaStore.serves a.store) (sym c.self.view_is) serves in
    let refuses = c.in_err-confirmed-in-CommitPair.ensures.why honest serving in
    on_residual c.from_residual.result f _ c.from_residual.ensures.1 (elim c.in-CommitPair.is [
      | inl is ↦ stops_uncommitted g.C.ReplicaStore.stages g.C.ReplicaStore.reach (message_value c.args.message.now) c.args.event
          _ c.args.self.now c.self.view_is c.in-CommitPair.end c.in-CommitPair.xid (λ st. rw is.1 refl) (ap event_end is.1) f refuses
      | inr is ↦ stops_uncommitted g.C.ReplicaStore.stages g.C.ReplicaStore.reach (message_value c.args.message.now) c.args.event
          _ c.args.self.now c.self.view_is c.in-CommitPair.end c.in-CommitPair.xid (λ st. rw is.1 refl) (ap event_end is.1) f refuses
    ])

pub returns-in-Begin-clause-goes : goal.returns-in-Begin-clause-goes
returns-in-Begin-clause-goes g c serves = on_ok c.open.result _ _ c.open.ensures.ok (λ ok. elim c.in-Begin.is [
  | inl is ↦ goes_by g.C.ReplicaStore.stages g.C.ReplicaStore.reach (message_value c.args.message.now) c.args.event _ c.args.self.now
      c.self.view_is _ _ ok (λ tables. rw is refl)
  | inr is ↦ goes_by g.C.ReplicaStore.stages g.C.ReplicaStore.reach (message_value c.args.message.now) c.args.event _ c.args.self.now
      c.self.view_is _ _ ok (λ tables. rw is refl)
])

pub returns-in-Begin-clause-opened : goal.returns-in-Begin-clause-opened
returns-in-Begin-clause-opened g c = on_ok c.open.result _ _ c.open.ensures.ok (λ ok x.
    let held = g.P.Spools.held c.self.inside.spools in
    let same : held ≡ c.args.self.now.held = ap (λ (a : Applied g.row.C.Denot). a.held) c.self.view_is in
    ap (λ (y : HeldMap). map.contains_key y x) ok ∙ key_inserted held c.in-Begin.xid [] x
    ∙ ap (λ (y : HeldMap). (c.in-Begin.xid == x) || map.contains_key y x) same ∙ elim c.in-Begin.is [
      | inl is ↦ ap (λ (e : Event). under_way_behind e (map.contains_key c.args.self.now.held) x) (sym is)
      | inr is ↦ ap (λ (e : Event). under_way_behind e (map.contains_key c.args.self.now.held) x) (sym is)
    ])

pub returns-in-Ignore-clause-counts : goal.returns-in-Ignore-clause-counts
returns-in-Ignore-clause-counts g c serves tables h = elim c.in-Ignore.is [
  | inl is ↦ rw is refl
  | inr (inl is) ↦ rw is.1 refl
  | inr (inr is) ↦ rw is refl
]

pub returns-in-Hold-clause-counts : goal.returns-in-Hold-clause-counts
returns-in-Hold-clause-counts g c serves =
    on_ok c.hold.result _ _ c.hold.ensures.ok
    (λ ok tables h. rw c.in-Hold.is (ap (λ (a : Applied g.row.C.Denot). g.C.ReplicaStore.stages_tally a.store) c.self.view_is))

pub returns-in-Cut-clause-counts : goal.returns-in-Cut-clause-counts
returns-in-Cut-clause-counts g c serves =
    on_ok c.cut.result _ _ c.cut.ensures.ok
    (λ ok tables h. rw c.in-Cut.is (ap (λ (a : Applied g.row.C.Denot). g.C.ReplicaStore.stages_tally a.store) c.self.view_is))

pub returns-in-Drop-clause-counts : goal.returns-in-Drop-clause-counts
returns-in-Drop-clause-counts g c serves tables h =
    rw c.in-Drop.is (ap (λ (a : Applied g.row.C.Denot). g.C.ReplicaStore.stages_tally a.store) c.self.view_is)

pub returns-in_ok-confirmed-in-CommitPair-clause-counts : goal.returns-in_ok-confirmed-in-CommitPair-clause-counts
returns-in_ok-confirmed-in-CommitPair-clause-counts g c serves tables h =
    let it = g.C.ReplicaStore in
    let counts = subst (λ (a : Applied g.row.C.Denot).
    CountsCommit it.stages it.reach it.stages_tally c.in-CommitPair.end c.about_of-about.result
    (items_of (held_of a.held c.in-CommitPair.xid)) a.store a.confirmed a.relations c.stage_commit.new.store) c.self.view_is
    (c.in_ok-confirmed-in-CommitPair.ensures.counts serves) in
    elim c.in-CommitPair.is [
      | inl is ↦ rw (is.1, sym c.about_of-about.ensures) (counts tables h)
      | inr is ↦ rw (is.1, sym c.about_of-about.ensures) (counts tables h)
    ]

pub returns-in-Begin-clause-counts : goal.returns-in-Begin-clause-counts
returns-in-Begin-clause-counts g c serves = on_ok c.open.result _ _ c.open.ensures.ok (λ ok tables h. elim c.in-Begin.is [
  | inl is ↦ rw is (ap (λ (a : Applied g.row.C.Denot). g.C.ReplicaStore.stages_tally a.store) c.self.view_is)
  | inr is ↦ rw is (ap (λ (a : Applied g.row.C.Denot). g.C.ReplicaStore.stages_tally a.store) c.self.view_is)
])
