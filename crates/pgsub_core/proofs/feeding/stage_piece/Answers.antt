use Rattle.std.proofs.Common.{◌≡◌, ◌≢◌, ◌<◌, ◌⊎◌, inl, ℕ, ℤ, List, Ok, Err, take, refl, sym, ap}
use Rattle.std.proofs.Common.{subst, ◌∙◌, arith}
use Rattle.std.specs.Int.{w64}
use Rattle.std.proofs.lemmas.Int.{to_z-of_z}
use Rattle.pgwire.specs.Deframed.{Deframed, IsFed}
use Rattle.pgsub_core.specs.Subscriber.Applied.{Applied}
use Rattle.pgwire.specs.declared.fault.WireFault.{WireFault}
use Rattle.pgwire.specs.declared.fault.WireFault.TheVariants as wire_fault
use Rattle.pgsub_core.specs.declared.fault.Fault.TheVariants as fault
use Rattle.pgsub_core.specs.Calls.Framing.{FeedGoes, FeedStops}
use Rattle.pgsub_core.proofs.DescribedChanges.{on_residual}
use Rattle.pgsub_core.proofs.PayloadStops.{unchanged}
use Rattle.pgsub_core.specs.Calls.Staging.{IsMarked}
use Rattle.pgsub_core.proofs.Marks.{rests_same, rests_then, renewed, of_head, head_held, mark_here}
use Rattle.pgsub_core.proofs.Marks.{marked_frame}
use Rattle.pgsub_core.proofs.LeftPieces.{piece_stands, on_err}
use Rattle.pgsub_core.proofs.FeedStops.{stops_by_bytes, stops_by_frame, start_to, released_to}
use Rattle.pgsub_core.proofs.FeedSteps.{fed_start, fed_one, fed_whole, fed_front, fed_less}
use Rattle.pgsub_core.proofs.FeedSteps.{all_taken, released_waits, rest_of, some_taken, take_whole}
use Rattle.pgsub_core.specs.Machine.Counted.{FeedCounts, FeedCountsFront}
use Rattle.pgsub_core.proofs.CountedPieces.{counted_zero, counted_stops, counted_released}
use Rattle.pgsub_core.proofs.CountedPieces.{counted_start, counted_one, counted_whole}
use Rattle.pgsub_core.proofs.CountedPieces.{counted_front}
use Rattle.pgsub_core.proofs.feeding.stage_piece.Goals as goal

pub loop-applier-init : goal.loop-applier-init
loop-applier-init g c = let it = g.C.ReplicaStore in (
  c.requires.opened,
  some_taken c.args.deframer.now c.feed_frames.new.deframer c.args.piece.now c.in_ok-taken.taken c.requires.waits c.in_ok-taken.ensures.fed,
  fed_start g.C.ReplicaStore.serves g.C.ReplicaStore.stages g.C.ReplicaStore.reach _ c.args.deframer.now c.feed_frames.new.deframer
      c.args.applier.now c.args.piece.now c.in_ok-taken.taken c.requires.waits c.requires.sound c.in_ok-taken.ensures.fed,
  λ serves. serves,
  λ honest. honest,
  λ honest serves. serves,
  rests_same it.holds it.place it.reopens it.serves it.is_honest c.args.applier.now.store c.args.applier.now.store refl,
  renewed it.holds it.place it.reopens it.serves it.is_honest it.stages it.reach _ c.args.applier.now.store c.args.applier.now
      c.args.mark.now.confirmed c.args.mark.now.received c.args.mark.now.replies
      c.renew.new.mark.confirmed c.renew.new.mark.received c.renew.new.mark.replies c.renew.ensures
      (mark_here it.holds it.place it.reopens it.serves it.is_honest it.stages it.reach _ c.args.applier.now.store c.args.applier.now
      c.args.mark.now.confirmed c.args.mark.now.received c.args.mark.now.replies
      c.requires.settled c.requires.held c.requires.marked
      (rests_same it.holds it.place it.reopens it.serves it.is_honest c.args.applier.now.store c.args.applier.now.store refl)
      (λ honest own. own)
      (λ own. piece_stands it.serves it.stages it.reach _ c.args.deframer.now c.args.applier.now c.args.piece.now c.args.deframer.now
      c.args.applier.now 0
      (start_to it.serves it.stages it.reach _ c.args.deframer.now c.args.applier.now c.args.piece.now c.requires.waits c.requires.sound)
      own)),
  counted_start it.serves it.stages it.reach it.stages_tally _ c.args.deframer.now c.feed_frames.new.deframer c.args.applier.now
      c.args.piece.now c.in_ok-taken.taken c.requires.waits c.requires.sound c.in_ok-taken.ensures.fed,
  refl,
)

pub loop-applier-smaller : goal.loop-applier-smaller
loop-applier-smaller g c =
    fed_less c.loop-applier.deframer c.take_whole.new.deframer c.feed_frames-in-loop-applier.new.deframer c.args.piece.now
    c.loop-applier.taken c.in_ok-taken-2.field-0 c.loop-applier.invariant.2.within
    (c.in_ok-take_whole.ensures.released c.if-branch.true)
    (subst (λ (bytes : List ℕ).
    IsFed c.take_whole.new.deframer bytes (Ok c.in_ok-taken-2.field-0) c.feed_frames-in-loop-applier.new.deframer)
    (rest_of c.args.piece.now c.loop-applier.taken) c.in_ok-taken-2.ensures.fed)

pub loop-applier-preserved : goal.loop-applier-preserved
loop-applier-preserved g c = let it = g.C.ReplicaStore in (
  c.in_ok-take_whole.ensures.opened,
  λ some. let before : 0 < c.loop-applier.taken = c.loop-applier.invariant.1 some in omega (arith, before),
  fed_one g.C.ReplicaStore.serves g.C.ReplicaStore.stages g.C.ReplicaStore.reach _ c.args.deframer.now c.loop-applier.deframer
      c.take_whole.new.deframer c.feed_frames-in-loop-applier.new.deframer c.args.applier.now c.loop-applier.applier
      c.take_whole.new.applier
      c.args.piece.now c.loop-applier.taken c.in_ok-taken-2.field-0 c.loop-applier.invariant.2
      (c.in_ok-take_whole.ensures.released c.if-branch.true) c.take_whole.ensures.steps.served
      (λ serves f stands. c.in_ok-take_whole.ensures.goes serves c.if-branch.true f stands)
      (subst (λ (bytes : List ℕ).
      IsFed c.take_whole.new.deframer bytes (Ok c.in_ok-taken-2.field-0) c.feed_frames-in-loop-applier.new.deframer)
      (rest_of c.args.piece.now c.loop-applier.taken) c.in_ok-taken-2.ensures.fed),
  λ serves. c.loop-applier.invariant.3 (c.take_whole.ensures.steps.served serves),
  λ honest. c.loop-applier.invariant.4 (c.take_whole.ensures.steps.honest honest),
  λ honest serves. c.in_ok-take_whole.ensures.steps.serves_on honest
      (c.loop-applier.invariant.5 (c.take_whole.ensures.steps.honest honest) serves),
  rests_then it.holds it.place it.reopens it.serves it.is_honest c.args.applier.now.store c.loop-applier.applier.store
      c.take_whole.new.applier.store c.loop-applier.invariant.6 c.take_whole.ensures.steps.rests
      c.take_whole.ensures.steps.served c.take_whole.ensures.steps.honest,
  renewed it.holds it.place it.reopens it.serves it.is_honest it.stages it.reach _ c.args.applier.now.store c.take_whole.new.applier
      c.loop-applier.mark.confirmed c.loop-applier.mark.received c.loop-applier.mark.replies
      c.renew-in-loop-applier.new.mark.confirmed c.renew-in-loop-applier.new.mark.received c.renew-in-loop-applier.new.mark.replies
      c.renew-in-loop-applier.ensures
      (marked_frame it.holds it.place it.reopens it.serves it.is_honest it.stages it.reach _ c.args.deframer.now c.args.applier.now
      c.args.piece.now c.loop-applier.deframer c.loop-applier.applier c.take_whole.new.applier
      c.loop-applier.taken c.loop-applier.mark.confirmed c.loop-applier.mark.received c.loop-applier.mark.replies c.loop-applier.invariant.7
      c.loop-applier.invariant.2 c.take_whole.ensures.steps.rests c.loop-applier.invariant.6
      c.take_whole.ensures.grows c.take_whole.ensures.settings c.take_whole.ensures.steps.served c.take_whole.ensures.steps.honest
      c.loop-applier.invariant.5
      (λ own further. let released = c.in_ok-take_whole.ensures.released c.if-branch.true in
      (released.frame, released.stood, c.in_ok-take_whole.ensures.goes own c.if-branch.true released.frame released.stood))
      (λ honest own further. c.in_ok-take_whole.ensures.steps.serves_on honest own)),
  counted_one it.serves it.stages it.reach it.stages_tally _ c.args.deframer.now c.loop-applier.deframer c.take_whole.new.deframer
      c.args.applier.now c.loop-applier.applier c.take_whole.new.applier c.args.piece.now c.loop-applier.taken c.loop-applier.invariant.8
      (c.in_ok-take_whole.ensures.released c.if-branch.true) c.take_whole.ensures.steps.served
      (λ own frame stands. c.in_ok-take_whole.ensures.goes own c.if-branch.true frame stands)
      (λ own frame stands. c.in_ok-take_whole.ensures.counts own c.if-branch.true frame stands) c.feed_frames-in-loop-applier.new.deframer
      c.in_ok-taken-2.field-0
      (subst (λ (bytes : List ℕ).
      IsFed c.take_whole.new.deframer bytes (Ok c.in_ok-taken-2.field-0) c.feed_frames-in-loop-applier.new.deframer)
      (rest_of c.args.piece.now c.loop-applier.taken) c.in_ok-taken-2.ensures.fed),
  c.take_whole.ensures.steps.counted ∙ c.loop-applier.invariant.9,
)

pub returns-clause-fed : goal.returns-clause-fed
returns-clause-fed g c serves =
    let holds = g.C.ReplicaStore.stages in
    let place = g.C.ReplicaStore.reach in
    let none = c.in_ok-take_whole.ensures.none c.if-branch.false in
    let to = c.loop-applier.invariant.2 in
    let all = all_taken g.C.ReplicaStore.serves holds place _ c.args.deframer.now c.loop-applier.deframer c.args.applier.now
    c.loop-applier.applier c.args.piece.now c.loop-applier.taken to none.0 in
    subst (λ (p : List ℕ). FeedGoes holds place c.args.now c.args.deframer.now c.args.applier.now p c.take_whole.new.deframer
    c.take_whole.new.applier) (sym (take_whole c.args.piece.now c.loop-applier.taken all))
    (subst (λ (d : Deframed).
    FeedGoes holds place c.args.now c.args.deframer.now c.args.applier.now c.args.piece.now d c.take_whole.new.applier) (sym none.1)
    (subst (λ (a : Applied g.row.C.Denot).
    FeedGoes holds place c.args.now c.args.deframer.now c.args.applier.now c.args.piece.now c.loop-applier.deframer a) (sym none.2)
    (subst (λ (z : ℤ). FeedGoes holds place z c.args.deframer.now c.args.applier.now c.args.piece.now c.loop-applier.deframer
    c.loop-applier.applier) (to_z-of_z w64 c.args.now c.ranges.now)
    (fed_whole g.C.ReplicaStore.serves holds place _ c.args.deframer.now c.loop-applier.deframer c.args.applier.now c.loop-applier.applier
    c.args.piece.now c.loop-applier.taken to none.0
    (subst (λ (a : Applied g.row.C.Denot). g.C.ReplicaStore.serves a.store) none.2 serves)))))

pub returns-then-is_done-clause-fed : goal.returns-then-is_done-clause-fed
returns-then-is_done-clause-fed g c serves =
    let it = g.C.ReplicaStore in
    subst (λ (z : ℤ). FeedGoes it.stages it.reach z c.args.deframer.now c.args.applier.now (take c.loop-applier.taken c.args.piece.now)
    c.take_whole.new.deframer c.take_whole.new.applier) (to_z-of_z w64 c.args.now c.ranges.now)
    (fed_front it.serves it.stages it.reach _ c.args.deframer.now c.loop-applier.deframer c.take_whole.new.deframer c.args.applier.now
    c.loop-applier.applier c.take_whole.new.applier c.args.piece.now c.loop-applier.taken c.loop-applier.invariant.2
    (c.in_ok-take_whole.ensures.released c.if-branch.true) c.take_whole.ensures.steps.served
    (λ own f stands. c.in_ok-take_whole.ensures.goes own c.if-branch.true f stands) serves)

pub returns-then-is_done-clause-waits : goal.returns-then-is_done-clause-waits
returns-then-is_done-clause-waits g c =
    let released = c.in_ok-take_whole.ensures.released c.if-branch.true in (
      released_waits c.loop-applier.deframer c.take_whole.new.deframer released,
      ap (λ (x : Deframed). x.fault) released.released ∙ c.loop-applier.invariant.2.fault,
    )

pub returns-clause-cut : goal.returns-clause-cut
returns-clause-cut g c =
    let to = c.loop-applier.invariant.2 in
    let none = c.in_ok-take_whole.ensures.none c.if-branch.false in
    record {
      within = to.within;
      some = c.loop-applier.invariant.1;
      ends = inl (all_taken g.C.ReplicaStore.serves g.C.ReplicaStore.stages g.C.ReplicaStore.reach _ c.args.deframer.now
          c.loop-applier.deframer c.args.applier.now c.loop-applier.applier c.args.piece.now c.loop-applier.taken to none.0);
    }

pub returns-in_err-taken-clause-refused : goal.returns-in_err-taken-clause-refused
returns-in_err-taken-clause-refused g c serves =
    on_residual c.from_residual.result c.in_err-taken.field-0.0 _ c.from_residual.ensures.1
    (stops_by_bytes g.C.ReplicaStore.serves g.C.ReplicaStore.stages g.C.ReplicaStore.reach c.args.now c.args.deframer.now c.args.applier.now
    c.args.piece.now c.args.deframer.now c.feed_frames.new.deframer c.args.applier.now 0
    (start_to g.C.ReplicaStore.serves g.C.ReplicaStore.stages g.C.ReplicaStore.reach c.args.now c.args.deframer.now c.args.applier.now
    c.args.piece.now c.requires.waits c.requires.sound) serves c.requires.sound c.in_err-taken.field-0.0 c.in_err-taken.ensures.refused)

pub returns-in_err-take_whole-clause-refused : goal.returns-in_err-take_whole-clause-refused
returns-in_err-take_whole-clause-refused g c serves =
    let f = c.in_err-take_whole.field-0.0 in
    let stopped = c.in_err-take_whole.ensures.refused serves in
    on_residual c.from_residual-in_err-take_whole.result f _ c.from_residual-in_err-take_whole.ensures.1
    (subst (λ (z : ℤ). FeedStops g.C.ReplicaStore.stages g.C.ReplicaStore.reach z c.args.deframer.now c.args.applier.now c.args.piece.now
    c.take_whole.new.applier f) (to_z-of_z w64 c.args.now c.ranges.now)
    (stops_by_frame g.C.ReplicaStore.serves g.C.ReplicaStore.stages g.C.ReplicaStore.reach _ c.args.deframer.now c.args.applier.now
    c.args.piece.now c.loop-applier.deframer c.loop-applier.applier c.take_whole.new.applier c.loop-applier.taken
    c.loop-applier.invariant.2
    (c.take_whole.ensures.steps.served serves) f stopped.0 stopped.1 stopped.2))

pub returns-in_err-taken-2-clause-refused : goal.returns-in_err-taken-2-clause-refused
returns-in_err-taken-2-clause-refused g c serves =
    let f = c.in_err-taken-2.field-0.0 in
    let to = c.loop-applier.invariant.2 in
    let released = c.in_ok-take_whole.ensures.released c.if-branch.true in
    let sound = ap (λ (x : Deframed). x.fault) released.released ∙ to.fault in
    let refused = subst (λ (bytes : List ℕ). ((f ≡ fault.Memory) × (c.feed_frames-in-loop-applier.new.deframer ≡ c.take_whole.new.deframer))
    ⊎ ((k : WireFault) × (k ≢ wire_fault.Memory) × (f ≡ fault.Wire k)
    × IsFed c.take_whole.new.deframer bytes (Err k) c.feed_frames-in-loop-applier.new.deframer))
    (rest_of c.args.piece.now c.loop-applier.taken) c.in_err-taken-2.ensures.refused in
    on_residual c.from_residual-in_err-taken-2.result f _ c.from_residual-in_err-taken-2.ensures.1
    (subst (λ (z : ℤ). FeedStops g.C.ReplicaStore.stages g.C.ReplicaStore.reach z c.args.deframer.now c.args.applier.now c.args.piece.now
    c.take_whole.new.applier f) (to_z-of_z w64 c.args.now c.ranges.now)
    (stops_by_bytes g.C.ReplicaStore.serves g.C.ReplicaStore.stages g.C.ReplicaStore.reach _ c.args.deframer.now c.args.applier.now
    c.args.piece.now c.take_whole.new.deframer c.feed_frames-in-loop-applier.new.deframer c.take_whole.new.applier c.loop-applier.taken
    (released_to g.C.ReplicaStore.serves g.C.ReplicaStore.stages g.C.ReplicaStore.reach _ c.args.deframer.now c.args.applier.now
    c.args.piece.now c.loop-applier.deframer c.take_whole.new.deframer c.loop-applier.applier c.take_whole.new.applier
    c.loop-applier.taken to released
    c.take_whole.ensures.steps.served (λ own frame stands. c.in_ok-take_whole.ensures.goes own c.if-branch.true frame stands)) serves
    sound f
    refused))

pub returns-in_err-taken-clause-why : goal.returns-in_err-taken-clause-why
returns-in_err-taken-clause-why g c honest serves =
    let it = g.C.ReplicaStore in
    on_residual c.from_residual.result c.in_err-taken.field-0.0 _ c.from_residual.ensures.1 (
      c.args.applier.now,
      unchanged it.reach c.args.applier.now,
      stops_by_bytes it.serves it.stages it.reach c.args.now c.args.deframer.now c.args.applier.now c.args.piece.now c.args.deframer.now
          c.feed_frames.new.deframer c.args.applier.now 0
          (start_to it.serves it.stages it.reach c.args.now c.args.deframer.now c.args.applier.now c.args.piece.now c.requires.waits
          c.requires.sound) serves c.requires.sound c.in_err-taken.field-0.0 c.in_err-taken.ensures.refused,
      λ none. (c.requires.settled, c.requires.held),
    )

pub returns-in_err-take_whole-clause-why : goal.returns-in_err-take_whole-clause-why
returns-in_err-take_whole-clause-why g c honest serves =
    let it = g.C.ReplicaStore in
    let f = c.in_err-take_whole.field-0.0 in
    let own = c.loop-applier.invariant.5 (c.take_whole.ensures.steps.honest honest) serves in
    let stopped = c.in_err-take_whole.ensures.why honest own in
    on_residual c.from_residual-in_err-take_whole.result f _ c.from_residual-in_err-take_whole.ensures.1 (
      c.loop-applier.applier,
      c.in_err-take_whole.ensures.kept,
      subst (λ (z : ℤ). FeedStops it.stages it.reach z c.args.deframer.now c.args.applier.now c.args.piece.now c.loop-applier.applier f)
          (to_z-of_z w64 c.args.now c.ranges.now)
          (stops_by_frame it.serves it.stages it.reach _ c.args.deframer.now c.args.applier.now c.args.piece.now c.loop-applier.deframer
          c.loop-applier.applier c.loop-applier.applier c.loop-applier.taken c.loop-applier.invariant.2
          own f stopped.0 stopped.1 stopped.2),
      λ none. head_held it.holds it.place it.reopens it.serves it.is_honest it.stages it.reach _ c.args.applier.now.store
          c.loop-applier.applier c.take_whole.new.applier _ _ _ c.loop-applier.invariant.7 c.in_err-take_whole.ensures.kept.position
          c.take_whole.ensures.steps.rests.position none,
    )

pub returns-in_err-taken-2-clause-why : goal.returns-in_err-taken-2-clause-why
returns-in_err-taken-2-clause-why g c honest serves =
    let it = g.C.ReplicaStore in
    let f = c.in_err-taken-2.field-0.0 in
    let to = c.loop-applier.invariant.2 in
    let released = c.in_ok-take_whole.ensures.released c.if-branch.true in
    let sound = ap (λ (x : Deframed). x.fault) released.released ∙ to.fault in
    let refused = subst (λ (bytes : List ℕ). ((f ≡ fault.Memory) × (c.feed_frames-in-loop-applier.new.deframer ≡ c.take_whole.new.deframer))
    ⊎ ((k : WireFault) × (k ≢ wire_fault.Memory) × (f ≡ fault.Wire k)
    × IsFed c.take_whole.new.deframer bytes (Err k) c.feed_frames-in-loop-applier.new.deframer))
    (rest_of c.args.piece.now c.loop-applier.taken) c.in_err-taken-2.ensures.refused in
    on_residual c.from_residual-in_err-taken-2.result f _ c.from_residual-in_err-taken-2.ensures.1 (
      c.take_whole.new.applier,
      unchanged it.reach c.take_whole.new.applier,
      subst (λ (z : ℤ). FeedStops it.stages it.reach z c.args.deframer.now c.args.applier.now c.args.piece.now c.take_whole.new.applier f)
          (to_z-of_z w64 c.args.now c.ranges.now)
          (stops_by_bytes it.serves it.stages it.reach _ c.args.deframer.now c.args.applier.now c.args.piece.now c.take_whole.new.deframer
          c.feed_frames-in-loop-applier.new.deframer c.take_whole.new.applier c.loop-applier.taken
          (released_to it.serves it.stages it.reach _ c.args.deframer.now c.args.applier.now c.args.piece.now c.loop-applier.deframer
          c.take_whole.new.deframer c.loop-applier.applier c.take_whole.new.applier c.loop-applier.taken to released
          c.take_whole.ensures.steps.served (λ own frame stands. c.in_ok-take_whole.ensures.goes own c.if-branch.true frame stands))
          (c.in_ok-take_whole.ensures.steps.serves_on honest
          (c.loop-applier.invariant.5 (c.take_whole.ensures.steps.honest honest) serves)) sound f
          refused),
      λ none. head_held it.holds it.place it.reopens it.serves it.is_honest it.stages it.reach _ c.args.applier.now.store
          c.take_whole.new.applier c.take_whole.new.applier _ _ _
          (renewed it.holds it.place it.reopens it.serves it.is_honest it.stages it.reach _ c.args.applier.now.store
          c.take_whole.new.applier c.loop-applier.mark.confirmed c.loop-applier.mark.received c.loop-applier.mark.replies
          c.renew-in-loop-applier.new.mark.confirmed c.renew-in-loop-applier.new.mark.received c.renew-in-loop-applier.new.mark.replies
          c.renew-in-loop-applier.ensures
          (marked_frame it.holds it.place it.reopens it.serves it.is_honest it.stages it.reach _ c.args.deframer.now c.args.applier.now
          c.args.piece.now c.loop-applier.deframer c.loop-applier.applier c.take_whole.new.applier
          c.loop-applier.taken c.loop-applier.mark.confirmed c.loop-applier.mark.received c.loop-applier.mark.replies
          c.loop-applier.invariant.7 c.loop-applier.invariant.2 c.take_whole.ensures.steps.rests c.loop-applier.invariant.6
          c.take_whole.ensures.grows c.take_whole.ensures.settings c.take_whole.ensures.steps.served c.take_whole.ensures.steps.honest
          c.loop-applier.invariant.5
          (λ own further. let released = c.in_ok-take_whole.ensures.released c.if-branch.true in
          (released.frame, released.stood, c.in_ok-take_whole.ensures.goes own c.if-branch.true released.frame released.stood))
          (λ honest own further. c.in_ok-take_whole.ensures.steps.serves_on honest own))) refl refl none,
    )

pub returns-then-is_done-clause-marked : goal.returns-then-is_done-clause-marked
returns-then-is_done-clause-marked g c =
    let it = g.C.ReplicaStore in
    subst (λ (z : ℤ). IsMarked it.holds it.place it.reopens it.serves it.is_honest it.stages it.reach
    (FeedStops it.stages it.reach z c.args.deframer.now c.args.applier.now c.args.piece.now) c.args.applier.now.store
    c.renew-in-loop-applier.new.mark.confirmed c.renew-in-loop-applier.new.mark.received c.renew-in-loop-applier.new.mark.replies
    c.take_whole.new.applier) (to_z-of_z w64 c.args.now c.ranges.now)
    (of_head it.holds it.place it.reopens it.serves it.is_honest it.stages it.reach _ c.args.applier.now.store c.take_whole.new.applier _ _
    _
    (renewed it.holds it.place it.reopens it.serves it.is_honest it.stages it.reach _ c.args.applier.now.store c.take_whole.new.applier
    c.loop-applier.mark.confirmed c.loop-applier.mark.received c.loop-applier.mark.replies
    c.renew-in-loop-applier.new.mark.confirmed c.renew-in-loop-applier.new.mark.received c.renew-in-loop-applier.new.mark.replies
    c.renew-in-loop-applier.ensures
    (marked_frame it.holds it.place it.reopens it.serves it.is_honest it.stages it.reach _ c.args.deframer.now c.args.applier.now
    c.args.piece.now c.loop-applier.deframer c.loop-applier.applier c.take_whole.new.applier
    c.loop-applier.taken c.loop-applier.mark.confirmed c.loop-applier.mark.received c.loop-applier.mark.replies c.loop-applier.invariant.7
    c.loop-applier.invariant.2 c.take_whole.ensures.steps.rests c.loop-applier.invariant.6
    c.take_whole.ensures.grows c.take_whole.ensures.settings c.take_whole.ensures.steps.served c.take_whole.ensures.steps.honest
    c.loop-applier.invariant.5
    (λ own further. let released = c.in_ok-take_whole.ensures.released c.if-branch.true in
    (released.frame, released.stood, c.in_ok-take_whole.ensures.goes own c.if-branch.true released.frame released.stood))
    (λ honest own further. c.in_ok-take_whole.ensures.steps.serves_on honest own)))
    (rests_then it.holds it.place it.reopens it.serves it.is_honest c.args.applier.now.store c.loop-applier.applier.store
    c.take_whole.new.applier.store c.loop-applier.invariant.6 c.take_whole.ensures.steps.rests
    c.take_whole.ensures.steps.served c.take_whole.ensures.steps.honest)
    (λ honest serves. c.in_ok-take_whole.ensures.steps.serves_on honest
    (c.loop-applier.invariant.5 (c.take_whole.ensures.steps.honest honest) serves))
    (λ own. piece_stands it.serves it.stages it.reach _ c.args.deframer.now c.args.applier.now c.args.piece.now c.take_whole.new.deframer
    c.take_whole.new.applier c.loop-applier.taken
    (released_to it.serves it.stages it.reach _ c.args.deframer.now c.args.applier.now c.args.piece.now c.loop-applier.deframer
    c.take_whole.new.deframer c.loop-applier.applier c.take_whole.new.applier c.loop-applier.taken c.loop-applier.invariant.2
    (c.in_ok-take_whole.ensures.released c.if-branch.true) c.take_whole.ensures.steps.served
    (λ own frame stands. c.in_ok-take_whole.ensures.goes own c.if-branch.true frame stands)) own))

pub returns-in_err-taken-2-clause-marked : goal.returns-in_err-taken-2-clause-marked
returns-in_err-taken-2-clause-marked g c =
    let it = g.C.ReplicaStore in
    subst (λ (z : ℤ). IsMarked it.holds it.place it.reopens it.serves it.is_honest it.stages it.reach
    (FeedStops it.stages it.reach z c.args.deframer.now c.args.applier.now c.args.piece.now) c.args.applier.now.store
    c.renew-in-loop-applier.new.mark.confirmed c.renew-in-loop-applier.new.mark.received c.renew-in-loop-applier.new.mark.replies
    c.take_whole.new.applier) (to_z-of_z w64 c.args.now c.ranges.now)
    (of_head it.holds it.place it.reopens it.serves it.is_honest it.stages it.reach _ c.args.applier.now.store c.take_whole.new.applier _ _
    _
    (renewed it.holds it.place it.reopens it.serves it.is_honest it.stages it.reach _ c.args.applier.now.store c.take_whole.new.applier
    c.loop-applier.mark.confirmed c.loop-applier.mark.received c.loop-applier.mark.replies
    c.renew-in-loop-applier.new.mark.confirmed c.renew-in-loop-applier.new.mark.received c.renew-in-loop-applier.new.mark.replies
    c.renew-in-loop-applier.ensures
    (marked_frame it.holds it.place it.reopens it.serves it.is_honest it.stages it.reach _ c.args.deframer.now c.args.applier.now
    c.args.piece.now c.loop-applier.deframer c.loop-applier.applier c.take_whole.new.applier
    c.loop-applier.taken c.loop-applier.mark.confirmed c.loop-applier.mark.received c.loop-applier.mark.replies c.loop-applier.invariant.7
    c.loop-applier.invariant.2 c.take_whole.ensures.steps.rests c.loop-applier.invariant.6
    c.take_whole.ensures.grows c.take_whole.ensures.settings c.take_whole.ensures.steps.served c.take_whole.ensures.steps.honest
    c.loop-applier.invariant.5
    (λ own further. let released = c.in_ok-take_whole.ensures.released c.if-branch.true in
    (released.frame, released.stood, c.in_ok-take_whole.ensures.goes own c.if-branch.true released.frame released.stood))
    (λ honest own further. c.in_ok-take_whole.ensures.steps.serves_on honest own)))
    (rests_then it.holds it.place it.reopens it.serves it.is_honest c.args.applier.now.store c.loop-applier.applier.store
    c.take_whole.new.applier.store c.loop-applier.invariant.6 c.take_whole.ensures.steps.rests
    c.take_whole.ensures.steps.served c.take_whole.ensures.steps.honest)
    (λ honest serves. c.in_ok-take_whole.ensures.steps.serves_on honest
    (c.loop-applier.invariant.5 (c.take_whole.ensures.steps.honest honest) serves))
    (λ own. piece_stands it.serves it.stages it.reach _ c.args.deframer.now c.args.applier.now c.args.piece.now c.take_whole.new.deframer
    c.take_whole.new.applier c.loop-applier.taken
    (released_to it.serves it.stages it.reach _ c.args.deframer.now c.args.applier.now c.args.piece.now c.loop-applier.deframer
    c.take_whole.new.deframer c.loop-applier.applier c.take_whole.new.applier c.loop-applier.taken c.loop-applier.invariant.2
    (c.in_ok-take_whole.ensures.released c.if-branch.true) c.take_whole.ensures.steps.served
    (λ own frame stands. c.in_ok-take_whole.ensures.goes own c.if-branch.true frame stands)) own))

pub returns-clause-marked : goal.returns-clause-marked
returns-clause-marked g c =
    let it = g.C.ReplicaStore in
    let none = c.in_ok-take_whole.ensures.none c.if-branch.false in
    subst (λ (z : ℤ). IsMarked it.holds it.place it.reopens it.serves it.is_honest it.stages it.reach
    (FeedStops it.stages it.reach z c.args.deframer.now c.args.applier.now c.args.piece.now) c.args.applier.now.store
    c.loop-applier.mark.confirmed c.loop-applier.mark.received c.loop-applier.mark.replies c.take_whole.new.applier)
    (to_z-of_z w64 c.args.now c.ranges.now)
    (marked_frame it.holds it.place it.reopens it.serves it.is_honest it.stages it.reach _ c.args.deframer.now c.args.applier.now
    c.args.piece.now c.loop-applier.deframer c.loop-applier.applier c.take_whole.new.applier
    c.loop-applier.taken c.loop-applier.mark.confirmed c.loop-applier.mark.received c.loop-applier.mark.replies c.loop-applier.invariant.7
    c.loop-applier.invariant.2 c.take_whole.ensures.steps.rests c.loop-applier.invariant.6
    c.take_whole.ensures.grows c.take_whole.ensures.settings c.take_whole.ensures.steps.served c.take_whole.ensures.steps.honest
    c.loop-applier.invariant.5
    (λ own further. let same = ap (λ (a : Applied g.row.C.Denot). it.reach a.store) none.2 in absurd (omega (arith, further, same)))
    (λ honest own further. c.in_ok-take_whole.ensures.steps.serves_on honest own))

pub returns-in_err-take_whole-clause-marked : goal.returns-in_err-take_whole-clause-marked
returns-in_err-take_whole-clause-marked g c =
    let it = g.C.ReplicaStore in
    subst (λ (z : ℤ). IsMarked it.holds it.place it.reopens it.serves it.is_honest it.stages it.reach
    (FeedStops it.stages it.reach z c.args.deframer.now c.args.applier.now c.args.piece.now) c.args.applier.now.store
    c.loop-applier.mark.confirmed c.loop-applier.mark.received c.loop-applier.mark.replies c.take_whole.new.applier)
    (to_z-of_z w64 c.args.now c.ranges.now)
    (marked_frame it.holds it.place it.reopens it.serves it.is_honest it.stages it.reach _ c.args.deframer.now c.args.applier.now
    c.args.piece.now c.loop-applier.deframer c.loop-applier.applier c.take_whole.new.applier
    c.loop-applier.taken c.loop-applier.mark.confirmed c.loop-applier.mark.received c.loop-applier.mark.replies c.loop-applier.invariant.7
    c.loop-applier.invariant.2 c.take_whole.ensures.steps.rests c.loop-applier.invariant.6
    c.take_whole.ensures.grows c.take_whole.ensures.settings c.take_whole.ensures.steps.served c.take_whole.ensures.steps.honest
    c.loop-applier.invariant.5
    (λ own further. let same = c.in_err-take_whole.ensures.kept.position in absurd (omega (arith, further, same)))
    (λ honest own further. let same = c.in_err-take_whole.ensures.kept.position in absurd (omega (arith, further, same))))

pub returns-in_err-taken-clause-marked : goal.returns-in_err-taken-clause-marked
returns-in_err-taken-clause-marked g c =
    let it = g.C.ReplicaStore in
    mark_here it.holds it.place it.reopens it.serves it.is_honest it.stages it.reach _ c.args.applier.now.store c.args.applier.now
    c.args.mark.now.confirmed c.args.mark.now.received c.args.mark.now.replies
    c.requires.settled c.requires.held c.requires.marked
    (rests_same it.holds it.place it.reopens it.serves it.is_honest c.args.applier.now.store c.args.applier.now.store refl)
    (λ honest own. own)
    (λ own. piece_stands it.serves it.stages it.reach c.args.now c.args.deframer.now c.args.applier.now c.args.piece.now c.args.deframer.now
    c.args.applier.now 0
    (start_to it.serves it.stages it.reach c.args.now c.args.deframer.now c.args.applier.now c.args.piece.now c.requires.waits
    c.requires.sound) own)

pub returns-clause-counts : goal.returns-clause-counts
returns-clause-counts g c serves =
    let it = g.C.ReplicaStore in
    let none = c.in_ok-take_whole.ensures.none c.if-branch.false in
    let all = all_taken it.serves it.stages it.reach _ c.args.deframer.now c.loop-applier.deframer c.args.applier.now c.loop-applier.applier
    c.args.piece.now c.loop-applier.taken c.loop-applier.invariant.2 none.0 in
    subst (λ (p : List ℕ). FeedCounts it.stages it.reach it.stages_tally c.args.now c.args.deframer.now c.args.applier.now p
    c.take_whole.new.applier.store) (sym (take_whole c.args.piece.now c.loop-applier.taken all))
    (subst (λ (a : Applied g.row.C.Denot).
    FeedCounts it.stages it.reach it.stages_tally c.args.now c.args.deframer.now c.args.applier.now c.args.piece.now a.store)
    (sym none.2)
    (subst (λ (z : ℤ). FeedCounts it.stages it.reach it.stages_tally z c.args.deframer.now c.args.applier.now c.args.piece.now
    c.loop-applier.applier.store) (to_z-of_z w64 c.args.now c.ranges.now)
    (counted_whole it.serves it.stages it.reach it.stages_tally _ c.args.deframer.now c.loop-applier.deframer c.args.applier.now
    c.loop-applier.applier c.args.piece.now c.loop-applier.taken c.loop-applier.invariant.8 none.0 all
    (subst (λ (a : Applied g.row.C.Denot). it.serves a.store) none.2 serves))))

pub returns-then-is_done-clause-counts : goal.returns-then-is_done-clause-counts
returns-then-is_done-clause-counts g c serves =
    let it = g.C.ReplicaStore in
    subst (λ (z : ℤ). FeedCounts it.stages it.reach it.stages_tally z c.args.deframer.now c.args.applier.now
    (take c.loop-applier.taken c.args.piece.now) c.take_whole.new.applier.store) (to_z-of_z w64 c.args.now c.ranges.now)
    (counted_front it.serves it.stages it.reach it.stages_tally _ c.args.deframer.now c.loop-applier.deframer c.take_whole.new.deframer
    c.args.applier.now c.loop-applier.applier c.take_whole.new.applier c.args.piece.now c.loop-applier.taken c.loop-applier.invariant.8
    c.loop-applier.invariant.2.within (c.in_ok-take_whole.ensures.released c.if-branch.true) c.take_whole.ensures.steps.served
    (λ own frame stands. c.in_ok-take_whole.ensures.goes own c.if-branch.true frame stands)
    (λ own frame stands. c.in_ok-take_whole.ensures.counts own c.if-branch.true frame stands) serves)

pub returns-clause-tally : goal.returns-clause-tally
returns-clause-tally g c = c.take_whole.ensures.steps.counted ∙ c.loop-applier.invariant.9

pub returns-then-is_done-clause-tally : goal.returns-then-is_done-clause-tally
returns-then-is_done-clause-tally g c = c.take_whole.ensures.steps.counted ∙ c.loop-applier.invariant.9

pub returns-in_err-take_whole-clause-tally : goal.returns-in_err-take_whole-clause-tally
returns-in_err-take_whole-clause-tally g c = c.take_whole.ensures.steps.counted ∙ c.loop-applier.invariant.9

pub returns-in_err-taken-2-clause-tally : goal.returns-in_err-taken-2-clause-tally
returns-in_err-taken-2-clause-tally g c = c.take_whole.ensures.steps.counted ∙ c.loop-applier.invariant.9

pub returns-in_err-taken-clause-counts_refused : goal.returns-in_err-taken-clause-counts_refused
returns-in_err-taken-clause-counts_refused g c serves =
    let it = g.C.ReplicaStore in
    on_err c.from_residual.result _
    (counted_stops it.serves it.stages it.reach it.stages_tally c.args.now c.args.deframer.now c.args.deframer.now c.args.applier.now
    c.args.applier.now c.args.applier.now.store c.args.piece.now 0
    (counted_zero it.serves it.stages it.reach it.stages_tally c.args.now c.args.deframer.now c.args.applier.now c.args.piece.now
    c.requires.waits c.requires.sound) serves refl refl)

pub returns-in_err-take_whole-clause-counts_refused : goal.returns-in_err-take_whole-clause-counts_refused
returns-in_err-take_whole-clause-counts_refused g c serves =
    let it = g.C.ReplicaStore in
    on_err c.from_residual-in_err-take_whole.result _
    (subst (λ (z : ℤ). FeedCountsFront it.stages it.reach it.stages_tally z c.args.deframer.now c.args.applier.now c.args.piece.now
    c.take_whole.new.applier.store) (to_z-of_z w64 c.args.now c.ranges.now)
    (counted_stops it.serves it.stages it.reach it.stages_tally _ c.args.deframer.now c.loop-applier.deframer c.args.applier.now
    c.loop-applier.applier c.take_whole.new.applier.store c.args.piece.now c.loop-applier.taken c.loop-applier.invariant.8
    (c.take_whole.ensures.steps.served serves) c.in_err-take_whole.ensures.kept.position c.in_err-take_whole.ensures.steps.uncounted))

pub returns-in_err-taken-2-clause-counts_refused : goal.returns-in_err-taken-2-clause-counts_refused
returns-in_err-taken-2-clause-counts_refused g c serves =
    let it = g.C.ReplicaStore in
    on_err c.from_residual-in_err-taken-2.result _
    (subst (λ (z : ℤ). FeedCountsFront it.stages it.reach it.stages_tally z c.args.deframer.now c.args.applier.now c.args.piece.now
    c.take_whole.new.applier.store) (to_z-of_z w64 c.args.now c.ranges.now)
    (counted_stops it.serves it.stages it.reach it.stages_tally _ c.args.deframer.now c.take_whole.new.deframer c.args.applier.now
    c.take_whole.new.applier c.take_whole.new.applier.store c.args.piece.now c.loop-applier.taken
    (counted_released it.serves it.stages it.reach it.stages_tally _ c.args.deframer.now c.loop-applier.deframer c.take_whole.new.deframer
    c.args.applier.now c.loop-applier.applier c.take_whole.new.applier c.args.piece.now c.loop-applier.taken c.loop-applier.invariant.8
    (c.in_ok-take_whole.ensures.released c.if-branch.true) c.take_whole.ensures.steps.served
    (λ own frame stands. c.in_ok-take_whole.ensures.goes own c.if-branch.true frame stands)
    (λ own frame stands. c.in_ok-take_whole.ensures.counts own c.if-branch.true frame stands)) serves refl refl))
