use Rattle.std.proofs.Common.{inl, inr, ℤ, to_z, of_z, OnOk, OnErr, take, sym, subst, ◌∙◌}
use Rattle.std.specs.Prelude.{IfOk, IfErr}
use Rattle.std.specs.Int.{w64}
use Rattle.std.proofs.lemmas.Int.{to_z-of_z}
use Rattle.pgapply.specs.Taken as held
use Rattle.pgsub_core.specs.declared.fault.Fault.TheVariants as fault
use Rattle.pgsub_core.specs.Subscriber.Applied.{Applied}
use Rattle.pgsub_core.specs.Calls.Framing.{FeedGoes, FeedStops}
use Rattle.pgsub_core.specs.Subscriber.Crashing.{LeavesOldOr, Over, StandsAs}
use Rattle.pgsub_core.specs.Calls.Staging.{IsMarked, StandsStaged}
use Rattle.pgsub_core.proofs.DescribedChanges.{if_err, on_residual}
use Rattle.pgsub_core.proofs.PayloadStops.{unchanged}
use Rattle.pgsub_core.proofs.LeftPieces.{on_err, on_err_as}
use Rattle.pgsub_core.specs.Machine.Counted.{FeedCounts, FeedCountsFront}
use Rattle.pgsub_core.proofs.Marks.{settled_counts, settled_front, all_settled, none_settled}
use Rattle.pgsub_core.proofs.Marks.{none_stands, leaves_none, leaves_all, over_all, settled_goes}
use Rattle.pgsub_core.proofs.Marks.{any_stops, behind_all, some_or_none, of_feeding, if_ok_as}
use Rattle.pgsub_core.proofs.Marks.{if_ok_under, on_ok_here, settled_stands}
use Rattle.pgsub_core.proofs.CountedPieces.{counted_zero, counted_stops}
use Rattle.pgsub_core.proofs.feeding.take_piece.Goals as goal

pub returns-clause-refused : goal.returns-clause-refused
returns-clause-refused g c serves =
    let it = g.C.ReplicaStore in
    let z = to_z w64 (of_z w64 c.args.now) in
    let u = c.unstage.new.self in
    let a = c.stage_piece-taken.new.applier in
    let b = c.settle.new.self in
    subst (λ (y : ℤ). IfErr c.stage_piece-taken.result
    (FeedStops it.holds it.place y c.args.deframer.now c.args.applier.now c.args.piece.now c.settle.new.self))
    (to_z-of_z w64 c.args.now c.ranges.now) (
    if_err c.stage_piece-taken.result _ _ (c.stage_piece-taken.ensures.refused (c.settle.ensures.served serves)) (λ f stops.
    all_settled it.holds it.place it.reopens it.serves it.is_honest it.stages it.reach z c.args.deframer.now c.args.applier.now u.store
    c.unstage.ensures.staged c.unstage.ensures.reach c.args.piece.now a b f
    (subst (λ (x : Applied g.row.C.Denot). FeedStops it.stages it.reach z c.args.deframer.now x c.args.piece.now a f)
    c.unstage.ensures.beside stops) c.in_ok-settle.ensures.beside c.in_ok-settle.ensures.end
    (c.in_ok-settle.ensures.settled serves)))

pub returns-in_err-settle-clause-refused : goal.returns-in_err-settle-clause-refused
returns-in_err-settle-clause-refused g c serves =
    let it = g.C.ReplicaStore in
    let z = to_z w64 (of_z w64 c.args.now) in
    let u = c.unstage.new.self in
    let a = c.stage_piece-taken.new.applier in
    let b = c.settle.new.self in
    let f = c.in_err-settle.field-0.0 in
    let m = subst (λ (x : Applied g.row.C.Denot).
    IsMarked it.holds it.place it.reopens it.serves it.is_honest it.stages it.reach
    (FeedStops it.stages it.reach z c.args.deframer.now x c.args.piece.now) u.store
    c.stage_piece-taken.new.mark.confirmed c.stage_piece-taken.new.mark.received c.stage_piece-taken.new.mark.replies a)
    c.unstage.ensures.beside c.stage_piece-taken.ensures.marked in
    subst (λ (y : ℤ). IfErr c.from_residual.result
    (FeedStops it.holds it.place y c.args.deframer.now c.args.applier.now c.args.piece.now c.settle.new.self))
    (to_z-of_z w64 c.args.now c.ranges.now) (
    on_residual c.from_residual.result f _ c.from_residual.ensures.1
    (none_settled it.holds it.place it.reopens it.serves it.is_honest it.stages it.reach z c.args.deframer.now c.args.applier.now u.store
    c.unstage.ensures.staged c.unstage.ensures.reach c.args.piece.now a b
    c.stage_piece-taken.new.mark.confirmed c.stage_piece-taken.new.mark.received c.stage_piece-taken.new.mark.replies m f
    c.in_err-settle.ensures.fault (c.settle.ensures.served serves) c.in_err-settle.ensures.some c.in_err-settle.ensures.back
    c.in_err-settle.ensures.position (c.in_err-settle.ensures.unchanged serves)))

pub returns-clause-fed : goal.returns-clause-fed
returns-clause-fed g c serves =
    let it = g.C.ReplicaStore in
    let z = to_z w64 (of_z w64 c.args.now) in
    let u = c.unstage.new.self in
    let a = c.stage_piece-taken.new.applier in
    let b = c.settle.new.self in
    let d = c.stage_piece-taken.new.deframer in
    subst (λ (y : ℤ). IfOk c.stage_piece-taken.result
    (λ n. FeedGoes it.holds it.place y c.args.deframer.now c.args.applier.now (take n c.args.piece.now) c.stage_piece-taken.new.deframer
    c.settle.new.self)) (to_z-of_z w64 c.args.now c.ranges.now) (
    if_ok_as c.stage_piece-taken.result _ _ (c.stage_piece-taken.ensures.fed (c.settle.ensures.served serves)) (λ n goes.
    settled_goes it.holds it.place it.stages it.reach z c.args.deframer.now c.args.applier.now u.store c.unstage.ensures.staged
    c.unstage.ensures.reach (take n c.args.piece.now) d a b c.in_ok-settle.ensures.beside
    (subst (λ (x : Applied g.row.C.Denot). FeedGoes it.stages it.reach z c.args.deframer.now x (take n c.args.piece.now) d a)
    c.unstage.ensures.beside goes) c.in_ok-settle.ensures.end (c.in_ok-settle.ensures.settled serves)))

pub returns-in_err-settle-clause-own : goal.returns-in_err-settle-clause-own
returns-in_err-settle-clause-own g c =
    on_residual c.from_residual.result c.in_err-settle.field-0.0 _ c.from_residual.ensures.1
    (of_feeding g.P.Spools.may_fail c.in_err-settle.field-0.0 c.in_err-settle.ensures.fault)

pub returns-in_err-settle-clause-why : goal.returns-in_err-settle-clause-why
returns-in_err-settle-clause-why g c honest serves =
    let it = g.C.ReplicaStore in
    let z = to_z w64 (of_z w64 c.args.now) in
    let u = c.unstage.new.self in
    let a = c.stage_piece-taken.new.applier in
    let b = c.settle.new.self in
    let m = subst (λ (x : Applied g.row.C.Denot).
    IsMarked it.holds it.place it.reopens it.serves it.is_honest it.stages it.reach
    (FeedStops it.stages it.reach z c.args.deframer.now x c.args.piece.now) u.store
    c.stage_piece-taken.new.mark.confirmed c.stage_piece-taken.new.mark.received c.stage_piece-taken.new.mark.replies a)
    c.unstage.ensures.beside c.stage_piece-taken.ensures.marked in
    let f = c.in_err-settle.field-0.0 in
    subst (λ (y : ℤ). IfErr c.from_residual.result
    (λ f. StandsAs it.place (λ x. FeedStops it.holds it.place y c.args.deframer.now c.args.applier.now c.args.piece.now x f)
    c.settle.new.self)) (to_z-of_z w64 c.args.now c.ranges.now) (
    on_residual c.from_residual.result f _ c.from_residual.ensures.1
    (none_stands it.holds it.place it.reopens it.serves it.is_honest it.stages it.reach z c.args.deframer.now c.args.applier.now u.store
    c.unstage.ensures.staged c.unstage.ensures.reach c.args.piece.now a b
    c.stage_piece-taken.new.mark.confirmed c.stage_piece-taken.new.mark.received c.stage_piece-taken.new.mark.replies m f
    c.in_err-settle.ensures.fault (c.settle.ensures.honest honest) (c.unstage.ensures.serves serves) c.in_err-settle.ensures.some
    c.in_err-settle.ensures.back
    c.in_err-settle.ensures.position))

pub returns-clause-why : goal.returns-clause-why
returns-clause-why g c honest serves =
    let it = g.C.ReplicaStore in
    let z = to_z w64 (of_z w64 c.args.now) in
    let u = c.unstage.new.self in
    let a = c.stage_piece-taken.new.applier in
    let b = c.settle.new.self in
    subst (λ (y : ℤ). IfErr c.stage_piece-taken.result
    (λ f. StandsAs it.place (λ x. FeedStops it.holds it.place y c.args.deframer.now c.args.applier.now c.args.piece.now x f)
    c.settle.new.self)) (to_z-of_z w64 c.args.now c.ranges.now) (
    elim (some_or_none (it.place a.store) (it.reach a.store) c.settle.ensures.order) [
      | inl less ↦
          let own = c.in_ok-settle.ensures.open honest less in
          if_err c.stage_piece-taken.result _ _ (c.stage_piece-taken.ensures.refused (c.settle.ensures.served own)) (λ f stops. (
            b,
            unchanged it.place b,
            all_settled it.holds it.place it.reopens it.serves it.is_honest it.stages it.reach z c.args.deframer.now c.args.applier.now
                u.store c.unstage.ensures.staged c.unstage.ensures.reach c.args.piece.now a b f
                (subst (λ (x : Applied g.row.C.Denot). FeedStops it.stages it.reach z c.args.deframer.now x c.args.piece.now a f)
                c.unstage.ensures.beside stops) c.in_ok-settle.ensures.beside c.in_ok-settle.ensures.end
                (c.in_ok-settle.ensures.settled own),
          ))
      | inr none ↦
          if_err c.stage_piece-taken.result _ _
          (c.stage_piece-taken.ensures.why (c.settle.ensures.honest honest) (c.unstage.ensures.serves serves)) (λ f stands.
          settled_stands it.holds it.place it.reopens it.serves it.is_honest it.stages it.reach z c.args.deframer.now c.args.applier.now
          u.store c.unstage.ensures.staged c.unstage.ensures.reach c.args.piece.now a b f
          (subst (λ (x : Applied g.row.C.Denot).
          StandsStaged it.holds it.place it.stages it.reach
          (λ w. FeedStops it.stages it.reach z c.args.deframer.now x c.args.piece.now w f) a) c.unstage.ensures.beside stands)
          none c.in_ok-settle.ensures.beside c.in_ok-settle.ensures.end)
    ])

pub returns-clause-open : goal.returns-clause-open
returns-clause-open g c honest serves =
    let it = g.C.ReplicaStore in
    let z = to_z w64 (of_z w64 c.args.now) in
    let a = c.stage_piece-taken.new.applier in
    elim (some_or_none (it.place a.store) (it.reach a.store) c.settle.ensures.order) [
      | inl less ↦ on_ok_here c.stage_piece-taken.result _ (c.in_ok-settle.ensures.open honest less)
      | inr none ↦ subst (λ (s : g.row.C.Denot). OnOk c.stage_piece-taken.result (it.serves s)) (sym (c.settle.ensures.nothing none))
          (c.stage_piece-taken.ensures.open (c.settle.ensures.honest honest) (c.unstage.ensures.serves serves))
    ]

pub returns-in_err-settle-clause-crash_refused : goal.returns-in_err-settle-clause-crash_refused
returns-in_err-settle-clause-crash_refused g c honest =
    let it = g.C.ReplicaStore in
    let z = to_z w64 (of_z w64 c.args.now) in
    let u = c.unstage.new.self in
    let a = c.stage_piece-taken.new.applier in
    let b = c.settle.new.self in
    let d = c.stage_piece-taken.new.deframer in
    let r = c.stage_piece-taken.result in
    let start : Applied g.row.C.Denot = record c.args.applier.now { store = u.store } in
    let m = subst (λ (x : Applied g.row.C.Denot).
    IsMarked it.holds it.place it.reopens it.serves it.is_honest it.stages it.reach
    (FeedStops it.stages it.reach z c.args.deframer.now x c.args.piece.now) u.store
    c.stage_piece-taken.new.mark.confirmed c.stage_piece-taken.new.mark.received c.stage_piece-taken.new.mark.replies a)
    c.unstage.ensures.beside c.stage_piece-taken.ensures.marked in
    let fed = λ (own : it.serves a.store).
    subst (λ (x : Applied g.row.C.Denot).
    IfOk r (λ n. FeedGoes it.stages it.reach z c.args.deframer.now x (take n c.args.piece.now) d a)) c.unstage.ensures.beside
    (c.stage_piece-taken.ensures.fed own) in
    let refused = λ (own : it.serves a.store).
    subst (λ (x : Applied g.row.C.Denot). IfErr r (FeedStops it.stages it.reach z c.args.deframer.now x c.args.piece.now a))
    c.unstage.ensures.beside (c.stage_piece-taken.ensures.refused own) in
    let some = λ (own : it.serves a.store).
    any_stops it.stages it.reach z c.args.deframer.now start c.args.piece.now d a c.stage_piece-taken.ensures.max r (fed own)
    (refused own) in
    let to_old = λ (own : it.serves a.store). c.unstage.ensures.served (c.stage_piece-taken.ensures.served own) in
    let clean = c.settle.ensures.honest honest in
    subst (λ (y : ℤ). OnErr c.from_residual.result
    (LeavesOldOr it.place it.reopens it.serves
    (Over (λ x. FeedStops it.holds it.place y c.args.deframer.now c.args.applier.now c.args.piece.now x fault.Memory))
    c.args.applier.now.store c.settle.new.self.store)) (to_z-of_z w64 c.args.now c.ranges.now) (
    on_err c.from_residual.result _
    (leaves_none it.holds it.place it.reopens it.serves it.is_honest it.stages it.reach z c.args.deframer.now c.args.applier.now u.store
    c.unstage.ensures.staged c.unstage.ensures.reach c.args.piece.now a b c.stage_piece-taken.new.mark.confirmed
    c.stage_piece-taken.new.mark.received c.stage_piece-taken.new.mark.replies m c.unstage.ensures.position c.unstage.ensures.crash
    clean _ c.in_err-settle.ensures.position to_old c.settle.ensures.order (c.settle.ensures.crash honest)
    (λ own other left. over_all it.holds it.place it.reopens it.serves it.is_honest it.stages it.reach z c.args.deframer.now
    c.args.applier.now u.store c.unstage.ensures.staged c.unstage.ensures.reach c.args.piece.now a b c.args.piece.now (some own) other
    left)))

pub returns-clause-crash_refused : goal.returns-clause-crash_refused
returns-clause-crash_refused g c honest =
    let it = g.C.ReplicaStore in
    let z = to_z w64 (of_z w64 c.args.now) in
    let u = c.unstage.new.self in
    let a = c.stage_piece-taken.new.applier in
    let b = c.settle.new.self in
    let d = c.stage_piece-taken.new.deframer in
    let r = c.stage_piece-taken.result in
    let start : Applied g.row.C.Denot = record c.args.applier.now { store = u.store } in
    let m = subst (λ (x : Applied g.row.C.Denot).
    IsMarked it.holds it.place it.reopens it.serves it.is_honest it.stages it.reach
    (FeedStops it.stages it.reach z c.args.deframer.now x c.args.piece.now) u.store
    c.stage_piece-taken.new.mark.confirmed c.stage_piece-taken.new.mark.received c.stage_piece-taken.new.mark.replies a)
    c.unstage.ensures.beside c.stage_piece-taken.ensures.marked in
    let fed = λ (own : it.serves a.store).
    subst (λ (x : Applied g.row.C.Denot).
    IfOk r (λ n. FeedGoes it.stages it.reach z c.args.deframer.now x (take n c.args.piece.now) d a)) c.unstage.ensures.beside
    (c.stage_piece-taken.ensures.fed own) in
    let refused = λ (own : it.serves a.store).
    subst (λ (x : Applied g.row.C.Denot). IfErr r (FeedStops it.stages it.reach z c.args.deframer.now x c.args.piece.now a))
    c.unstage.ensures.beside (c.stage_piece-taken.ensures.refused own) in
    let some = λ (own : it.serves a.store).
    any_stops it.stages it.reach z c.args.deframer.now start c.args.piece.now d a c.stage_piece-taken.ensures.max r (fed own)
    (refused own) in
    let to_old = λ (own : it.serves a.store). c.unstage.ensures.served (c.stage_piece-taken.ensures.served own) in
    let clean = c.settle.ensures.honest honest in
    subst (λ (y : ℤ). OnErr c.stage_piece-taken.result
    (LeavesOldOr it.place it.reopens it.serves
    (Over (λ x. FeedStops it.holds it.place y c.args.deframer.now c.args.applier.now c.args.piece.now x fault.Memory))
    c.args.applier.now.store c.settle.new.self.store)) (to_z-of_z w64 c.args.now c.ranges.now) (
    on_err r _ (elim (some_or_none (it.place a.store) (it.reach a.store) c.settle.ensures.order) [
      | inl less ↦
          let own = c.in_ok-settle.ensures.open honest less in
          let had = c.settle.ensures.served own in
          leaves_all it.holds it.place it.reopens it.serves it.is_honest it.stages it.reach z c.args.deframer.now c.args.applier.now u.store
          c.unstage.ensures.staged c.unstage.ensures.reach c.args.piece.now a b _ (to_old had) (c.in_ok-settle.ensures.leaves own)
          c.in_ok-settle.ensures.end (c.in_ok-settle.ensures.settled own)
          (λ other left. over_all it.holds it.place it.reopens it.serves it.is_honest it.stages it.reach z c.args.deframer.now
          c.args.applier.now u.store c.unstage.ensures.staged c.unstage.ensures.reach c.args.piece.now a b c.args.piece.now (some had)
          other left)
      | inr none ↦
          leaves_none it.holds it.place it.reopens it.serves it.is_honest it.stages it.reach z c.args.deframer.now c.args.applier.now
          u.store c.unstage.ensures.staged c.unstage.ensures.reach c.args.piece.now a b c.stage_piece-taken.new.mark.confirmed
          c.stage_piece-taken.new.mark.received c.stage_piece-taken.new.mark.replies m c.unstage.ensures.position
          c.unstage.ensures.crash clean _ (c.in_ok-settle.ensures.end ∙ none) to_old c.settle.ensures.order
          (λ other left. inl (subst (λ (s : g.row.C.Denot). it.reopens s other) (c.settle.ensures.nothing none) left))
          (λ own other left. over_all it.holds it.place it.reopens it.serves it.is_honest it.stages it.reach z c.args.deframer.now
          c.args.applier.now u.store c.unstage.ensures.staged c.unstage.ensures.reach c.args.piece.now a b c.args.piece.now (some own)
          other left)
    ]))

pub returns-clause-crash : goal.returns-clause-crash
returns-clause-crash g c honest =
    let it = g.C.ReplicaStore in
    let z = to_z w64 (of_z w64 c.args.now) in
    let u = c.unstage.new.self in
    let a = c.stage_piece-taken.new.applier in
    let b = c.settle.new.self in
    let d = c.stage_piece-taken.new.deframer in
    let r = c.stage_piece-taken.result in
    let start : Applied g.row.C.Denot = record c.args.applier.now { store = u.store } in
    let m = subst (λ (x : Applied g.row.C.Denot).
    IsMarked it.holds it.place it.reopens it.serves it.is_honest it.stages it.reach
    (FeedStops it.stages it.reach z c.args.deframer.now x c.args.piece.now) u.store
    c.stage_piece-taken.new.mark.confirmed c.stage_piece-taken.new.mark.received c.stage_piece-taken.new.mark.replies a)
    c.unstage.ensures.beside c.stage_piece-taken.ensures.marked in
    let fed = λ (own : it.serves a.store).
    subst (λ (x : Applied g.row.C.Denot).
    IfOk r (λ n. FeedGoes it.stages it.reach z c.args.deframer.now x (take n c.args.piece.now) d a)) c.unstage.ensures.beside
    (c.stage_piece-taken.ensures.fed own) in
    let refused = λ (own : it.serves a.store).
    subst (λ (x : Applied g.row.C.Denot). IfErr r (FeedStops it.stages it.reach z c.args.deframer.now x c.args.piece.now a))
    c.unstage.ensures.beside (c.stage_piece-taken.ensures.refused own) in
    let some = λ (own : it.serves a.store).
    any_stops it.stages it.reach z c.args.deframer.now start c.args.piece.now d a c.stage_piece-taken.ensures.max r (fed own)
    (refused own) in
    let to_old = λ (own : it.serves a.store). c.unstage.ensures.served (c.stage_piece-taken.ensures.served own) in
    let clean = c.settle.ensures.honest honest in
    subst (λ (y : ℤ). IfOk c.stage_piece-taken.result
    (λ n. LeavesOldOr it.place it.reopens it.serves
    (Over (λ x. FeedStops it.holds it.place y c.args.deframer.now c.args.applier.now (take n c.args.piece.now) x fault.Memory))
    c.args.applier.now.store c.settle.new.self.store)) (to_z-of_z w64 c.args.now c.ranges.now) (
    if_ok_as r _ _ (if_ok_under r _ _ fed) (λ n goes.
    let over = λ (own : it.serves a.store) (other : g.row.C.Denot)
    (left : held.LeavesStaged it.holds it.place it.stages it.reach a.store other).
    over_all it.holds it.place it.reopens it.serves it.is_honest it.stages it.reach z c.args.deframer.now c.args.applier.now u.store
    c.unstage.ensures.staged c.unstage.ensures.reach c.args.piece.now a b (take n c.args.piece.now)
    (behind_all it.stages it.reach z c.args.deframer.now start (take n c.args.piece.now) d a c.stage_piece-taken.ensures.max (goes own))
    other left in
    elim (some_or_none (it.place a.store) (it.reach a.store) c.settle.ensures.order) [
      | inl less ↦
          let own = c.in_ok-settle.ensures.open honest less in
          let had = c.settle.ensures.served own in
          leaves_all it.holds it.place it.reopens it.serves it.is_honest it.stages it.reach z c.args.deframer.now c.args.applier.now u.store
          c.unstage.ensures.staged c.unstage.ensures.reach c.args.piece.now a b _ (to_old had) (c.in_ok-settle.ensures.leaves own)
          c.in_ok-settle.ensures.end (c.in_ok-settle.ensures.settled own) (over had)
      | inr none ↦
          leaves_none it.holds it.place it.reopens it.serves it.is_honest it.stages it.reach z c.args.deframer.now c.args.applier.now
          u.store c.unstage.ensures.staged c.unstage.ensures.reach c.args.piece.now a b c.stage_piece-taken.new.mark.confirmed
          c.stage_piece-taken.new.mark.received c.stage_piece-taken.new.mark.replies m c.unstage.ensures.position
          c.unstage.ensures.crash clean _ (c.in_ok-settle.ensures.end ∙ none) to_old c.settle.ensures.order
          (λ other left. inl (subst (λ (s : g.row.C.Denot). it.reopens s other) (c.settle.ensures.nothing none) left)) over
    ]))

pub returns-clause-counts : goal.returns-clause-counts
returns-clause-counts g c serves =
    let it = g.C.ReplicaStore in
    let z = to_z w64 (of_z w64 c.args.now) in
    let u = c.unstage.new.self in
    let a = c.stage_piece-taken.new.applier in
    let b = c.settle.new.self in
    subst (λ (y : ℤ). IfOk c.stage_piece-taken.result
    (λ n. FeedCounts it.holds it.place it.tally y c.args.deframer.now c.args.applier.now (take n c.args.piece.now)
    c.settle.new.self.store)) (to_z-of_z w64 c.args.now c.ranges.now) (
    if_ok_as c.stage_piece-taken.result _ _ (c.stage_piece-taken.ensures.counts (c.settle.ensures.served serves)) (λ n counts.
    settled_counts it.holds it.place it.stages it.reach z c.args.deframer.now c.args.applier.now u.store c.unstage.ensures.staged
    c.unstage.ensures.reach it.stages_tally it.tally (take n c.args.piece.now) a.store b.store
    c.unstage.ensures.unstaged c.in_ok-settle.ensures.counts c.in_ok-settle.ensures.end
    (subst (λ (x : Applied g.row.C.Denot).
    FeedCounts it.stages it.reach it.stages_tally z c.args.deframer.now x (take n c.args.piece.now) a.store) c.unstage.ensures.beside
    counts)))

pub returns-clause-counts_refused : goal.returns-clause-counts_refused
returns-clause-counts_refused g c serves =
    let it = g.C.ReplicaStore in
    let z = to_z w64 (of_z w64 c.args.now) in
    let u = c.unstage.new.self in
    let a = c.stage_piece-taken.new.applier in
    let b = c.settle.new.self in
    subst (λ (y : ℤ). OnErr c.stage_piece-taken.result
    (FeedCountsFront it.holds it.place it.tally y c.args.deframer.now c.args.applier.now c.args.piece.now c.settle.new.self.store))
    (to_z-of_z w64 c.args.now c.ranges.now) (
    on_err_as c.stage_piece-taken.result _ _ (c.stage_piece-taken.ensures.counts_refused (c.settle.ensures.served serves)) (λ counts.
    settled_front it.holds it.place it.stages it.reach z c.args.deframer.now c.args.applier.now u.store c.unstage.ensures.staged
    c.unstage.ensures.reach it.stages_tally it.tally c.args.piece.now a.store b.store
    c.unstage.ensures.unstaged c.in_ok-settle.ensures.counts c.in_ok-settle.ensures.end
    (subst (λ (x : Applied g.row.C.Denot).
    FeedCountsFront it.stages it.reach it.stages_tally z c.args.deframer.now x c.args.piece.now a.store) c.unstage.ensures.beside
    counts)))

pub returns-in_err-settle-clause-counts_refused : goal.returns-in_err-settle-clause-counts_refused
returns-in_err-settle-clause-counts_refused g c serves =
    let it = g.C.ReplicaStore in
    on_err c.from_residual.result _
    (counted_stops it.serves it.holds it.place it.tally c.args.now c.args.deframer.now c.args.deframer.now c.args.applier.now
    c.args.applier.now c.settle.new.self.store c.args.piece.now 0
    (counted_zero it.serves it.holds it.place it.tally c.args.now c.args.deframer.now c.args.applier.now c.args.piece.now c.requires.waits
    c.requires.sound)
    (c.unstage.ensures.served (c.stage_piece-taken.ensures.served (c.settle.ensures.served serves)))
    (c.in_err-settle.ensures.position ∙ c.stage_piece-taken.ensures.marked.whole.position ∙ c.unstage.ensures.position)
    (c.in_err-settle.ensures.uncounted ∙ c.stage_piece-taken.ensures.tally ∙ c.unstage.ensures.tally))
