-- Behind CopyDone nothing is taken.
use Rattle.std.proofs.Common.{◌≡◌, ◌<◌, ◌++◌, inl, inr, ℕ, ℤ, List, [], Bool, true, length, take}
use Rattle.std.proofs.Common.{drop, refl, sym, ap, subst, arith, append-nil, length-append}
use Rattle.std.proofs.Common.{length-drop}
use Rattle.std.proofs.lemmas.List.{take-append-drop}
use Rattle.pgwire.specs.Frames.{AreFrames, frames, has_copy_done}
use Rattle.pgwire.specs.declared.fault.WireFault.TheVariants as wire_fault
use Rattle.pgapply.specs.Value.{Tables}
use Rattle.pgsub_core.specs.declared.fault.Fault.{Fault}
use Rattle.pgsub_core.specs.declared.fault.Fault.TheVariants as fault
use Rattle.pgsub_core.specs.Subscriber.Causes.{cause}
use Rattle.pgsub_core.specs.Subscriber.Subscribed.{Subscribed}
use Rattle.pgsub_core.specs.Subscriber.SubscriberValue.{SubscriberValue, seen, Feeds, FeedsUntil}
use Rattle.pgsub_core.specs.Machine.Feeding.{IsFedUntil, StopsIn, done_frames}
use Rattle.pgsub_core.specs.Calls.Framing.{IsCut}
use Rattle.pgsub_core.specs.Subscriber.Handled.{IsLeft}
use Rattle.pgsub_core.specs.Subscriber.Crashing.{LeavesOldOr, FedOver}
use Rattle.pgsub_core.proofs.Crashes.{leaves_as}
use Rattle.pgsub_core.proofs.Pieces.{front_of, piece_then_stop, stop_stands}
use Rattle.pgsub_core.proofs.Starting.{fed_until}

stops_behind : (now : ℤ) (old new : Subscribed) (piece : List ℕ) (f : Fault) → old.copy_done ≡ true → IsLeft old new → new.closed ≡ true
    → StopsIn now old.max_frame true (old.partial ++ piece) old f (cause f) → IsFedUntil now old piece new f
stops_behind now old new piece f done left closed why = record {
  fs = [];
  rest = old.partial ++ piece;
  state = old;
  whole = ap (λ fs. frames fs ++ (old.partial ++ piece)) (sym (append-nil (done_frames old)));
  each = subst (λ (d : Bool). AreFrames old.max_frame (front_of d ++ [])) (sym done) refl;
  takes = refl;
  left = left;
  closed = closed;
  why = subst (λ (d : Bool). StopsIn now old.max_frame (has_copy_done (front_of d ++ [])) (old.partial ++ piece) old f (cause f)) (sym done)
      why;
}

-- a cut that isn't at the end of a piece is at the end of its session
pub ended : (piece : List ℕ) (n : ℕ) (done : Bool) → IsCut piece n done → n < length piece → done ≡ true
ended piece n done cut more = elim cut.ends [ inl all ↦ absurd (omega (arith, all, more)) | inr ends ↦ ends ]

-- with a fault that closes it
abbrev pub shut : {C : Type 0} → SubscriberValue C → SubscriberValue C
shut s = record s { framing = record s.framing { closed = true } }

module _ {C : Type 0} (holds : C → Tables → Type 0) (place : C → ℕ) (now : ℤ) (old mid : SubscriberValue C) (piece : List ℕ) (n : ℕ) where
  until_end : (f : Fault) → mid.framing.copy_done ≡ true → Feeds holds place now old (take n piece) mid
      → ((s : Subscribed) → StopsIn now s.max_frame true (s.partial ++ drop n piece) s f (cause f))
      → FeedsUntil holds place now old piece (shut mid) f
  until_end f done feeds why tables h =
      let one = feeds tables h in
      let s = seen place mid one.0 in
      let new = seen place (shut mid) one.0 in
      let left : IsLeft s new =
      record { tables = refl; progress = refl; settings = record { version = refl; max_frame = refl; limit = refl }; replies = refl } in (
        one.0,
        one.1,
        fed_until now (seen place old tables) new piece f one.2.0
            (subst (λ (p : List ℕ). IsFedUntil now (seen place old tables) p new f) (take-append-drop n piece)
            (piece_then_stop now (seen place old tables) s new (take n piece) (drop n piece) f one.2.1
            (stops_behind now s new (drop n piece) f done left refl (why s)))),
      )

  -- what follows CopyDone is rejected,
  pub until_after_done : n < length piece → mid.framing.copy_done ≡ true → Feeds holds place now old (take n piece) mid
      → FeedsUntil holds place now old piece (shut mid) (fault.Wire wire_fault.AfterDone)
  until_after_done more done feeds = until_end (fault.Wire wire_fault.AfterDone) done feeds (λ s.
      let count = length-append s.partial (drop n piece) in
      let rest = length-drop n piece in
      (wire_fault.AfterDone, refl, (refl, omega (arith, more, count, rest))))

  -- or there is no memory for it
  pub until_memory : mid.framing.copy_done ≡ true → Feeds holds place now old (take n piece) mid
      → FeedsUntil holds place now old piece (shut mid) fault.Memory
  until_memory done feeds = until_end fault.Memory done feeds (λ s. tt)

-- what stops a front of a piece stops the piece
module _ {C : Type 0} (holds : C → Tables → Type 0) (place : C → ℕ) (now : ℤ) (old : SubscriberValue C) (piece : List ℕ) (n : ℕ) where
  until_front : (s : SubscriberValue C) → FeedsUntil holds place now old (take n piece) s fault.Memory
      → FeedsUntil holds place now old piece s fault.Memory
  until_front s until tables h =
      let one = until tables h in (
        one.0,
        one.1,
        (
          one.2.0,
          subst (λ (p : List ℕ). IsFedUntil now (seen place old tables) p (seen place s one.0) fault.Memory) (take-append-drop n piece)
              (stop_stands now _ _ (take n piece) (drop n piece) fault.Memory one.2.1),
        ),
      )

  pub leaves_front : (reopens : C → C → Type 0) (serves : C → Type 0) (store : C)
      → LeavesOldOr place reopens serves (FedOver (λ s. FeedsUntil holds place now old (take n piece) s fault.Memory)) old.applied.store
      store
      → LeavesOldOr place reopens serves (FedOver (λ s. FeedsUntil holds place now old piece s fault.Memory)) old.applied.store store
  leaves_front reopens serves store before =
      leaves_as place reopens serves _ _ old.applied.store store before (λ other has. (has.0, has.1, until_front has.0 has.2))
