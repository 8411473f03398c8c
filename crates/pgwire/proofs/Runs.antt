-- What any calls of a deframer come to.
use Rattle.std.proofs.Common.{◌≡◌, ◌≢◌, ◌⊎◌, inl, inr, ℕ, List, [], ◌∷◌, ◌++◌, false, Option, Some}
use Rattle.std.proofs.Common.{None, Result, Ok, Err, take, refl, ap, sym, ◌∙◌, subst, arith}
use Rattle.std.proofs.Common.{append_assoc, append-nil, ⊎_elim}
use Rattle.std.proofs.lemmas.Grind.{flat_map-append}
use Rattle.std.proofs.lemmas.Bool.{false≢true}
use Rattle.pgwire.specs.declared.fault.WireFault.{WireFault}
use Rattle.pgwire.specs.declared.fault.WireFault.TheVariants.{UnknownFrame, BadLength, TooLarge}
use Rattle.pgwire.specs.declared.fault.WireFault.TheVariants.{AfterDone, UnknownServerMessage}
use Rattle.pgwire.specs.declared.fault.WireFault.TheVariants.{Short, Trailing, BadReplyByte, Memory}
use Rattle.pgwire.specs.Frames.{Frame, CopyData, CopyDone, frame, frames, IsAllowed, AreFrames}
use Rattle.pgwire.specs.Frames.{has_copy_done, IsPartial, IsDeframedAs, IsFramingFault}
use Rattle.pgwire.specs.Frames.{HasFramingFault}
use Rattle.pgwire.specs.Deframed.{Deframed, fresh, Stands, Waits, StandsOrWaits, IsFed}
use Rattle.pgwire.specs.Deframed.{is_copy_done, after_release}
use Rattle.pgwire.specs.Calls.{Call, Feed, Release, taken_of, Leads}
use Rattle.pgwire.proofs.Readings.{one_deframing}

all_with : (max : ℕ) (fs : List Frame) (f : Frame) → AreFrames max fs → has_copy_done fs ≡ false → IsAllowed max f
    → AreFrames max (fs ++ f ∷ [])
all_with max [] (CopyData bytes) each none allowed = (allowed, tt)
all_with max [] CopyDone each none allowed = refl
all_with max (CopyData bytes ∷ fs) f each none allowed = (each.0, all_with max fs f each.1 none allowed)
all_with max (CopyDone ∷ fs) f each none allowed = absurd (false≢true (sym none))

done_with : (fs : List Frame) (f : Frame) → has_copy_done fs ≡ false → has_copy_done (fs ++ f ∷ []) ≡ is_copy_done f
done_with [] (CopyData bytes) none = refl
done_with [] CopyDone none = refl
done_with (CopyData bytes ∷ fs) f none = done_with fs f none
done_with (CopyDone ∷ fs) f none = absurd (false≢true (sym none))

frames-push : (fs : List Frame) (f : Frame) → frames (fs ++ f ∷ []) ≡ frames fs ++ frame f
frames-push fs f = flat_map-append frame fs (f ∷ []) ∙ ap (λ last. frames fs ++ last) (append-nil (frame f))

-- what holds behind any calls
pub record IsCounted (max : ℕ) (taken : List ℕ) (released : List Frame) (d : Deframed) : Type 0 where
  pub max_is : d.max ≡ max
  pub whole : taken ≡ frames released ++ d.held
  pub each : AreFrames max released
  pub done_is : has_copy_done released ≡ d.done
  pub state : StandsOrWaits d

counted_start : (max : ℕ) → IsCounted max [] [] (fresh max)
counted_start max = record {
  max_is = refl;
  whole = refl;
  each = tt;
  done_is = refl;
  state = inr (record {
    partial = record { tag = λ some. absurd (omega arith); payload = λ long. absurd (omega arith) };
    last = λ e. refl;
  });
}

waits_with : (d : Deframed) (fault : Option WireFault) → Waits d → Waits (record d { fault = fault })
waits_with d fault waits = record { partial = waits.partial; last = waits.last }

-- a piece that was refused changes nothing but the fault
counted_fault : (max : ℕ) (taken : List ℕ) (released : List Frame) (old new : Deframed) (x : WireFault) → IsCounted max taken released old
    → Waits old → new ≡ record old { fault = Some x } → IsCounted max taken released new
counted_fault max taken released old new x is waits e =
    subst (IsCounted max taken released) (sym e)
    (record { max_is = is.max_is; whole = is.whole; each = is.each; done_is = is.done_is; state = inr (waits_with old (Some x) waits) })

counted_fed : (max : ℕ) (taken piece : List ℕ) (released : List Frame) (result : Result ℕ WireFault) (old new : Deframed)
    → IsCounted max taken released old → IsFed old piece result new
    → IsCounted max (taken ++ taken_of piece result) released new
counted_fed max taken piece released (Ok n) old new is fed =
    let state : StandsOrWaits new = ⊎_elim (λ stands. inl stands) (λ waits. inr waits.1) fed.3 in
    let grown : Deframed = record old { held = old.held ++ take n piece; room = new.room } in
    subst (IsCounted max (taken ++ take n piece) released) (sym fed.2) (record {
      max_is = is.max_is;
      whole = ap (λ bytes. bytes ++ take n piece) is.whole ∙ append_assoc (frames released) old.held (take n piece);
      each = is.each;
      done_is = is.done_is;
      state = subst StandsOrWaits fed.2 state;
    })
counted_fed max taken piece released (Err Memory) old new is fed =
    subst (λ bytes. IsCounted max bytes released new) (sym (append-nil taken)) (subst (IsCounted max taken released) (sym fed.1) is)
counted_fed max taken piece released (Err AfterDone) old new is fed =
    subst (λ bytes. IsCounted max bytes released new) (sym (append-nil taken))
    (counted_fault max taken released old new AfterDone is fed.1 fed.0)
counted_fed max taken piece released (Err (UnknownFrame byte)) old new is fed =
    subst (λ bytes. IsCounted max bytes released new) (sym (append-nil taken))
    (counted_fault max taken released old new (UnknownFrame byte) is fed.1 fed.0)
counted_fed max taken piece released (Err BadLength) old new is fed =
    subst (λ bytes. IsCounted max bytes released new) (sym (append-nil taken))
    (counted_fault max taken released old new BadLength is fed.1 fed.0)
counted_fed max taken piece released (Err TooLarge) old new is fed =
    subst (λ bytes. IsCounted max bytes released new) (sym (append-nil taken))
    (counted_fault max taken released old new TooLarge is fed.1 fed.0)
counted_fed max taken piece released (Err (UnknownServerMessage byte)) old new is fed =
    subst (λ bytes. IsCounted max bytes released new) (sym (append-nil taken))
    (counted_fault max taken released old new (UnknownServerMessage byte) is fed.1 fed.0)
counted_fed max taken piece released (Err Short) old new is fed =
    subst (λ bytes. IsCounted max bytes released new) (sym (append-nil taken))
    (counted_fault max taken released old new Short is fed.1 fed.0)
counted_fed max taken piece released (Err Trailing) old new is fed =
    subst (λ bytes. IsCounted max bytes released new) (sym (append-nil taken))
    (counted_fault max taken released old new Trailing is fed.1 fed.0)
counted_fed max taken piece released (Err BadReplyByte) old new is fed =
    subst (λ bytes. IsCounted max bytes released new) (sym (append-nil taken))
    (counted_fault max taken released old new BadReplyByte is fed.1 fed.0)

counted_release : (max : ℕ) (taken : List ℕ) (before : List Frame) (old : Deframed) (f : Frame) → IsCounted max taken before old
    → Stands old f → IsCounted max taken (before ++ f ∷ []) (after_release old f)
counted_release max taken before old f is stands =
    let none : has_copy_done before ≡ false = is.done_is ∙ stands.first in
    record {
      max_is = is.max_is;
      whole = is.whole ∙ ap (λ held. frames before ++ held) stands.whole ∙ sym (frames-push before f)
          ∙ sym (append-nil (frames (before ++ f ∷ [])));
      each = all_with max before f is.each none (subst (λ m. IsAllowed m f) is.max_is stands.allowed);
      done_is = done_with before f none;
      state = inr (record {
        partial = record { tag = λ some. absurd (omega arith); payload = λ long. absurd (omega arith) };
        last = λ e. refl;
      });
    }

pub counted : (max : ℕ) (calls : List Call) (taken : List ℕ) (released : List Frame) (d : Deframed) → Leads max calls taken released d
    → IsCounted max taken released d
counted max [] taken released d (e, t, r) = rw (e, t, r) (counted_start max)
counted max (Feed piece result ∷ calls) taken released d (before, old, leads, fed, t) =
    rw t (counted_fed max before piece released result old d (counted max calls before released old leads) fed)
counted max (Release ∷ calls) taken released d (before, old, leads, inl (f, stands, e, r)) =
    rw (e, r) (counted_release max taken before old f (counted max calls taken before old leads) stands)
counted max (Release ∷ calls) taken released d (before, old, leads, inr (waits, e, r)) =
    rw (e, r) (counted max calls taken before old leads)

-- the frames that were released, with what is held, are those of the bytes
pub frames_of_the_bytes : (max : ℕ) (calls : List Call) (taken : List ℕ) (released : List Frame) (d : Deframed)
    → Leads max calls taken released d
    → ((f : Frame) × Stands d f × IsDeframedAs max taken (released ++ f ∷ []) []) ⊎ (Waits d × IsDeframedAs max taken released d.held)
frames_of_the_bytes max calls taken released d leads =
    let is = counted max calls taken released d leads in
    ⊎_elim
    (λ s. let next = counted_release max taken released d s.0 is s.1 in
    inl (
      s.0,
      s.1,
      record {
        whole = next.whole;
        each = next.each;
        partial = record { tag = λ some. absurd (omega arith); payload = λ long. absurd (omega arith) };
        last = λ e. refl;
      },
    ))
    (λ waits. inr (
      waits,
      record {
        whole = is.whole;
        each = is.each;
        partial = subst (λ m. IsPartial m d.held) is.max_is waits.partial;
        last = λ e. waits.last (sym is.done_is ∙ e);
      },
    ))
    is.state

-- two runs over the same bytes released the same frames, once neither has a frame to release
pub cuts_are_the_same : (max : ℕ) (calls others : List Call) (taken : List ℕ) (fs gs : List Frame) (d e : Deframed)
    → Leads max calls taken fs d → Leads max others taken gs e → Waits d → Waits e → (fs ≡ gs) × (d.held ≡ e.held)
cuts_are_the_same max calls others taken fs gs d e x y wd we =
    let a = counted max calls taken fs d x in
    let b = counted max others taken gs e y in
    one_deframing max max taken fs gs d.held e.held
    (record {
      whole = a.whole;
      each = a.each;
      partial = subst (λ m. IsPartial m d.held) a.max_is wd.partial;
      last = λ t. wd.last (sym a.done_is ∙ t);
    })
    (record {
      whole = b.whole;
      each = b.each;
      partial = subst (λ m. IsPartial m e.held) b.max_is we.partial;
      last = λ t. we.last (sym b.done_is ∙ t);
    })

breaks_of : (old new : Deframed) (piece : List ℕ) (x : WireFault) → old.fault ≡ None → x ≢ Memory → IsFed old piece (Err x) new
    → IsFramingFault old.max old.done (old.held ++ piece) x
breaks_of old new piece Memory none other fed = absurd (other refl)
breaks_of old new piece AfterDone none other fed =
    ⊎_elim (λ (e : old.fault ≡ Some AfterDone). let bad : None ≡ Some AfterDone = sym none ∙ e in absurd (cc)) (λ b. b.1) fed.2
breaks_of old new piece (UnknownFrame byte) none other fed =
    ⊎_elim (λ (e : old.fault ≡ Some (UnknownFrame byte)). let bad : None ≡ Some (UnknownFrame byte) = sym none ∙ e in absurd (cc))
    (λ b. b.1) fed.2
breaks_of old new piece BadLength none other fed =
    ⊎_elim (λ (e : old.fault ≡ Some BadLength). let bad : None ≡ Some BadLength = sym none ∙ e in absurd (cc)) (λ b. b.1) fed.2
breaks_of old new piece TooLarge none other fed =
    ⊎_elim (λ (e : old.fault ≡ Some TooLarge). let bad : None ≡ Some TooLarge = sym none ∙ e in absurd (cc)) (λ b. b.1) fed.2
breaks_of old new piece (UnknownServerMessage byte) none other fed =
    ⊎_elim (λ (e : old.fault ≡ Some (UnknownServerMessage byte)). let bad : None ≡ Some (UnknownServerMessage byte) = sym none ∙ e in
    absurd (cc)) (λ b. b.1) fed.2
breaks_of old new piece Short none other fed =
    ⊎_elim (λ (e : old.fault ≡ Some Short). let bad : None ≡ Some Short = sym none ∙ e in absurd (cc)) (λ b. b.1) fed.2
breaks_of old new piece Trailing none other fed =
    ⊎_elim (λ (e : old.fault ≡ Some Trailing). let bad : None ≡ Some Trailing = sym none ∙ e in absurd (cc)) (λ b. b.1) fed.2
breaks_of old new piece BadReplyByte none other fed =
    ⊎_elim (λ (e : old.fault ≡ Some BadReplyByte). let bad : None ≡ Some BadReplyByte = sym none ∙ e in absurd (cc)) (λ b. b.1) fed.2

-- the first fault is that of all bytes up to the end of the piece
pub first_fault : (max : ℕ) (calls : List Call) (taken piece : List ℕ) (released : List Frame) (old new : Deframed) (x : WireFault)
    → Leads max calls taken released old → old.fault ≡ None → x ≢ Memory
    → IsFed old piece (Err x) new → HasFramingFault max (taken ++ piece) x
first_fault max calls taken piece released old new x leads none other fed =
    let is = counted max calls taken released old leads in
    let breaks = breaks_of old new piece x none other fed in
    record {
      fs = released;
      rest = old.held ++ piece;
      whole = ap (λ bytes. bytes ++ piece) is.whole ∙ append_assoc (frames released) old.held piece;
      each = is.each;
      breaks = subst (λ m. IsFramingFault m (has_copy_done released) (old.held ++ piece) x) is.max_is
          (subst (λ b. IsFramingFault old.max b (old.held ++ piece) x) (sym is.done_is) breaks);
    }
