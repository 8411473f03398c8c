-- Where a session can't be shown further.
use Rattle.std.proofs.Common.{◌≡◌, ◌≢◌, inl, inr, ⊎_elim, ℕ, List, [], ◌∷◌, ◌++◌, Bool, true, false}
use Rattle.std.proofs.Common.{map, Some, None, Result, Ok, Err, refl, sym, ap, subst, ◌∙◌, arith}
use Rattle.std.proofs.Common.{take, drop, append_assoc}
use Rattle.std.proofs.lemmas.List.{length-append, take-append-drop}
use Rattle.std.proofs.lemmas.Bool.{false≢true}
use Rattle.std.specs.Prelude.{IsErrAnd}
use Rattle.pgwire.specs.declared.fault.WireFault.{WireFault}
use Rattle.pgwire.specs.declared.fault.WireFault.TheVariants as wire_fault
use Rattle.pgwire.specs.Frames as wire
use Rattle.pgwire.specs.Deframed.{Deframed, Stands, IsFed, after_release}
use Rattle.pgwire.specs.Calls.{Feed, Release}
use Rattle.pgwire.proofs.Holding.{fault-append}
use Rattle.pgwire.proofs.Runs.{counted}
use Rattle.pgorder.specs.declared.Version.{Version}
use Rattle.pgorder.specs.States.{StreamOrder}
use Rattle.pgshow.specs.declared.fault.Fault.{Fault}
use Rattle.pgshow.specs.declared.fault.Fault.TheVariants.{Wire, Decode, Order, Memory}
use Rattle.pgshow.specs.Frames.{Said, frame_of, messages_in, BeginsWith, HasRefusedFrame}
use Rattle.pgshow.specs.Frames.{IsNextFault}
use Rattle.pgshow.specs.Shown.{IsShownAs, fault_in, lines_of}
use Rattle.pgshow.specs.Steps.{IsUnderWay, RefusesFeed, RefusesFrame, RefusesWhole, StopsAt}

breaks_of : (old new : Deframed) (piece : List ℕ) (x : WireFault) → old.fault ≡ None → x ≢ wire_fault.Memory → IsFed old piece (Err x) new
    → wire.IsFramingFault old.max old.done (old.held ++ piece) x
breaks_of old new piece wire_fault.Memory none other fed = absurd (other refl)
breaks_of old new piece wire_fault.AfterDone none other fed =
    ⊎_elim (λ (e : old.fault ≡ Some wire_fault.AfterDone). let bad : None ≡ Some wire_fault.AfterDone = sym none ∙ e in absurd (cc))
    (λ b. b.1) fed.2
breaks_of old new piece (wire_fault.UnknownFrame byte) none other fed =
    ⊎_elim (λ (e : old.fault ≡ Some (wire_fault.UnknownFrame byte)). let bad : None ≡ Some (wire_fault.UnknownFrame byte) = sym none ∙ e in
    absurd (cc)) (λ b. b.1) fed.2
breaks_of old new piece wire_fault.BadLength none other fed =
    ⊎_elim (λ (e : old.fault ≡ Some wire_fault.BadLength). let bad : None ≡ Some wire_fault.BadLength = sym none ∙ e in absurd (cc))
    (λ b. b.1) fed.2
breaks_of old new piece wire_fault.TooLarge none other fed =
    ⊎_elim (λ (e : old.fault ≡ Some wire_fault.TooLarge). let bad : None ≡ Some wire_fault.TooLarge = sym none ∙ e in absurd (cc))
    (λ b. b.1) fed.2
breaks_of old new piece (wire_fault.UnknownServerMessage byte) none other fed =
    ⊎_elim (λ (e : old.fault ≡ Some (wire_fault.UnknownServerMessage byte)). let bad : None
    ≡ Some (wire_fault.UnknownServerMessage byte) = sym none ∙ e in absurd (cc)) (λ b. b.1) fed.2
breaks_of old new piece wire_fault.Short none other fed =
    ⊎_elim (λ (e : old.fault ≡ Some wire_fault.Short). let bad : None ≡ Some wire_fault.Short = sym none ∙ e in absurd (cc)) (λ b. b.1)
    fed.2
breaks_of old new piece wire_fault.Trailing none other fed =
    ⊎_elim (λ (e : old.fault ≡ Some wire_fault.Trailing). let bad : None ≡ Some wire_fault.Trailing = sym none ∙ e in absurd (cc))
    (λ b. b.1) fed.2
breaks_of old new piece wire_fault.BadReplyByte none other fed =
    ⊎_elim (λ (e : old.fault ≡ Some wire_fault.BadReplyByte). let bad : None ≡ Some wire_fault.BadReplyByte = sym none ∙ e in absurd (cc))
    (λ b. b.1) fed.2

-- what was shown stands at the front, whatever bytes come
begins_here : (v : Version) (max : ℕ) (taken later : List ℕ) (said : List Said) (d : Deframed) (order : StreamOrder)
    → IsUnderWay v max taken said d order → BeginsWith v max (taken ++ later) said (d.held ++ later)
begins_here v max taken later said d order u =
    let is = counted max u.calls taken (map frame_of said) d u.leads in
    record {
      whole = ap (λ bytes. bytes ++ later) is.whole ∙ append_assoc (wire.frames (map frame_of said)) d.held later;
      each = is.each;
      fits = u.fits;
      shape = u.after.shape;
    }

-- bytes that can't be taken
pub stops_at_bytes : (v : Version) (max : ℕ) (taken rest : List ℕ) (said : List Said) (d new : Deframed) (order : StreamOrder)
    (fault : Fault) → IsUnderWay v max taken said d order → RefusesFeed rest d new fault
    → StopsAt v max (taken ++ rest) said fault
stops_at_bytes v max taken rest said d new order Memory u r =
    record { rest = d.held ++ rest; begins = begins_here v max taken rest said d order u; fault_is = tt }
stops_at_bytes v max taken rest said d new order (Wire x) u r =
    let is = counted max u.calls taken (map frame_of said) d u.leads in
    let breaks = breaks_of d new rest x u.sound r.1 r.0 in
    record {
      rest = d.held ++ rest;
      begins = begins_here v max taken rest said d order u;
      fault_is = inl (subst (λ m. wire.IsFramingFault m (wire.has_copy_done (map frame_of said)) (d.held ++ rest) x) is.max_is
          (subst (λ b. wire.IsFramingFault d.max b (d.held ++ rest) x) (sym is.done_is) breaks));
    }
stops_at_bytes v max taken rest said d new order (Decode x) u r = absurd r
stops_at_bytes v max taken rest said d new order (Order x) u r = absurd r

-- a whole frame that has a fault
refused_frame : (v : Version) (max : ℕ) (taken rest : List ℕ) (said : List Said) (n : ℕ) (d mid : Deframed) (order : StreamOrder)
    (frame : wire.Frame) (fault : Fault) → IsUnderWay v max taken said d order → IsFed d rest (Ok n) mid
    → Stands mid frame → RefusesFrame frame order fault → HasRefusedFrame v max said (d.held ++ rest) fault
refused_frame v max taken rest said n d mid order frame fault u fed stands r =
    let whole : d.held ++ take n rest ≡ wire.frame frame = ap (λ (m : Deframed). m.held) (sym fed.2) ∙ stands.whole in
    let next = counted max (Release ∷ Feed rest (Ok n) ∷ u.calls) (taken ++ take n rest) (map frame_of said ++ frame ∷ [])
    (after_release mid frame)
    (map frame_of said, mid, (taken, d, u.leads, fed, refl), inl (frame, stands, refl, refl)) in
    record {
      frame = frame;
      later = drop n rest;
      whole = ap (λ (bytes : List ℕ). d.held ++ bytes) (sym (take-append-drop n rest))
          ∙ sym (append_assoc d.held (take n rest) (drop n rest)) ∙ ap (λ bytes. bytes ++ drop n rest) whole;
      each = next.each;
      refused = r v (messages_in said) u.after;
    }

pub stops_at_frame : (v : Version) (max : ℕ) (taken rest : List ℕ) (said : List Said) (n : ℕ) (d mid : Deframed) (order : StreamOrder)
    (text text' : List ℕ) (fault : Fault) → IsUnderWay v max taken said d order → IsFed d rest (Ok n) mid
    → RefusesWhole mid order text text' fault → StopsAt v max (taken ++ rest) said fault
stops_at_frame v max taken rest said n d mid order text text' fault u fed (same, frame, stands, r) =
    record {
      rest = d.held ++ rest;
      begins = begins_here v max taken rest said d order u;
      fault_is = by_fault fault (refused_frame v max taken rest said n d mid order frame fault u fed stands r);
    }
  where
    by_fault : (f : Fault) → HasRefusedFrame v max said (d.held ++ rest) f → IsNextFault v max said (d.held ++ rest) f
    by_fault Memory h = tt
    by_fault (Wire x) h = inr h
    by_fault (Decode x) h = h
    by_fault (Order x) h = h

-- more bytes change nothing after a fault
still_framing : (max : ℕ) (done : Bool) (rest later : List ℕ) (x : WireFault) → wire.IsFramingFault max done rest x
    → wire.IsFramingFault max done (rest ++ later) x
still_framing max false rest later x b = fault-append max rest later x b
still_framing max true rest later wire_fault.AfterDone b = (refl, omega (arith, b.1, length-append rest later))
still_framing max true rest later (wire_fault.UnknownFrame byte) b = absurd (false≢true (sym b.0))
still_framing max true rest later wire_fault.BadLength b = absurd (false≢true (sym b.0))
still_framing max true rest later wire_fault.TooLarge b = absurd (false≢true (sym b.0))
still_framing max true rest later (wire_fault.UnknownServerMessage byte) b = absurd b
still_framing max true rest later wire_fault.Short b = absurd b
still_framing max true rest later wire_fault.Trailing b = absurd b
still_framing max true rest later wire_fault.BadReplyByte b = absurd b
still_framing max true rest later wire_fault.Memory b = absurd b

still_refused : (v : Version) (max : ℕ) (said : List Said) (rest later : List ℕ) (fault : Fault) → HasRefusedFrame v max said rest fault
    → HasRefusedFrame v max said (rest ++ later) fault
still_refused v max said rest later fault h = record {
  frame = h.frame;
  later = h.later ++ later;
  whole = ap (λ bytes. bytes ++ later) h.whole ∙ append_assoc (wire.frame h.frame) h.later later;
  each = h.each;
  refused = h.refused;
}

pub still_stops : (v : Version) (max : ℕ) (bytes later : List ℕ) (said : List Said) (fault : Fault) → StopsAt v max bytes said fault
    → StopsAt v max (bytes ++ later) said fault
still_stops v max bytes later said fault h = record {
  rest = h.rest ++ later;
  begins = record {
    whole = ap (λ b. b ++ later) h.begins.whole ∙ append_assoc (wire.frames (map frame_of said)) h.rest later;
    each = h.begins.each;
    fits = h.begins.fits;
    shape = h.begins.shape;
  };
  fault_is = by_fault fault h.fault_is;
}
  where
    by_fault : (f : Fault) → IsNextFault v max said h.rest f → IsNextFault v max said (h.rest ++ later) f
    by_fault Memory is = tt
    by_fault (Wire x) (inl b) = inl (still_framing max (wire.has_copy_done (map frame_of said)) h.rest later x b)
    by_fault (Wire x) (inr r) = inr (still_refused v max said h.rest later (Wire x) r)
    by_fault (Decode x) r = still_refused v max said h.rest later (Decode x) r
    by_fault (Order x) r = still_refused v max said h.rest later (Order x) r

-- what is shown of a session up to a fault
pub shown_until : (v : Version) (max : ℕ) (bytes : List ℕ) (said : List Said) (r : Result (Unit {0}) Fault) (fault : Fault)
    → IsErrAnd r (λ y. y ≡ fault) → StopsAt v max bytes said fault → IsShownAs v max bytes (lines_of said) (fault_in r)
shown_until v max bytes said (Ok done) fault is h = absurd is
shown_until v max bytes said (Err y) fault is h =
    record { said = said; rest = h.rest; begins = h.begins; lines = refl; ends = subst (IsNextFault v max said h.rest) (sym is) h.fault_is }

-- the same of a whole one
pub shown_whole : (v : Version) (max : ℕ) (bytes : List ℕ) (said : List Said) (d : Deframed) (order : StreamOrder)
    → IsUnderWay v max bytes said d order → IsShownAs v max bytes (lines_of said) None
shown_whole v max bytes said d order u =
    let is = counted max u.calls bytes (map frame_of said) d u.leads in
    record {
      said = said;
      rest = d.held;
      begins = record { whole = is.whole; each = is.each; fits = u.fits; shape = u.after.shape };
      lines = refl;
      ends = (subst (λ m. wire.IsPartial m d.held) is.max_is u.waits.partial, λ t. u.waits.last (sym is.done_is ∙ t));
    }
