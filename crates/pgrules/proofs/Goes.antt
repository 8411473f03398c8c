-- How the watch over a session goes on, and where it ends.
use Rattle.std.proofs.Common.{◌≡◌, ◌≢◌, ◌≤◌, ◌⊎◌, ◌-◌, ◌∙◌, inl, inr, ⊎_elim, ℕ, List, [], ◌∷◌}
use Rattle.std.proofs.Common.{◌++◌, Bool, true, false}
use Rattle.std.proofs.Common.{None, Some, Ok, Err, refl, sym, ap, subst, arith, length, take, drop}
use Rattle.std.proofs.Common.{append_assoc, append-nil}
use Rattle.std.specs.List.{AllByRecursion}
use Rattle.std.proofs.lemmas.List.{length-append, map-append, take_all, take_rest, take-append-drop}
use Rattle.std.specs.Prelude.{◌==◌}
use Rattle.std.proofs.lemmas.Bool.Decides.{nat_tests}
use Rattle.pgwire.specs.declared.fault.WireFault.{WireFault}
use Rattle.pgwire.specs.declared.fault.WireFault.TheVariants as wire_fault
use Rattle.pgwire.specs.Frames as wire
use Rattle.pgwire.specs.Deframed.{Deframed, fresh, Stands, Waits, IsFed, IsReleased, after_release}
use Rattle.pgwire.specs.Deframed.{is_copy_done}
use Rattle.pgwire.specs.Calls.{Call, Feed, Release, Leads}
use Rattle.pgwire.proofs.Runs.{counted}
use Rattle.pgwire.proofs.Holding.{not_both}
use Rattle.pgorder.specs.declared.Version.{Version}
use Rattle.pgwatch.specs.declared.watch.Watch.{Watch}
use Rattle.pgwatch.specs.Hearing.{hear, at_start}
use Rattle.pgsub_core.specs.Server.Stream.{Sent}
use Rattle.pgsub_core.specs.Server.Sessions.{frames_of, last_frame, whole_frames, IsWireSent}
use Rattle.pgwatched.specs.Watched.{Framed, heard_of, sent_of, hear_all, AreDecoded}
use Rattle.pgrules.specs.declared.findings.End.{End}
use Rattle.pgrules.specs.declared.findings.End.TheVariants as end
use Rattle.pgrules.specs.declared.seen.Seen.{Seen}
use Rattle.pgrules.specs.Seen.{nothing_seen, seen_after, with_sent}
use Rattle.pgrules.specs.Watching.{ArePlaced, EndsAtFrame, EndsNext, Ends, HearsFrame, IsFound}
use Rattle.pgrules.specs.Watching.{IsHeard, Says, frame_of}
use Rattle.pgrules.proofs.StillWatched.{still_watched}
use Rattle.pgrules.proofs.Steps.{framed, all_push, sent_push, seen_push, heard_push, placed_push}
use Rattle.pgrules.proofs.Steps.{decoded_push}

pub nothing_is : (rest : List ℕ) → length rest ≡ 0 → rest ≡ []
nothing_is [] none = refl
nothing_is (x ∷ xs) none = absurd (omega (arith, none))

pub none_left : (rest : List ℕ) (b : Bool) → b ≡ (length rest == 0) → b ≡ true → rest ≡ []
none_left rest b same is = nothing_is rest (grind (arith, nat_tests))

pub whole_of : (n : ℕ) (xs : List ℕ) → n ≡ length xs → take n xs ≡ xs
whole_of n xs e = take_all n xs (omega (arith, e))

-- the bytes that were taken and those that are left are the same, once more are taken
same_bytes : (taken rest all : List ℕ) (n : ℕ) → taken ++ rest ≡ all
    → (taken ++ take n rest) ++ take (length rest - n) (drop n rest) ≡ all
same_bytes taken rest all n e =
    ap (λ (xs : List ℕ). (taken ++ take n rest) ++ xs) (take_rest rest n) ∙ append_assoc taken (take n rest) (drop n rest)
    ∙ ap (λ (xs : List ℕ). taken ++ xs) (take-append-drop n rest) ∙ e

pub allowed_within : (max : ℕ) (f : wire.Frame) → max ≤ 2147483643 → wire.IsAllowed max f → wire.IsAllowed 2147483643 f
allowed_within max (wire.CopyData bytes) most h = (omega (arith, most, h.0), h.1)
allowed_within max wire.CopyDone most h = tt

pub breaks_of : (old new : Deframed) (piece : List ℕ) (x : WireFault) → old.fault ≡ None → x ≢ wire_fault.Memory → IsFed old piece (Err
    x) new
    → wire.IsFramingFault old.max old.done (old.held ++ piece) x
breaks_of old new piece wire_fault.Memory none other fed = absurd (other refl)
breaks_of old new piece wire_fault.AfterDone none other fed =
    ⊎_elim (λ (e : old.fault ≡ Some wire_fault.AfterDone). let bad : None ≡ Some wire_fault.AfterDone = sym none ∙ e in absurd (cc))
    (λ b. b.1) fed.2
breaks_of old new piece (wire_fault.UnknownFrame byte) none other fed =
    ⊎_elim (λ (e : old.fault ≡ Some (wire_fault.UnknownFrame byte)). let bad : None ≡ Some (wire_fault.UnknownFrame byte) = sym none ∙ e in
    absurd (cc))
    (λ b. b.1) fed.2
breaks_of old new piece wire_fault.BadLength none other fed =
    ⊎_elim (λ (e : old.fault ≡ Some wire_fault.BadLength). let bad : None ≡ Some wire_fault.BadLength = sym none ∙ e in absurd (cc))
    (λ b. b.1) fed.2
breaks_of old new piece wire_fault.TooLarge none other fed =
    ⊎_elim (λ (e : old.fault ≡ Some wire_fault.TooLarge). let bad : None ≡ Some wire_fault.TooLarge = sym none ∙ e in absurd (cc))
    (λ b. b.1) fed.2
breaks_of old new piece (wire_fault.UnknownServerMessage byte) none other fed =
    ⊎_elim (λ (e : old.fault ≡ Some (wire_fault.UnknownServerMessage byte)). let bad : None
    ≡ Some (wire_fault.UnknownServerMessage byte) = sym none ∙ e in absurd (cc))
    (λ b. b.1) fed.2
breaks_of old new piece wire_fault.Short none other fed =
    ⊎_elim (λ (e : old.fault ≡ Some wire_fault.Short). let bad : None ≡ Some wire_fault.Short = sym none ∙ e in absurd (cc))
    (λ b. b.1) fed.2
breaks_of old new piece wire_fault.Trailing none other fed =
    ⊎_elim (λ (e : old.fault ≡ Some wire_fault.Trailing). let bad : None ≡ Some wire_fault.Trailing = sym none ∙ e in absurd (cc))
    (λ b. b.1) fed.2
breaks_of old new piece wire_fault.BadReplyByte none other fed =
    ⊎_elim (λ (e : old.fault ≡ Some wire_fault.BadReplyByte). let bad : None ≡ Some wire_fault.BadReplyByte = sym none ∙ e in absurd (cc))
    (λ b. b.1) fed.2

abbrev pub released_of : List Framed → Bool → List wire.Frame
released_of fs done = frames_of (sent_of fs) ++ last_frame done

-- So far these were heard, and these bytes were taken.
pub record IsUnderWay (v : Version) (max limit : ℕ) (bytes rest : List ℕ) (d : Deframed) (w : Watch) (seen : Seen) : Type 0 where
  pub fs : List Framed
  pub done : Bool
  pub taken : List ℕ
  pub calls : List Call
  pub leads : Leads max calls taken (released_of fs done) d
  pub parts : taken ++ rest ≡ bytes
  pub empty : d.held ≡ []
  pub sound : d.fault ≡ None
  pub flag : d.done ≡ done
  pub fits : AllByRecursion IsWireSent (sent_of fs)
  pub decoded : AreDecoded fs
  pub placed : ArePlaced 0 fs
  pub heard : hear_all (at_start v 0 limit) fs ≡ Ok w
  pub watched : w.ended ≡ None
  pub all : seen ≡ seen_after nothing_seen (sent_of fs)

pub started : (v : Version) (max limit : ℕ) (bytes : List ℕ)
    → IsUnderWay v max limit bytes bytes (fresh max) (at_start v 0 limit) nothing_seen
started v max limit bytes = record {
  fs = [];
  done = false;
  taken = [];
  calls = [];
  leads = (refl, refl, refl);
  parts = refl;
  empty = refl;
  sound = refl;
  flag = refl;
  fits = tt;
  decoded = tt;
  placed = tt;
  heard = refl;
  watched = refl;
  all = refl;
}

module _ (v : Version) (max limit : ℕ) (bytes rest : List ℕ) (d : Deframed) (w : Watch) (seen : Seen)
    (u : IsUnderWay v max limit bytes rest d w seen) where
  -- the bytes that were taken are those of the frames
  taken_are : u.taken ≡ whole_frames (sent_of u.fs) u.done
  taken_are =
      let is = counted max u.calls u.taken (released_of u.fs u.done) d u.leads in
      is.whole ∙ ap (λ held. wire.frames (released_of u.fs u.done) ++ held) u.empty
      ∙ append-nil (wire.frames (released_of u.fs u.done))

  pub max_is : d.max ≡ max
  max_is = (counted max u.calls u.taken (released_of u.fs u.done) d u.leads).max_is

  pub is_heard : IsHeard v max limit bytes u.fs u.done rest w
  is_heard =
      let is = counted max u.calls u.taken (released_of u.fs u.done) d u.leads in
      record {
        whole = sym u.parts ∙ ap (λ xs. xs ++ rest) taken_are;
        each = is.each;
        fits = u.fits;
        decoded = u.decoded;
        placed = u.placed;
        heard = u.heard;
      }

  offset_is : (at : ℕ) → at ≡ length bytes - length rest → at ≡ length (whole_frames (sent_of u.fs) u.done)
  offset_is at e = omega (arith, e, ap length u.parts, length-append u.taken rest, ap length taken_are)

  module _ (n : ℕ) (mid : Deframed) (fed : IsFed d rest (Ok n) mid) where
    fed_max : mid.max ≡ max
    fed_max = ap (λ (m : Deframed). m.max) fed.2 ∙ max_is

    fed_done : mid.done ≡ u.done
    fed_done = ap (λ (m : Deframed). m.done) fed.2 ∙ u.flag

    fed_held : mid.held ≡ take n rest
    fed_held = ap (λ (m : Deframed). m.held) fed.2 ∙ ap (λ h. h ++ take n rest) u.empty

    -- less than a frame is left
    pub found_whole : Waits mid → IsFound v max limit bytes (record { seen = seen; end = end.Whole })
    found_whole waits = record {
      fs = u.fs;
      done = u.done;
      rest = rest;
      watch = w;
      is = is_heard;
      seen = u.all;
      ends = go fed.3;
    }
      where
        go : ((f : wire.Frame) × Stands mid f) ⊎ ((n ≡ length rest) × Waits mid) → wire.IsPartial max rest × (u.done ≡ true → rest ≡ [])
        go (inl (f, stands)) = absurd (not_both mid f stands waits)
        go (inr (size, same)) =
            let held : mid.held ≡ rest = fed_held ∙ whole_of n rest size in (
              subst (wire.IsPartial max) held (subst (λ m. wire.IsPartial m mid.held) fed_max waits.partial),
              λ e. sym held ∙ waits.last (fed_done ∙ e),
            )

    module _ (frame : wire.Frame) (stands : Stands mid frame) where
      next_is : rest ≡ wire.frame frame ++ drop n rest
      next_is = sym (take-append-drop n rest) ∙ ap (λ xs. xs ++ drop n rest) (sym fed_held ∙ stands.whole)

      -- the next frame ends it
      pub found_ended : (at : ℕ) (e : End) (seen' : Seen) → at ≡ length bytes - length rest → EndsAtFrame w at frame e → seen' ≡ seen
          → IsFound v max limit bytes (record { seen = seen'; end = e })
      found_ended at e seen' place ends same = record {
        fs = u.fs;
        done = u.done;
        rest = rest;
        watch = w;
        is = is_heard;
        seen = same ∙ u.all;
        ends = go e ends;
      }
        where
          next : (x : End) → EndsAtFrame w at frame x → EndsNext max (sent_of u.fs) u.done rest w x
          next x h = record {
            frame = frame;
            later = drop n rest;
            next = next_is;
            allowed = subst (λ m. wire.IsAllowed m frame) fed_max stands.allowed;
            ends = subst (λ k. EndsAtFrame w k frame x) (offset_is at place) h;
          }

          go : (x : End) → EndsAtFrame w at frame x → Ends max (sent_of u.fs) u.done rest w x
          go end.Whole h = absurd h
          go (end.Ended b) h = next (end.Ended b) h
          go (end.Unframed k f) h = absurd h
          go (end.Unsaid k f) h = next (end.Unsaid k f) h
          go (end.Undecoded k f) h = next (end.Undecoded k f) h

      none_done : u.done ≡ false
      none_done = sym fed_done ∙ stands.first

      before : released_of u.fs u.done ≡ frames_of (sent_of u.fs)
      before = ap (λ b. frames_of (sent_of u.fs) ++ last_frame b) none_done ∙ append-nil (frames_of (sent_of u.fs))

      leads_on : (d' : Deframed) (released : List wire.Frame) → d' ≡ after_release mid frame
          → released ≡ frames_of (sent_of u.fs) ++ frame ∷ []
          → Leads max (Release ∷ Feed rest (Ok n) ∷ u.calls) (u.taken ++ take n rest) released d'
      leads_on d' released is e = (
        released_of u.fs u.done,
        mid,
        (u.taken, d, u.leads, fed, refl),
        inl (frame, stands, is, e ∙ ap (λ xs. xs ++ frame ∷ []) (sym before)),
      )

      -- a message or a keepalive was heard
      goes_sent : (at : ℕ) (d' : Deframed) (w' : Watch) (seen' : Seen) (s : Sent) → max ≤ 2147483643
          → at ≡ length bytes - length rest → d' ≡ after_release mid frame
          → Says w frame s → hear w (heard_of at s) ≡ Ok w' → seen' ≡ with_sent seen s
          → IsUnderWay v max limit bytes (take (length rest - n) (drop n rest)) d' w' seen'
      goes_sent at d' w' seen' s most place released says heard seen_is = record {
        fs = u.fs ++ framed at s ∷ [];
        done = false;
        taken = u.taken ++ take n rest;
        calls = Release ∷ Feed rest (Ok n) ∷ u.calls;
        leads = leads_on d' (released_of (u.fs ++ framed at s ∷ []) false) released
            (append-nil (frames_of (sent_of (u.fs ++ framed at s ∷ []))) ∙ ap frames_of (sent_push u.fs at s)
            ∙ map-append frame_of (sent_of u.fs) (s ∷ []) ∙ ap (λ f. frames_of (sent_of u.fs) ++ f ∷ []) (sym says.0));
        parts = same_bytes u.taken rest bytes n u.parts;
        empty = ap (λ (m : Deframed). m.held) released;
        sound = ap (λ (m : Deframed). m.fault) released ∙ ap (λ (m : Deframed). m.fault) fed.2 ∙ u.sound;
        flag = ap (λ (m : Deframed). m.done) released ∙ ap is_copy_done says.0;
        fits = subst (AllByRecursion IsWireSent) (sym (sent_push u.fs at s)) (all_push IsWireSent (sent_of u.fs) s u.fits
            (says.1 (allowed_within mid.max frame (subst (λ m. m ≤ 2147483643) (sym fed_max) most) stands.allowed)));
        decoded = decoded_push v 0 limit u.fs w w' at s u.decoded u.heard says.2 heard;
        placed = placed_push u.fs 0 at s u.placed (omega (arith, offset_is at place ∙ ap (λ fs. length (wire.frames fs)) before));
        heard = heard_push u.fs (at_start v 0 limit) w w' at s u.heard heard;
        watched = still_watched w w' (heard_of at s) heard ∙ u.watched;
        all = seen_is ∙ ap (λ x. with_sent x s) u.all
            ∙ sym (ap (seen_after nothing_seen) (sent_push u.fs at s) ∙ seen_push nothing_seen (sent_of u.fs) s);
      }

      -- CopyDone
      goes_done : (d' : Deframed) (w' : Watch) (seen' : Seen) → d' ≡ after_release mid frame → frame ≡ wire.CopyDone → w' ≡ w → seen' ≡ seen
          → IsUnderWay v max limit bytes (take (length rest - n) (drop n rest)) d' w' seen'
      goes_done d' w' seen' released is same kept = record {
        fs = u.fs;
        done = true;
        taken = u.taken ++ take n rest;
        calls = Release ∷ Feed rest (Ok n) ∷ u.calls;
        leads = leads_on d' (released_of u.fs true) released (ap (λ f. frames_of (sent_of u.fs) ++ f ∷ []) (sym is));
        parts = same_bytes u.taken rest bytes n u.parts;
        empty = ap (λ (m : Deframed). m.held) released;
        sound = ap (λ (m : Deframed). m.fault) released ∙ ap (λ (m : Deframed). m.fault) fed.2 ∙ u.sound;
        flag = ap (λ (m : Deframed). m.done) released ∙ ap is_copy_done is;
        fits = u.fits;
        decoded = u.decoded;
        placed = u.placed;
        heard = u.heard ∙ ap (λ x. Ok x) (sym same);
        watched = ap (λ (x : Watch). x.ended) same ∙ u.watched;
        all = kept ∙ u.all;
      }

      pub goes_on : (at : ℕ) (d' : Deframed) (w' : Watch) (seen' : Seen) → max ≤ 2147483643 → at ≡ length bytes - length rest
          → IsReleased mid d' → HearsFrame w seen at frame w' seen'
          → IsUnderWay v max limit bytes (take (length rest - n) (drop n rest)) d' w' seen'
      goes_on at d' w' seen' most place is (inl (s, says, heard, all)) =
          goes_sent at d' w' seen' s most place (is.stood frame stands) says heard all
      goes_on at d' w' seen' most place is (inr (done, same, kept)) =
          goes_done d' w' seen' (is.stood frame stands) done same kept

  -- nothing is left
  pub found_nothing : rest ≡ [] → IsFound v max limit bytes (record { seen = seen; end = end.Whole })
  found_nothing none = record {
    fs = u.fs;
    done = u.done;
    rest = rest;
    watch = w;
    is = is_heard;
    seen = u.all;
    ends = (
      subst (wire.IsPartial max) (sym none)
          (record { tag = λ some. absurd (omega arith); payload = λ long. absurd (omega arith) }),
      λ e. none,
    );
  }

  -- what is left begins with no frame
  pub found_unframed : (at : ℕ) (new : Deframed) (fault : WireFault) → at ≡ length bytes - length rest → IsFed d rest (Err fault) new
      → IsFound v max limit bytes (record { seen = seen; end = end.Unframed at fault })
  found_unframed at new fault place fed = record {
    fs = u.fs;
    done = u.done;
    rest = rest;
    watch = w;
    is = is_heard;
    seen = u.all;
    ends = (
      offset_is at place,
      λ other.
          subst (λ m. wire.IsFramingFault m u.done rest fault) max_is
          (subst (λ b. wire.IsFramingFault d.max b rest fault) u.flag
          (subst (λ held. wire.IsFramingFault d.max d.done (held ++ rest) fault) u.empty (breaks_of d new rest fault u.sound other fed))),
    );
  }
