-- A session under a watch, of which more bytes come.
use Rattle.std.proofs.Common.{◌≡◌, ◌≢◌, ◌≤◌, ◌+◌, ◌∙◌, ℕ, List, [], ◌∷◌, ◌++◌}
use Rattle.std.proofs.Common.{Bool, true, false, true≢false, None, Ok, refl, sym}
use Rattle.std.proofs.Common.{ap, subst, arith, length, take, append_assoc, append-nil}
use Rattle.std.specs.List.{AllByRecursion}
use Rattle.std.proofs.lemmas.Grind.{flat_map-append}
use Rattle.std.proofs.lemmas.List.{length-append, map-append}
use Rattle.pgwire.specs.declared.fault.WireFault.{WireFault}
use Rattle.pgwire.specs.declared.fault.WireFault.TheVariants as wire_fault
use Rattle.pgwire.specs.Frames as wire
use Rattle.pgwire.specs.Deframed.{Deframed, Stands, Waits, IsFed, after_release}
use Rattle.pgwire.proofs.Holding.{fault-append}
use Rattle.pgorder.specs.declared.Version.{Version}
use Rattle.pgwatch.specs.declared.watch.Watch.{Watch}
use Rattle.pgwatch.specs.Hearing.{hear, at_start}
use Rattle.pgsub_core.specs.Server.Stream.{Sent}
use Rattle.pgsub_core.specs.Server.Sessions.{frames_of, whole_frames, IsWireSent}
use Rattle.pgwatched.specs.Watched.{Framed, heard_of, sent_of}
use Rattle.pgrules.specs.declared.findings.End.{End}
use Rattle.pgrules.specs.declared.findings.End.TheVariants as end
use Rattle.pgrules.specs.declared.seen.Seen.{Seen}
use Rattle.pgrules.specs.Seen.{nothing_seen, seen_after, with_sent}
use Rattle.pgrules.specs.Watching.{EndsAtFrame, EndsNext, Ends, IsFound, IsHeard, Says}
use Rattle.pgrules.specs.Watching.{frame_of}
use Rattle.pgrules.specs.Live.{HasEnded, IsFramed, IsGoing}
use Rattle.pgrules.proofs.StillWatched.{still_watched}
use Rattle.pgrules.proofs.Steps.{framed, all_push, sent_push, seen_push, heard_push, placed_push}
use Rattle.pgrules.proofs.Steps.{decoded_push}
use Rattle.pgrules.proofs.Goes.{allowed_within}

-- ---- one frame more

pub frames_push : (fs : List wire.Frame) (f : wire.Frame) → wire.frames (fs ++ f ∷ []) ≡ wire.frames fs ++ wire.frame f
frames_push fs f = flat_map-append wire.frame fs (f ∷ []) ∙ ap (λ (xs : List ℕ). wire.frames fs ++ xs) (append-nil (wire.frame f))

each_push : (max : ℕ) (fs : List wire.Frame) (bytes : List ℕ) → wire.AreFrames max fs → wire.has_copy_done fs ≡ false
    → wire.IsAllowed max (wire.CopyData bytes) → wire.AreFrames max (fs ++ wire.CopyData bytes ∷ [])
each_push max [] bytes each none allowed = (allowed, tt)
each_push max (wire.CopyDone ∷ fs) bytes each none allowed = absurd (true≢false none)
each_push max (wire.CopyData x ∷ fs) bytes each none allowed = (each.0, each_push max fs bytes each.1 none allowed)

each_done : (max : ℕ) (fs : List wire.Frame) → wire.AreFrames max fs → wire.has_copy_done fs ≡ false
    → wire.AreFrames max (fs ++ wire.CopyDone ∷ [])
each_done max [] each none = refl
each_done max (wire.CopyDone ∷ fs) each none = absurd (true≢false none)
each_done max (wire.CopyData x ∷ fs) each none = (each.0, each_done max fs each.1 none)

none_push : (fs : List wire.Frame) (bytes : List ℕ) → wire.has_copy_done fs ≡ false
    → wire.has_copy_done (fs ++ wire.CopyData bytes ∷ []) ≡ false
none_push [] bytes none = refl
none_push (wire.CopyDone ∷ fs) bytes none = absurd (true≢false none)
none_push (wire.CopyData x ∷ fs) bytes none = none_push fs bytes none

none_sent : (sent : List Sent) → wire.has_copy_done (frames_of sent) ≡ false
none_sent [] = refl
none_sent (s ∷ sent) = none_sent sent

pub nothing_partial : (max : ℕ) (held : List ℕ) → held ≡ [] → wire.IsPartial max held
nothing_partial max held none =
    subst (wire.IsPartial max) (sym none) (record { tag = λ some. absurd (omega arith); payload = λ long. absurd (omega arith) })

-- ---- what was found stays so, whatever comes later

longer : (n : ℕ) (xs more : List ℕ) → n ≤ length xs → n ≤ length (xs ++ more)
longer n xs more le = omega (arith, le, length-append xs more)

fault_more : (max : ℕ) (done : Bool) (rest more : List ℕ) (fault : WireFault) → wire.IsFramingFault max done rest fault
    → wire.IsFramingFault max done (rest ++ more) fault
fault_more max false rest more fault h = fault-append max rest more fault h
fault_more max true rest more wire_fault.AfterDone h = (h.0, longer 1 rest more h.1)
fault_more max true rest more (wire_fault.UnknownFrame byte) h = absurd (true≢false h.0)
fault_more max true rest more wire_fault.BadLength h = absurd (true≢false h.0)
fault_more max true rest more wire_fault.TooLarge h = absurd (true≢false h.0)
fault_more max true rest more _ h = absurd h

next_more : (max : ℕ) (sent : List Sent) (done : Bool) (rest more : List ℕ) (w : Watch) (e : End) → EndsNext max sent done rest w e
    → EndsNext max sent done (rest ++ more) w e
next_more max sent done rest more w e h = record {
  frame = h.frame;
  later = h.later ++ more;
  next = ap (λ xs. xs ++ more) h.next ∙ append_assoc (wire.frame h.frame) h.later more;
  allowed = h.allowed;
  ends = h.ends;
}

heard_more : (v : Version) (max limit : ℕ) (bytes more : List ℕ) (fs : List Framed) (done : Bool) (rest : List ℕ) (w : Watch)
    → IsHeard v max limit bytes fs done rest w → IsHeard v max limit (bytes ++ more) fs done (rest ++ more) w
heard_more v max limit bytes more fs done rest w h = record {
  whole = ap (λ xs. xs ++ more) h.whole ∙ append_assoc (whole_frames (sent_of fs) done) rest more;
  each = h.each;
  fits = h.fits;
  decoded = h.decoded;
  placed = h.placed;
  heard = h.heard;
}

module _ (v : Version) (limit max : ℕ) (bytes more : List ℕ) (seen : Seen) where
  found_more : (e : End) (h : IsFound v max limit bytes (record { seen = seen; end = e }))
      → Ends max (sent_of h.fs) h.done (h.rest ++ more) h.watch e → IsFound v max limit (bytes ++ more) (record { seen = seen; end = e })
  found_more e h ends = record {
    fs = h.fs;
    done = h.done;
    rest = h.rest ++ more;
    watch = h.watch;
    is = heard_more v max limit bytes more h.fs h.done h.rest h.watch h.is;
    seen = h.seen;
    ends = ends;
  }

  pub ended_more : (e : End) → HasEnded v limit max bytes seen e → HasEnded v limit max (bytes ++ more) seen e
  ended_more end.Whole h = absurd h
  ended_more (end.Ended b) h =
      found_more (end.Ended b) h (next_more max (sent_of h.fs) h.done h.rest more h.watch (end.Ended b) h.ends)
  ended_more (end.Unframed at fault) h =
      found_more (end.Unframed at fault) h (h.ends.0, λ other. fault_more max h.done h.rest more fault (h.ends.1 other))
  ended_more (end.Unsaid at fault) h =
      found_more (end.Unsaid at fault) h (next_more max (sent_of h.fs) h.done h.rest more h.watch (end.Unsaid at fault) h.ends)
  ended_more (end.Undecoded at fault) h =
      found_more (end.Undecoded at fault) h (next_more max (sent_of h.fs) h.done h.rest more h.watch (end.Undecoded at fault) h.ends)

pub is_found : (v : Version) (limit max : ℕ) (bytes : List ℕ) (seen : Seen) (e : End) → HasEnded v limit max bytes seen e
    → IsFound v max limit bytes (record { seen = seen; end = e })
is_found v limit max bytes seen end.Whole h = absurd h
is_found v limit max bytes seen (end.Ended b) h = h
is_found v limit max bytes seen (end.Unframed at fault) h = h
is_found v limit max bytes seen (end.Unsaid at fault) h = h
is_found v limit max bytes seen (end.Undecoded at fault) h = h

-- ---- a piece is fed

module _ (max : ℕ) (bytes piece : List ℕ) (d mid : Deframed) (n : ℕ) (f : IsFramed max bytes d) (max_is : d.max ≡ max)
    (fed : IsFed d piece (Ok n) mid) where
  pub mid_max : mid.max ≡ max
  mid_max = ap (λ (m : Deframed). m.max) fed.2 ∙ max_is

  pub mid_first : mid.done ≡ false
  mid_first = ap (λ (m : Deframed). m.done) fed.2 ∙ f.first

  mid_sound : mid.fault ≡ None
  mid_sound = ap (λ (m : Deframed). m.fault) fed.2 ∙ f.sound

  pub mid_held : mid.held ≡ d.held ++ take n piece
  mid_held = ap (λ (m : Deframed). m.held) fed.2

  come : bytes ++ take n piece ≡ wire.frames f.fs ++ mid.held
  come = ap (λ xs. xs ++ take n piece) f.whole ∙ append_assoc (wire.frames f.fs) d.held (take n piece)
      ∙ ap (λ (xs : List ℕ). wire.frames f.fs ++ xs) (sym mid_held)

  pub waits_framed : Waits mid → IsFramed max (bytes ++ take n piece) mid
  waits_framed waits = record {
    fs = f.fs;
    whole = come;
    each = f.each;
    none = f.none;
    partial = subst (λ m. wire.IsPartial m mid.held) mid_max waits.partial;
    first = mid_first;
    sound = mid_sound;
  }

  pub all_frames : (frame : wire.Frame) → Stands mid frame → bytes ++ take n piece ≡ wire.frames (f.fs ++ frame ∷ [])
  all_frames frame stands = come ∙ ap (λ (xs : List ℕ). wire.frames f.fs ++ xs) stands.whole ∙ sym (frames_push f.fs frame)

  pub data_framed : (payload : List ℕ) (rel : Deframed) → Stands mid (wire.CopyData payload)
      → rel ≡ after_release mid (wire.CopyData payload) → IsFramed max (bytes ++ take n piece) rel
  data_framed payload rel stands is =
      let none : rel.held ≡ [] = ap (λ (m : Deframed). m.held) is in
      let all = wire.frames (f.fs ++ wire.CopyData payload ∷ []) in
      record {
        fs = f.fs ++ wire.CopyData payload ∷ [];
        whole = all_frames (wire.CopyData payload) stands ∙ sym (append-nil all) ∙ ap (λ (xs : List ℕ). all ++ xs) (sym none);
        each = each_push max f.fs payload f.each f.none (subst (λ m. wire.IsAllowed m (wire.CopyData payload)) mid_max stands.allowed);
        none = none_push f.fs payload f.none;
        partial = nothing_partial max rel.held none;
        first = ap (λ (m : Deframed). m.done) is;
        sound = ap (λ (m : Deframed). m.fault) is ∙ mid_sound;
      }

  pub done_frames : wire.AreFrames max (f.fs ++ wire.CopyDone ∷ [])
  done_frames = each_done max f.fs f.each f.none

-- ---- the watch goes on, or ends

module _ (v : Version) (limit max : ℕ) (bytes : List ℕ) (d : Deframed) (w : Watch) (seen : Seen) (at came : ℕ)
    (u : IsGoing v limit max bytes d w seen at came) where
  -- the next frame isn't whole yet, or can't be told
  pub found_going : wire.IsPartial max d.held → IsFound v max limit bytes (record { seen = seen; end = end.Whole })
  found_going partial = record {
    fs = u.fs;
    done = false;
    rest = d.held;
    watch = w;
    is = u.is;
    seen = u.seen_is;
    ends = (partial, λ e. absurd (true≢false (sym e)));
  }

  pub found_lost : (part : List ℕ) (fault : WireFault)
      → (fault ≢ wire_fault.Memory → wire.IsFramingFault max false (d.held ++ part) fault)
      → IsFound v max limit (bytes ++ part) (record { seen = seen; end = end.Unframed at fault })
  found_lost part fault breaks = record {
    fs = u.fs;
    done = false;
    rest = d.held ++ part;
    watch = w;
    is = heard_more v max limit bytes part u.fs false d.held w u.is;
    seen = u.seen_is;
    ends = (u.at_is, breaks);
  }

  -- more of the next frame has come
  pub waits_going : (part : List ℕ) (mid : Deframed) (came' : ℕ) → mid.held ≡ d.held ++ part → came' ≡ came + length part
      → IsGoing v limit max (bytes ++ part) mid w seen at came'
  waits_going part mid came' held count = record {
    fs = u.fs;
    is = subst (λ rest. IsHeard v max limit (bytes ++ part) u.fs false rest w) (sym held)
        (heard_more v max limit bytes part u.fs false d.held w u.is);
    seen_is = u.seen_is;
    watched = u.watched;
    at_is = u.at_is;
    came_is = omega (arith, count, u.came_is, length-append bytes part);
  }

  module _ (part : List ℕ) (mid : Deframed) (frame : wire.Frame) (held : mid.held ≡ d.held ++ part) (stands : Stands mid frame)
      (mid_max_is : mid.max ≡ max) where
    all_come : bytes ++ part ≡ whole_frames (sent_of u.fs) false ++ wire.frame frame
    all_come =
        (heard_more v max limit bytes part u.fs false d.held w u.is).whole
        ∙ ap (λ (xs : List ℕ). whole_frames (sent_of u.fs) false ++ xs) (sym held ∙ stands.whole)

    plain : whole_frames (sent_of u.fs) false ≡ wire.frames (frames_of (sent_of u.fs))
    plain = ap wire.frames (append-nil (frames_of (sent_of u.fs)))

    each_is : wire.AreFrames max (frames_of (sent_of u.fs))
    each_is = subst (wire.AreFrames max) (append-nil (frames_of (sent_of u.fs))) u.is.each

    -- the watch ends with the frame
    pub found_end : (e : End) → EndsAtFrame w at frame e → HasEnded v limit max (bytes ++ part) seen e
    found_end e ends = go e ends
      where
        next : (x : End) → EndsAtFrame w at frame x → EndsNext max (sent_of u.fs) false (d.held ++ part) w x
        next x h = record {
          frame = frame;
          later = [];
          next = sym held ∙ stands.whole ∙ sym (append-nil (wire.frame frame));
          allowed = subst (λ m. wire.IsAllowed m frame) mid_max_is stands.allowed;
          ends = subst (λ k. EndsAtFrame w k frame x) u.at_is h;
        }

        found : (x : End) → Ends max (sent_of u.fs) false (d.held ++ part) w x
            → IsFound v max limit (bytes ++ part) (record { seen = seen; end = x })
        found x ends = record {
          fs = u.fs;
          done = false;
          rest = d.held ++ part;
          watch = w;
          is = heard_more v max limit bytes part u.fs false d.held w u.is;
          seen = u.seen_is;
          ends = ends;
        }

        go : (x : End) → EndsAtFrame w at frame x → HasEnded v limit max (bytes ++ part) seen x
        go end.Whole h = absurd h
        go (end.Ended b) h = found (end.Ended b) (next (end.Ended b) h)
        go (end.Unframed k fault) h = absurd h
        go (end.Unsaid k fault) h = found (end.Unsaid k fault) (next (end.Unsaid k fault) h)
        go (end.Undecoded k fault) h = found (end.Undecoded k fault) (next (end.Undecoded k fault) h)

    -- CopyDone was heard
    pub found_done : frame ≡ wire.CopyDone → IsFound v max limit (bytes ++ part) (record { seen = seen; end = end.Whole })
    found_done is = record {
      fs = u.fs;
      done = true;
      rest = [];
      watch = w;
      is = record {
        whole = all_come ∙ ap (λ (xs : List ℕ). xs ++ wire.frame frame) plain
            ∙ ap (λ (x : wire.Frame). wire.frames (frames_of (sent_of u.fs)) ++ wire.frame x) is
            ∙ sym (frames_push (frames_of (sent_of u.fs)) wire.CopyDone)
            ∙ sym (append-nil (whole_frames (sent_of u.fs) true));
        each = each_done max (frames_of (sent_of u.fs)) each_is (none_sent (sent_of u.fs));
        fits = u.is.fits;
        decoded = u.is.decoded;
        placed = u.is.placed;
        heard = u.is.heard;
      };
      seen = u.seen_is;
      ends = (nothing_partial max [] refl, λ e. refl);
    }

    -- a message or a keepalive was heard
    module _ (s : Sent) (w' : Watch) (seen' : Seen) (came' : ℕ) (rel : Deframed) (most : max ≤ 2147483643) (says : Says w frame s)
        (heard : hear w (heard_of at s) ≡ Ok w') (seen_is : seen' ≡ with_sent seen s) (count : came' ≡ came + length part)
        (empty : rel.held ≡ []) where
      fs' : List Framed
      fs' = u.fs ++ framed at s ∷ []

      sent_is : sent_of fs' ≡ sent_of u.fs ++ s ∷ []
      unfolding fs'
      sent_is = sent_push u.fs at s

      frames_are : frames_of (sent_of fs') ++ [] ≡ frames_of (sent_of u.fs) ++ frame ∷ []
      unfolding fs'
      frames_are =
          append-nil (frames_of (sent_of fs')) ∙ ap frames_of sent_is ∙ map-append frame_of (sent_of u.fs) (s ∷ [])
          ∙ ap (λ f. frames_of (sent_of u.fs) ++ f ∷ []) (sym says.0)

      whole_is : bytes ++ part ≡ whole_frames (sent_of fs') false
      unfolding fs'
      whole_is =
          all_come ∙ ap (λ (xs : List ℕ). xs ++ wire.frame frame) plain ∙ sym (frames_push (frames_of (sent_of u.fs)) frame)
          ∙ ap wire.frames (sym frames_are)

      allowed_is : wire.IsAllowed max frame
      allowed_is = subst (λ m. wire.IsAllowed m frame) mid_max_is stands.allowed

      each_now : wire.AreFrames max (frames_of (sent_of fs') ++ [])
      unfolding fs'
      each_now =
          subst (wire.AreFrames max) (sym (frames_are ∙ ap (λ f. frames_of (sent_of u.fs) ++ f ∷ []) says.0))
          (each_push max (frames_of (sent_of u.fs)) _ each_is (none_sent (sent_of u.fs))
          (subst (wire.IsAllowed max) says.0 allowed_is))

      pub sent_going : IsGoing v limit max (bytes ++ part) rel w' seen' came' came'
      unfolding fs'
      sent_going = record {
        fs = fs';
        is = record {
          whole = whole_is ∙ sym (append-nil (whole_frames (sent_of fs') false))
              ∙ ap (λ (xs : List ℕ). whole_frames (sent_of fs') false ++ xs) (sym empty);
          each = each_now;
          fits = subst (AllByRecursion IsWireSent) (sym sent_is) (all_push IsWireSent (sent_of u.fs) s u.is.fits
              (says.1 (allowed_within max frame most allowed_is)));
          decoded = decoded_push v 0 limit u.fs w w' at s u.is.decoded u.is.heard says.2 heard;
          placed = placed_push u.fs 0 at s u.is.placed (omega (arith, u.at_is, ap (λ (xs : List ℕ). length xs) plain));
          heard = heard_push u.fs (at_start v 0 limit) w w' at s u.is.heard heard;
        };
        seen_is = seen_is ∙ ap (λ x. with_sent x s) u.seen_is
            ∙ sym (ap (seen_after nothing_seen) sent_is ∙ seen_push nothing_seen (sent_of u.fs) s);
        watched = still_watched w w' (heard_of at s) heard ∙ u.watched;
        at_is = omega (arith, count, u.came_is, length-append bytes part, ap (λ (xs : List ℕ). length xs) whole_is);
        came_is = omega (arith, count, u.came_is, length-append bytes part);
      }
