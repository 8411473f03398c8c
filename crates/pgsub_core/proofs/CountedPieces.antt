-- How many changes that find no row are counted of a piece, frame by frame.
use Rattle.std.proofs.Common.{◌≡◌, ◌≤◌, ◌+◌, inl, inr, ℕ, ℤ, List, [], ◌∷◌, ◌++◌, Bool, None, Ok}
use Rattle.std.proofs.Common.{length, take, drop, refl, sym, ap, subst, ◌∙◌, append_assoc}
use Rattle.std.proofs.Common.{append-nil}
use Rattle.std.proofs.Math.Seq.{take-add}
use Rattle.std.proofs.lemmas.List.{length-take-le, take-append-drop}
use Rattle.pgwire.specs.Frames.{Frame, frames, IsDeframedAs}
use Rattle.pgwire.specs.Deframed.{Deframed, Stands, Waits, IsFed, after_release}
use Rattle.pgwire.specs.Calls.{Feed, Release, Leads}
use Rattle.pgwire.specs.declared.fault.WireFault.{WireFault}
use Rattle.pgwire.proofs.Runs.{counted, frames_of_the_bytes}
use Rattle.std.specs.Prelude.{Option}
use Rattle.pgapply.specs.Tallies.{Tally}
use Rattle.pgapply.specs.Value.{Tables}
use Rattle.pgsub_core.specs.declared.fault.Fault.{Fault}
use Rattle.pgsub_core.specs.Machine.Replica.{Outcome, Running, Stopped, then_run}
use Rattle.pgsub_core.specs.Subscriber.Subscribed.{Subscribed}
use Rattle.pgsub_core.specs.Machine.Taking.{take_frame, take_frames}
use Rattle.pgsub_core.specs.Machine.Feeding.{done_frames}
use Rattle.pgsub_core.specs.Subscriber.Applied.{Applied, subscribed}
use Rattle.pgsub_core.specs.Calls.Framing.{framing_behind, framing_of, done_of, Releases, FramesGo}
use Rattle.pgsub_core.specs.Subscriber.SubscriberValue.{SubscriberValue}
use Rattle.pgsub_core.specs.Machine.Counted.{frame_counted, counted_behind, frames_counted}
use Rattle.pgsub_core.specs.Machine.Counted.{CountsBy, IsCountedWhole, IsCountedFront, IsCountedTo}
use Rattle.pgsub_core.specs.Machine.Counted.{FeedCounts, FeedCountsFront, FeedsCounted}
use Rattle.pgsub_core.specs.Machine.Counted.{FeedsCountedFront}
use Rattle.pgsub_core.proofs.FeedSteps.{take_whole, one_done, goes_then, waiting_leads, deframed}
use Rattle.pgsub_core.proofs.FeedSteps.{stands_or_waits, released_waits}

-- ---- one frame more

behind_same : (o : Outcome Subscribed Fault) (m : Tally) → counted_behind o (λ next. m) m ≡ m
behind_same (Running next) m = refl
behind_same (Stopped s fault) m = refl

behind_more : (now : ℤ) (gs : List Frame) (f : Frame) (s' : Subscribed) (m : Tally) (o : Outcome Subscribed Fault)
    → ((next : Subscribed) → take_frames now next gs ≡ Running s'
    → frames_counted now next (gs ++ f ∷ []) m ≡ frame_counted s' f (frames_counted now next gs m))
    → then_run o (λ next. take_frames now next gs) ≡ Running s'
    → counted_behind o (λ next. frames_counted now next (gs ++ f ∷ []) m) m
    ≡ frame_counted s' f (counted_behind o (λ next. frames_counted now next gs m) m)
behind_more now gs f s' m (Running next) more h = more next h
behind_more now gs f s' m (Stopped x fault) more h = absurd (let bad : Stopped x fault ≡ Running s' = h in cc)

pub frames_then : (now : ℤ) (fs : List Frame) (s : Subscribed) (f : Frame) (s' : Subscribed) (m : Tally)
    → take_frames now s fs ≡ Running s' → frames_counted now s (fs ++ f ∷ []) m ≡ frame_counted s' f (frames_counted now s fs m)
frames_then now [] s f s' m h =
    behind_same (take_frame now s f) (frame_counted s f m) ∙ ap (λ (x : Subscribed). frame_counted x f m) (let same : s ≡ s' = cc in same)
frames_then now (g ∷ gs) s f s' m h =
    behind_more now gs f s' (frame_counted s g m) (take_frame now s g)
    (λ next more. frames_then now gs next f s' (frame_counted s g m) more) h

module _ {C : Type 0} (serves : C → Type 0) (holds : C → Tables → Type 0) (place : C → ℕ) (count : C → Tally) (now : ℤ) where
  pub counts_then : (fs : List Frame) (f : Frame) (a₀ a a' : Applied C) → FramesGo holds place now fs a₀ a
      → CountsBy holds place count (λ s. frames_counted now s fs) a₀ a → CountsBy holds place count (λ s. frame_counted s f) a a'
      → CountsBy holds place count (λ s. frames_counted now s (fs ++ f ∷ [])) a₀ a'
  counts_then fs f a₀ a a' goes first next framing tables h =
      let one = goes framing tables h in
      let mid = subscribed place (framing_behind fs framing) a one.0 in
      next (framing_behind fs framing) one.0 one.1 ∙ ap (frame_counted mid f) (first framing tables h)
      ∙ sym (frames_then now fs (subscribed place framing a₀ tables) f mid (count a₀.store) one.2)

  -- ---- a piece

  pub counted_start : (d₀ d : Deframed) (a₀ : Applied C) (piece : List ℕ) (n : ℕ) → Waits d₀ → d₀.fault ≡ None → IsFed d₀ piece (Ok n) d
      → IsCountedTo holds place count now serves d₀ a₀ piece d a₀ n
  counted_start d₀ d a₀ piece n waits none fed =
      let is : d₀ ≡ deframed d₀.max d₀.held d₀.done d₀.room =
      ap (λ (f : Option WireFault). let same : Deframed = record d₀ { fault = f } in same) none in
      let leads = waiting_leads d₀.max d₀.held d₀.done d₀ is waits waits.last in
      record {
        to = record {
          calls = Feed piece (Ok n) ∷ leads.0;
          fs = [];
          leads = (
            frames (done_of d₀) ++ d₀.held,
            d₀,
            subst (λ fs. Leads d₀.max leads.0 (frames (done_of d₀) ++ d₀.held) fs d₀) (sym (append-nil (done_of d₀))) leads.1,
            fed,
            sym (append_assoc (frames (done_of d₀)) d₀.held (take n piece)),
          );
          max = ap (λ (x : Deframed). x.max) fed.2;
          goes = λ own framing tables h. (tables, h, refl);
        };
        counts = λ own framing tables h. refl;
      }

  module _ (d₀ d d' : Deframed) (a₀ a a' : Applied C) (piece : List ℕ) (taken : ℕ)
      (k : IsCountedTo holds place count now serves d₀ a₀ piece d a taken) (takes : Releases d d')
      (served : serves a'.store → serves a.store)
      (next : serves a'.store → (f : Frame) → Stands d f → FramesGo holds place now (f ∷ []) a a')
      (counts : serves a'.store → (f : Frame) → Stands d f → CountsBy holds place count (λ s. frame_counted s f) a a') where
    abbrev f : Frame
    f = takes.frame

    released : d' ≡ after_release d f
    released = takes.released ∙ ap (λ (b : Bool). let same : Deframed = record d { held = []; done = b } in same) (one_done f)

    counts_more : serves a'.store → CountsBy holds place count (λ s. frames_counted now s (k.to.fs ++ f ∷ [])) a₀ a'
    counts_more own = counts_then k.to.fs f a₀ a a' (k.to.goes (served own)) (k.counts (served own)) (counts own f takes.stood)

    pub counted_one : (d'' : Deframed) (n : ℕ) → IsFed d' (drop taken piece) (Ok n) d''
        → IsCountedTo holds place count now serves d₀ a₀ piece d'' a' (taken + n)
    counted_one d'' n fed = record {
      to = record {
        calls = Feed (drop taken piece) (Ok n) ∷ Release ∷ k.to.calls;
        fs = k.to.fs ++ f ∷ [];
        leads = (
          frames (done_of d₀) ++ (d₀.held ++ take taken piece),
          d',
          (done_of d₀ ++ k.to.fs, d, k.to.leads, inl (f, takes.stood, released, sym (append_assoc (done_of d₀) k.to.fs (f ∷ [])))),
          fed,
          ap (λ bytes. frames (done_of d₀) ++ bytes)
              (ap (λ bytes. d₀.held ++ bytes) (take-add taken n piece)
              ∙ sym (append_assoc d₀.held (take taken piece) (take n (drop taken piece))))
              ∙ sym (append_assoc (frames (done_of d₀)) (d₀.held ++ take taken piece) (take n (drop taken piece))),
        );
        max = ap (λ (x : Deframed). x.max) fed.2 ∙ ap (λ (x : Deframed). x.max) takes.released ∙ k.to.max;
        goes = λ own. goes_then serves holds place now k.to.fs f a₀ a a' (k.to.goes (served own)) (next own f takes.stood);
      };
      counts = counts_more;
    }

    pub counted_released : IsCountedTo holds place count now serves d₀ a₀ piece d' a' taken
    counted_released = record {
      to = record {
        calls = Release ∷ k.to.calls;
        fs = k.to.fs ++ f ∷ [];
        leads = (done_of d₀ ++ k.to.fs, d, k.to.leads, inl (f, takes.stood, released, sym (append_assoc (done_of d₀) k.to.fs (f ∷ []))));
        max = ap (λ (x : Deframed). x.max) takes.released ∙ k.to.max;
        goes = λ own. goes_then serves holds place now k.to.fs f a₀ a a' (k.to.goes (served own)) (next own f takes.stood);
      };
      counts = counts_more;
    }

    -- the session has ended with the frame
    ended_to : taken ≤ length piece → IsCountedTo holds place count now serves d₀ a₀ (take taken piece) d' a' taken
    ended_to within = record {
      to = record {
        calls = Release ∷ k.to.calls;
        fs = k.to.fs ++ f ∷ [];
        leads = (
          done_of d₀ ++ k.to.fs,
          d,
          subst (λ (p : List ℕ). Leads d₀.max k.to.calls (frames (done_of d₀) ++ (d₀.held ++ p)) (done_of d₀ ++ k.to.fs) d)
              (sym (take_whole (take taken piece) taken (sym (length-take-le taken piece within)))) k.to.leads,
          inl (f, takes.stood, released, sym (append_assoc (done_of d₀) k.to.fs (f ∷ []))),
        );
        max = ap (λ (x : Deframed). x.max) takes.released ∙ k.to.max;
        goes = λ own. goes_then serves holds place now k.to.fs f a₀ a a' (k.to.goes (served own)) (next own f takes.stood);
      };
      counts = counts_more;
    }

  -- all of the piece was taken
  pub counted_whole : (d₀ d : Deframed) (a₀ a : Applied C) (piece : List ℕ) (taken : ℕ)
      → IsCountedTo holds place count now serves d₀ a₀ piece d a taken → Waits d → taken ≡ length piece → serves a.store
      → FeedCounts holds place count now d₀ a₀ piece a.store
  counted_whole d₀ d a₀ a piece taken k waits all own closed tables h =
      let bytes = frames (done_of d₀) ++ (d₀.held ++ take taken piece) in
      let read : IsDeframedAs d₀.max bytes (done_of d₀ ++ k.to.fs) d.held =
      elim (frames_of_the_bytes d₀.max k.to.calls bytes (done_of d₀ ++ k.to.fs) d k.to.leads) [
        | inl stands ↦ absurd (stands_or_waits d stands.0 stands.1 waits)
        | inr ends ↦ ends.1
      ] in
      let done = k.to.goes own (framing_of d₀ closed) tables h in record {
        fs = k.to.fs;
        rest = d.held;
        state = subscribed place (framing_behind k.to.fs (framing_of d₀ closed)) a done.0;
        takes = done.2;
        stands = refl;
        deframed = subst (λ (p : List ℕ). IsDeframedAs d₀.max (frames (done_of d₀) ++ (d₀.held ++ p)) (done_of d₀ ++ k.to.fs) d.held)
            (take_whole piece taken all) read;
        counts = k.counts own (framing_of d₀ closed) tables h;
      }

  pub counted_front : (d₀ d d' : Deframed) (a₀ a a' : Applied C) (piece : List ℕ) (taken : ℕ)
      → IsCountedTo holds place count now serves d₀ a₀ piece d a taken → taken ≤ length piece → Releases d d'
      → (serves a'.store → serves a.store)
      → (serves a'.store → (f : Frame) → Stands d f → FramesGo holds place now (f ∷ []) a a')
      → (serves a'.store → (f : Frame) → Stands d f → CountsBy holds place count (λ s. frame_counted s f) a a') → serves a'.store
      → FeedCounts holds place count now d₀ a₀ (take taken piece) a'.store
  counted_front d₀ d d' a₀ a a' piece taken k within takes served next counts own =
      counted_whole d₀ d' a₀ a' (take taken piece) taken (ended_to d₀ d d' a₀ a a' piece taken k takes served next counts within)
      (released_waits d d' takes) (sym (length-take-le taken piece within)) own

  -- ---- where it stops

  pub counted_zero : (d₀ : Deframed) (a₀ : Applied C) (piece : List ℕ) → Waits d₀ → d₀.fault ≡ None
      → IsCountedTo holds place count now serves d₀ a₀ piece d₀ a₀ 0
  counted_zero d₀ a₀ piece waits none =
      let is : d₀ ≡ deframed d₀.max d₀.held d₀.done d₀.room =
      ap (λ (f : Option WireFault). let same : Deframed = record d₀ { fault = f } in same) none in
      let leads = waiting_leads d₀.max d₀.held d₀.done d₀ is waits waits.last in
      record {
        to = record {
          calls = leads.0;
          fs = [];
          leads = subst (λ bytes. Leads d₀.max leads.0 (frames (done_of d₀) ++ bytes) (done_of d₀ ++ []) d₀) (sym (append-nil d₀.held))
              (subst (λ fs. Leads d₀.max leads.0 (frames (done_of d₀) ++ d₀.held) fs d₀) (sym (append-nil (done_of d₀))) leads.1);
          max = refl;
          goes = λ own framing tables h. (tables, h, refl);
        };
        counts = λ own framing tables h. refl;
      }

  pub counted_stops : (d₀ d : Deframed) (a₀ a : Applied C) (new : C) (piece : List ℕ) (taken : ℕ)
      → IsCountedTo holds place count now serves d₀ a₀ piece d a taken → serves a.store → place new ≡ place a.store
      → count new ≡ count a.store
      → FeedCountsFront holds place count now d₀ a₀ piece new
  counted_stops d₀ d a₀ a new piece taken k own at same closed tables h =
      let bytes = frames (done_of d₀) ++ (d₀.held ++ take taken piece) in
      let is = counted d₀.max k.to.calls bytes (done_of d₀ ++ k.to.fs) d k.to.leads in
      let done = k.to.goes own (framing_of d₀ closed) tables h in
      record {
        fs = k.to.fs;
        rest = d.held ++ drop taken piece;
        state = subscribed place (framing_behind k.to.fs (framing_of d₀ closed)) a done.0;
        whole = ap (λ p. frames (done_of d₀) ++ (d₀.held ++ p)) (sym (take-append-drop taken piece))
            ∙ ap (λ p. frames (done_of d₀) ++ p) (sym (append_assoc d₀.held (take taken piece) (drop taken piece)))
            ∙ sym (append_assoc (frames (done_of d₀)) (d₀.held ++ take taken piece) (drop taken piece))
            ∙ ap (λ p. p ++ drop taken piece) is.whole
            ∙ append_assoc (frames (done_of d₀ ++ k.to.fs)) d.held (drop taken piece);
        each = is.each;
        takes = done.2;
        stands = at;
        counts = same ∙ k.counts own (framing_of d₀ closed) tables h;
      }

-- all that was counted of a piece is a front of itself
pub is_front : (now : ℤ) (old : Subscribed) (piece : List ℕ) (position : ℕ) (before behind : Tally)
    → IsCountedWhole now old piece position before behind → IsCountedFront now old piece position before behind
is_front now old piece position before behind w =
    record {
      fs = w.fs;
      rest = w.rest;
      state = w.state;
      whole = w.deframed.whole;
      each = w.deframed.each;
      takes = w.takes;
      stands = w.stands;
      counts = w.counts;
    }

-- all that was counted of a front of a piece
pub whole_front : (now : ℤ) (old : Subscribed) (piece : List ℕ) (n position : ℕ) (before behind : Tally)
    → IsCountedWhole now old (take n piece) position before behind → IsCountedFront now old piece position before behind
whole_front now old piece n position before behind w = record {
  fs = w.fs;
  rest = w.rest ++ drop n piece;
  state = w.state;
  whole = ap (λ p. frames (done_frames old) ++ (old.partial ++ p)) (sym (take-append-drop n piece))
      ∙ ap (λ p. frames (done_frames old) ++ p) (sym (append_assoc old.partial (take n piece) (drop n piece)))
      ∙ sym (append_assoc (frames (done_frames old)) (old.partial ++ take n piece) (drop n piece))
      ∙ ap (λ p. p ++ drop n piece) w.deframed.whole
      ∙ append_assoc (frames (done_frames old ++ w.fs)) w.rest (drop n piece);
  each = w.deframed.each;
  takes = w.takes;
  stands = w.stands;
  counts = w.counts;
}

-- a piece that was fed to its parts
pub feeds_counted : {C : Type 0} (holds : C → Tables → Type 0) (place : C → ℕ) (count : C → Tally) (now : ℤ) (piece : List ℕ)
    (d₀ : Deframed) (a₀ : Applied C) (closed : Bool) (old new : SubscriberValue C)
    → record { applied = a₀; framing = framing_of d₀ closed } ≡ old → FeedCounts holds place count now d₀ a₀ piece new.applied.store
    → FeedsCounted holds place count now old piece new
feeds_counted {C} holds place count now piece d₀ a₀ closed old new same fed =
    subst (λ (x : SubscriberValue C). FeedsCounted holds place count now x piece new) same (λ tables h. fed closed tables h)

pub feeds_counted_front : {C : Type 0} (holds : C → Tables → Type 0) (place : C → ℕ) (count : C → Tally) (now : ℤ) (piece : List ℕ)
    (d₀ : Deframed) (a₀ : Applied C) (closed : Bool) (old new : SubscriberValue C)
    → record { applied = a₀; framing = framing_of d₀ closed } ≡ old → FeedCountsFront holds place count now d₀ a₀ piece new.applied.store
    → FeedsCountedFront holds place count now old piece new
feeds_counted_front {C} holds place count now piece d₀ a₀ closed old new same fed =
    subst (λ (x : SubscriberValue C). FeedsCountedFront holds place count now x piece new) same (λ tables h. fed closed tables h)
