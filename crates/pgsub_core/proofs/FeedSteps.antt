-- A piece of a session's bytes, frame by frame.
use Rattle.std.proofs.Common.{◌≡◌, ◌<◌, ◌≤◌, ◌+◌, ◌-◌, inl, inr, zero, suc, ℕ, ℤ, List, [], ◌∷◌}
use Rattle.std.proofs.Common.{◌++◌, Bool, true, false, ◌||◌, cond, Option, None, Ok, length, take}
use Rattle.std.proofs.Common.{drop, refl, sym, ap, subst, ◌∙◌, arith, append_assoc, append-nil}
use Rattle.std.proofs.Common.{length-drop}
use Rattle.std.proofs.Math.Seq.{take-add, take-length}
use Rattle.std.proofs.lemmas.List.{length-take-le}
use Rattle.pgwire.specs.declared.fault.WireFault.{WireFault}
use Rattle.pgwire.specs.Frames as wire
use Rattle.pgwire.specs.Frames.{Frame, CopyData, CopyDone, frames, has_copy_done, IsDeframedAs}
use Rattle.pgwire.specs.Frames.{IsPartial, IsAllowed}
use Rattle.pgwire.specs.Deframed.{Deframed, fresh, Stands, Waits, IsFed, is_copy_done}
use Rattle.pgwire.specs.Deframed.{after_release}
use Rattle.pgwire.specs.Calls.{Call, Feed, Release, Leads}
use Rattle.pgwire.proofs.Runs.{frames_of_the_bytes}
use Rattle.pgwire.proofs.Readings.{partial_is_short, two_readings}
use Rattle.pgapply.specs.Value.{Tables}
use Rattle.pgsub_core.specs.declared.fault.Fault.{Fault}
use Rattle.pgsub_core.specs.Machine.Replica.{Outcome, Running, then_run}
use Rattle.pgsub_core.specs.Subscriber.Subscribed.{Subscribed}
use Rattle.pgsub_core.specs.Machine.Taking.{take_frames}
use Rattle.pgsub_core.specs.Subscriber.Applied.{Applied, Framing, subscribed}
use Rattle.pgsub_core.specs.Calls.Framing.{framing_behind, framing_of, done_of, Releases, FramesGo}
use Rattle.pgsub_core.specs.Calls.Framing.{IsFedTo, FeedGoes}
use Rattle.pgsub_core.proofs.FedSessions.{take_frames-append}

pub take_whole : {A : Type 0} (xs : List A) (n : ℕ) → n ≡ length xs → take n xs ≡ xs
take_whole [] n h = rw h refl
take_whole (x ∷ xs) n h = rw h (ap (λ ys. x ∷ ys) (take_whole xs (length xs) refl))

-- a frame that stands whole isn't waited for
pub stands_or_waits : (d : Deframed) (f : Frame) → Stands d f → Waits d → ⊥
stands_or_waits d f stands waits =
    let short = partial_is_short d.max d.max f d.held [] [] stands.allowed waits.partial
    (append-nil d.held ∙ stands.whole ∙ sym (append-nil (wire.frame f))) in
    let same = ap length stands.whole in
    omega arith

pub one_done : (f : Frame) → has_copy_done (f ∷ []) ≡ is_copy_done f
one_done (CopyData bytes) = refl
one_done CopyDone = refl

true_last : (b : Bool) → (b || true) ≡ true
true_last true = refl
true_last false = refl

false_last : (b : Bool) → (b || false) ≡ b
false_last true = refl
false_last false = refl

done_both : (fs : List Frame) (f : Frame) (c : Bool)
    → (has_copy_done (fs ++ f ∷ []) || c) ≡ (has_copy_done (f ∷ []) || (has_copy_done fs || c))
done_both [] f c = refl
done_both (CopyData bytes ∷ fs) f c = done_both fs f c
done_both (CopyDone ∷ fs) f c = sym (true_last (has_copy_done (f ∷ [])))

-- some bytes are taken, where there are any
pub some_taken : (d d' : Deframed) (piece : List ℕ) (n : ℕ) → Waits d → IsFed d piece (Ok n) d' → 0 < length piece → 0 < n
some_taken d d' piece (suc n) waits fed some = omega arith
some_taken d d' piece zero waits fed some =
    elim fed.3 [
      | inl stands ↦ absurd (stands_or_waits d stands.0 (record {
        allowed = subst (λ m. IsAllowed m stands.0) (ap (λ (x : Deframed). x.max) fed.2) stands.1.allowed;
        whole = sym (ap (λ (x : Deframed). x.held) fed.2 ∙ append-nil d.held) ∙ stands.1.whole;
        first = sym (ap (λ (x : Deframed). x.done) fed.2) ∙ stands.1.first;
        fault = sym (ap (λ (x : Deframed). x.fault) fed.2) ∙ stands.1.fault;
      }) waits)
      | inr ends ↦ (let none = ends.0 in omega (arith, none, some))
    ]

-- nothing is held behind a frame
pub released_waits : (d d' : Deframed) → Releases d d' → Waits d'
released_waits d d' takes =
    subst Waits (sym takes.released)
    (record { partial = record { tag = λ some. absurd (omega arith); payload = λ long. absurd (omega arith) }; last = λ e. refl })

-- whether CopyDone has come, one frame further
done_more : (d₀ d d' : Deframed) (fs : List Frame) (takes : Releases d d') → d.done ≡ (has_copy_done fs || d₀.done)
    → d'.done ≡ (has_copy_done (fs ++ takes.frame ∷ []) || d₀.done)
done_more d₀ d d' fs takes so =
    let f = takes.frame in
    let before : (has_copy_done fs || d₀.done) ≡ false = sym so ∙ takes.stood.first in
    ap (λ (x : Deframed). x.done) takes.released ∙ sym (false_last (has_copy_done (f ∷ [])))
    ∙ ap (λ (b : Bool). has_copy_done (f ∷ []) || b) (sym before) ∙ sym (done_both fs f d₀.done)

-- ---- from where a deframer waits

abbrev pub deframed : ℕ → List ℕ → Bool → ℕ → Deframed
deframed max held done room = record { max = max; held = held; done = done; fault = None; room = room }

abbrev if_done : Bool → List Frame
if_done b = cond b (CopyDone ∷ []) []

abbrev copy_done_whole : ℕ → ℕ → Deframed
copy_done_whole max room = deframed max (wire.frame CopyDone) false room

whole_copy_done : (max room : ℕ) → Stands (copy_done_whole max room) CopyDone
whole_copy_done max room = record { allowed = tt; whole = refl; first = refl; fault = refl }

pub waiting_leads : (max : ℕ) (held : List ℕ) (done : Bool) (d : Deframed) → d ≡ deframed max held done d.room → Waits d
    → (done ≡ true → held ≡ []) → (calls : List Call) × Leads max calls (frames (if_done done) ++ held) (if_done done) d
waiting_leads max held false d is waits last = (
  Feed held (Ok (length held)) ∷ [],
  (
    [],
    fresh max,
    (refl, refl, refl),
    (refl, omega arith, is ∙ ap (λ (h : List ℕ). deframed max h false d.room) (sym (take-length held)), inr (refl, waits)),
    sym (take-length held),
  ),
)
waiting_leads max held true d is waits last = (
  Release ∷ Feed (wire.frame CopyDone) (Ok 5) ∷ [],
  (
    [],
    copy_done_whole max d.room,
    ([], fresh max, (refl, refl, refl), (refl, omega arith, refl, inl (CopyDone, whole_copy_done max d.room)), rw (last refl) refl),
    inl (CopyDone, whole_copy_done max d.room, is ∙ ap (λ (h : List ℕ). deframed max h true d.room) (last refl), refl),
  ),
)

module _ {C : Type 0} (serves : C → Type 0) (holds : C → Tables → Type 0) (place : C → ℕ) (now : ℤ) where
  -- the first bytes of a piece
  pub fed_start : (d₀ d : Deframed) (a₀ : Applied C) (piece : List ℕ) (n : ℕ) → Waits d₀ → d₀.fault ≡ None → IsFed d₀ piece (Ok n) d
      → IsFedTo holds place now serves d₀ a₀ piece d a₀ n
  fed_start d₀ d a₀ piece n waits none fed =
      let is : d₀ ≡ deframed d₀.max d₀.held d₀.done d₀.room =
      ap (λ (f : Option WireFault). let same : Deframed = record d₀ { fault = f } in same) none in
      let leads = waiting_leads d₀.max d₀.held d₀.done d₀ is waits waits.last in
      record {
        calls = Feed piece (Ok n) ∷ leads.0;
        fs = [];
        leads = (
          frames (done_of d₀) ++ d₀.held,
          d₀,
          subst (λ fs. Leads d₀.max leads.0 (frames (done_of d₀) ++ d₀.held) fs d₀) (sym (append-nil (done_of d₀))) leads.1,
          fed,
          sym (append_assoc (frames (done_of d₀)) d₀.held (take n piece)),
        );
        within = fed.1;
        fault = ap (λ (x : Deframed). x.fault) fed.2 ∙ none;
        max = ap (λ (x : Deframed). x.max) fed.2;
        copy_done = ap (λ (x : Deframed). x.done) fed.2;
        state = fed.3;
        goes = λ own framing tables h. (tables, h, refl);
      }

  pub goes_then : (fs : List Frame) (f : Frame) (a₀ a a' : Applied C) → FramesGo holds place now fs a₀ a
      → FramesGo holds place now (f ∷ []) a a' → FramesGo holds place now (fs ++ f ∷ []) a₀ a'
  goes_then fs f a₀ a a' first next framing tables h =
      let one = first framing tables h in
      let two = next (framing_behind fs framing) one.0 one.1 in (
        two.0,
        two.1,
        take_frames-append now fs (f ∷ []) (subscribed place framing a₀ tables)
            ∙ ap (λ (o : Outcome Subscribed Fault). then_run o (λ s. take_frames now s (f ∷ []))) one.2 ∙ two.2
            ∙ ap (λ (b : Bool). ends (record framing { copy_done = b }) two.0) (sym (done_both fs f framing.copy_done)),
      )
    where
      ends : Framing → Tables → Outcome Subscribed Fault
      ends framing tables = Running (subscribed place framing a' tables)

  -- one frame more, and the bytes behind it
  pub fed_one : (d₀ d d' d'' : Deframed) (a₀ a a' : Applied C) (piece : List ℕ) (taken n : ℕ)
      → IsFedTo holds place now serves d₀ a₀ piece d a taken → Releases d d' → (serves a'.store → serves a.store)
      → (serves a'.store → (f : Frame) → Stands d f → FramesGo holds place now (f ∷ []) a a') → IsFed d' (drop taken piece) (Ok n) d''
      → IsFedTo holds place now serves d₀ a₀ piece d'' a' (taken + n)
  fed_one d₀ d d' d'' a₀ a a' piece taken n to takes served next fed =
      let f = takes.frame in
      let released : d' ≡ after_release d f =
      takes.released ∙ ap (λ (b : Bool). let same : Deframed = record d { held = []; done = b } in same) (one_done f) in
      let rest : length (drop taken piece) + taken ≡ length piece = (let l = length-drop taken piece in let w = to.within in omega arith) in
      let own : n ≤ length (drop taken piece) = fed.1 in
      record {
        calls = Feed (drop taken piece) (Ok n) ∷ Release ∷ to.calls;
        fs = to.fs ++ f ∷ [];
        leads = (
          frames (done_of d₀) ++ (d₀.held ++ take taken piece),
          d',
          (done_of d₀ ++ to.fs, d, to.leads, inl (f, takes.stood, released, sym (append_assoc (done_of d₀) to.fs (f ∷ [])))),
          fed,
          ap (λ bytes. frames (done_of d₀) ++ bytes)
              (ap (λ bytes. d₀.held ++ bytes) (take-add taken n piece)
              ∙ sym (append_assoc d₀.held (take taken piece) (take n (drop taken piece))))
              ∙ sym (append_assoc (frames (done_of d₀)) (d₀.held ++ take taken piece) (take n (drop taken piece))),
        );
        within = omega arith;
        fault = ap (λ (x : Deframed). x.fault) fed.2 ∙ ap (λ (x : Deframed). x.fault) takes.released ∙ to.fault;
        max = ap (λ (x : Deframed). x.max) fed.2 ∙ ap (λ (x : Deframed). x.max) takes.released ∙ to.max;
        copy_done = ap (λ (x : Deframed). x.done) fed.2 ∙ done_more d₀ d d' to.fs takes to.copy_done;
        state = elim fed.3 [
          | inl stands ↦ inl stands
          | inr waits ↦ inr
              ((let l = waits.0 in let sum : taken + n ≡ length piece = omega arith in sum), waits.1)
        ];
        goes = λ own. goes_then to.fs f a₀ a a' (to.goes (served own)) (next own f takes.stood);
      }

  -- all of the piece was taken
  pub fed_whole : (d₀ d : Deframed) (a₀ a : Applied C) (piece : List ℕ) (taken : ℕ) → IsFedTo holds place now serves d₀ a₀ piece d a taken
      → Waits d → serves a.store → FeedGoes holds place now d₀ a₀ piece d a
  fed_whole d₀ d a₀ a piece taken to waits own closed tables h =
      let all : taken ≡ length piece =
      elim to.state [ inl stands ↦ absurd (stands_or_waits d stands.0 stands.1 waits) | inr ends ↦ ends.0 ] in
      let bytes = frames (done_of d₀) ++ (d₀.held ++ take taken piece) in
      let done = to.goes own (framing_of d₀ closed) tables h in
      let read : IsDeframedAs d₀.max bytes (done_of d₀ ++ to.fs) d.held =
      elim (frames_of_the_bytes d₀.max to.calls bytes (done_of d₀ ++ to.fs) d to.leads) [
        | inl stands ↦ absurd (stands_or_waits d stands.0 stands.1 waits)
        | inr ends ↦ ends.1
      ] in (
        done.0,
        done.1,
        record {
          fs = to.fs;
          rest = d.held;
          state = subscribed place (framing_behind to.fs (framing_of d₀ closed)) a done.0;
          deframed = subst (λ (p : List ℕ). IsDeframedAs d₀.max (frames (done_of d₀) ++ (d₀.held ++ p)) (done_of d₀ ++ to.fs) d.held)
              (take_whole piece taken all) read;
          takes = done.2;
          left = λ i. subscribed place (record { max_frame = to.max i; closed = closed; partial = d.held; copy_done = to.copy_done i }) a
              done.0;
        },
      )

  -- nothing behind the bytes that were taken has a say
  pub fed_to_front : (d₀ d : Deframed) (a₀ a : Applied C) (piece : List ℕ) (taken : ℕ)
      → IsFedTo holds place now serves d₀ a₀ piece d a taken → IsFedTo holds place now serves d₀ a₀ (take taken piece) d a taken
  fed_to_front d₀ d a₀ a piece taken to =
      let count : length (take taken piece) ≡ taken = length-take-le taken piece to.within in
      record {
        calls = to.calls;
        fs = to.fs;
        leads = subst (λ (p : List ℕ). Leads d₀.max to.calls (frames (done_of d₀) ++ (d₀.held ++ p)) (done_of d₀ ++ to.fs) d)
            (sym (take_whole (take taken piece) taken (sym count))) to.leads;
        within = omega (arith, count);
        fault = to.fault;
        max = to.max;
        copy_done = to.copy_done;
        state = elim to.state [ inl stands ↦ inl stands | inr waits ↦ inr (sym count, waits.1) ];
        goes = to.goes;
      }

  -- or the session has ended with a frame
  pub fed_front : (d₀ d d' : Deframed) (a₀ a a' : Applied C) (piece : List ℕ) (taken : ℕ)
      → IsFedTo holds place now serves d₀ a₀ piece d a taken → Releases d d' → (serves a'.store → serves a.store)
      → (serves a'.store → (f : Frame) → Stands d f → FramesGo holds place now (f ∷ []) a a') → serves a'.store
      → FeedGoes holds place now d₀ a₀ (take taken piece) d' a'
  fed_front d₀ d d' a₀ a a' piece taken to' takes served next =
      let to = fed_to_front d₀ d a₀ a piece taken to' in
      let f = takes.frame in
      let released : d' ≡ after_release d f =
      takes.released ∙ ap (λ (b : Bool). let same : Deframed = record d { held = []; done = b } in same) (one_done f) in
      fed_whole d₀ d' a₀ a' (take taken piece) taken (record {
        calls = Release ∷ to.calls;
        fs = to.fs ++ f ∷ [];
        leads = (done_of d₀ ++ to.fs, d, to.leads, inl (f, takes.stood, released, sym (append_assoc (done_of d₀) to.fs (f ∷ []))));
        within = to.within;
        fault = ap (λ (x : Deframed). x.fault) takes.released ∙ to.fault;
        max = ap (λ (x : Deframed). x.max) takes.released ∙ to.max;
        copy_done = done_more d₀ d d' to.fs takes to.copy_done;
        state = inr (sym (length-take-le taken piece to'.within), released_waits d d' takes);
        goes = λ own. goes_then to.fs f a₀ a a' (to.goes (served own)) (next own f takes.stood);
      }) (released_waits d d' takes)

  -- as many bytes were taken as there are
  pub all_taken : (d₀ d : Deframed) (a₀ a : Applied C) (piece : List ℕ) (taken : ℕ) → IsFedTo holds place now serves d₀ a₀ piece d a taken
      → Waits d → taken ≡ length piece
  all_taken d₀ d a₀ a piece taken to waits =
      elim to.state [ inl stands ↦ absurd (stands_or_waits d stands.0 stands.1 waits) | inr ends ↦ ends.0 ]

some_bytes : (f : Frame) → 1 ≤ length (wire.frame f)
some_bytes (CopyData bytes) = omega arith
some_bytes CopyDone = omega arith

-- less is left of the piece and of what is held
pub fed_less : (d d' d'' : Deframed) (piece : List ℕ) (taken n : ℕ) → taken ≤ length piece → Releases d d'
    → IsFed d' (drop taken piece) (Ok n) d''
    → length d''.held + (length piece - (taken + n)) < length d.held + (length piece - taken)
fed_less d d' d'' piece taken n within takes fed =
    let rest = length-drop taken piece in
    let own : n ≤ length (drop taken piece) = fed.1 in
    let some = some_bytes takes.frame in
    let held : length d.held ≡ length (wire.frame takes.frame) = ap length takes.stood.whole in
    let count : length d''.held ≡ n =
    ap (λ (x : Deframed). length x.held) fed.2 ∙ ap (λ (x : Deframed). length (x.held ++ take n (drop taken piece))) takes.released
    ∙ length-take-le n (drop taken piece) own in
    omega arith

-- one frame stands at most
pub one_stands : (d : Deframed) (f h : Frame) → Stands d f → Stands d h → f ≡ h
one_stands d f h x y =
    let same : f ∷ [] ≡ h ∷ [] =
    (two_readings d.max d.max (f ∷ []) (h ∷ []) [] [] (ap (λ (bytes : List ℕ). (bytes ++ []) ++ []) (sym x.whole ∙ y.whole))
    (one_frame f x.allowed) (one_frame h y.allowed) nothing nothing).0 in
    cc
  where
    one_frame : (f : Frame) → IsAllowed d.max f → wire.AreFrames d.max (f ∷ [])
    one_frame (CopyData bytes) allowed = (allowed, tt)
    one_frame CopyDone allowed = refl

    nothing : IsPartial d.max []
    nothing = record { tag = λ some. absurd (omega arith); payload = λ long. absurd (omega arith) }

-- a slice from a place on
pub rest_of : (xs : List ℕ) (n : ℕ) → take (length xs - n) (drop n xs) ≡ drop n xs
rest_of xs n = take_whole (drop n xs) (length xs - n) (sym (length-drop n xs))
