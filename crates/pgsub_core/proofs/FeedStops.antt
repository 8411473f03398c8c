-- Why a piece isn't taken to its end.
use Rattle.std.proofs.Common.{◌≡◌, ◌≢◌, ◌⊎◌, inl, inr, ℕ, ℤ, List, [], ◌∷◌, ◌++◌, Bool, false}
use Rattle.std.proofs.Common.{Option, Some, None, Err, take, drop, refl, sym, ap, subst, ◌∙◌}
use Rattle.std.proofs.Common.{append_assoc, append-nil}
use Rattle.std.proofs.lemmas.List.{take-append-drop}
use Rattle.pgwire.specs.Frames.{Frame, frames, IsAllowed, IsFramingFault}
use Rattle.pgwire.specs.Deframed.{Deframed, Stands, Waits, IsFed, after_release}
use Rattle.pgwire.specs.Calls.{Release, Leads}
use Rattle.pgwire.specs.declared.fault.WireFault.{WireFault}
use Rattle.pgwire.specs.declared.fault.WireFault.TheVariants as wire_fault
use Rattle.pgwire.proofs.Runs.{counted}
use Rattle.pgapply.specs.Value.{Tables}
use Rattle.pgsub_core.specs.declared.fault.Fault.{Fault}
use Rattle.pgsub_core.specs.declared.fault.Fault.TheVariants as fault
use Rattle.pgsub_core.specs.Subscriber.Subscribed.{Subscribed}
use Rattle.pgsub_core.specs.Server.Reached.{Progress}
use Rattle.pgsub_core.specs.Subscriber.Handled.{IsLeft}
use Rattle.pgsub_core.specs.Subscriber.Causes.{Cause, OutOfMemory, StatementRefused, HeaderTooLarge}
use Rattle.pgsub_core.specs.Subscriber.Causes.{ForeignBytes, NextMessage, NeverAnswered, cause}
use Rattle.pgsub_core.specs.Subscriber.Causes.{SpoolFailed}
use Rattle.pgsub_core.specs.Machine.Feeding.{StopsIn, BeginsWith}
use Rattle.pgsub_core.specs.Subscriber.Applied.{Applied, Framing, subscribed, IsKept}
use Rattle.pgsub_core.specs.Calls.Framing.{framing_behind, framing_of, done_of, Releases, StopsAt}
use Rattle.pgsub_core.specs.Calls.Framing.{StopsAtFrame, IsStopped, FramesGo, IsFedTo, IsTakenTo}
use Rattle.pgsub_core.specs.Calls.Framing.{FeedStops}
use Rattle.pgsub_core.proofs.FeedSteps.{one_done, goes_then, waiting_leads}

module _ {C : Type 0} (serves : C → Type 0) (holds : C → Tables → Type 0) (place : C → ℕ) (now : ℤ) (d₀ : Deframed) (a₀ : Applied C)
    (piece : List ℕ) where
  -- what is left behind the frames that were taken
  left_state : (framing closed : Framing) (a a' : Applied C) (tables : Tables) → IsKept place a a' → closed.max_frame ≡ framing.max_frame
      → IsLeft (subscribed place framing a tables) (subscribed place closed a' tables)
  left_state framing closed a a' tables kept max = record {
    tables = refl;
    progress = λ i. progress (kept.position i) (kept.confirmed i) (kept.received i);
    settings = record { version = kept.version; max_frame = max; limit = kept.limit };
    replies = kept.replies;
  }
    where
      progress : ℕ → ℕ → ℕ → Progress
      progress p c r = record { position = p; confirmed = c; received = r }

  -- the frames that were taken, with a reason why no more were
  pub stopped_at : (d : Deframed) (a a' : Applied C) (taken : ℕ) (to : IsTakenTo holds place now serves d₀ a₀ piece d a taken)
      → serves a.store → IsKept place a a' → ((tables : Tables) → holds a.store tables → holds a'.store tables)
      → (f : Fault) → ((framing : Framing) (tables : Tables) → holds a.store tables
      → StopsIn now d₀.max d.done (d.held ++ drop taken piece) (subscribed place framing a tables) f (cause f))
      → FeedStops holds place now d₀ a₀ piece a' f
  stopped_at d a a' taken to own kept stays f why closed tables is_closed max h =
      let bytes = frames (done_of d₀) ++ (d₀.held ++ take taken piece) in
      let is = counted d₀.max to.calls bytes (done_of d₀ ++ to.fs) d to.leads in
      let done = to.goes own (framing_of d₀ false) tables h in
      let behind = framing_behind to.fs (framing_of d₀ false) in (
        done.0,
        stays done.0 done.1,
        record {
          fs = to.fs;
          rest = d.held ++ drop taken piece;
          state = subscribed place behind a done.0;
          whole = ap (λ p. frames (done_of d₀) ++ (d₀.held ++ p)) (sym (take-append-drop taken piece))
              ∙ ap (λ p. frames (done_of d₀) ++ p) (sym (append_assoc d₀.held (take taken piece) (drop taken piece)))
              ∙ sym (append_assoc (frames (done_of d₀)) (d₀.held ++ take taken piece) (drop taken piece))
              ∙ ap (λ p. p ++ drop taken piece) is.whole
              ∙ append_assoc (frames (done_of d₀ ++ to.fs)) d.held (drop taken piece);
          each = is.each;
          takes = done.2;
          left = left_state behind closed a a' done.0 kept max;
          closed = is_closed;
          why = subst (λ b. StopsIn now d₀.max b (d.held ++ drop taken piece) (subscribed place behind a done.0) f (cause f))
              (sym is.done_is) (why behind done.0 done.1);
        },
      )

  -- ---- by a frame

  frame_why : (d : Deframed) (frame : Frame) (rest : List ℕ) (s : Subscribed) (f : Fault) (k : Cause)
      → BeginsWith d₀.max d.done (d.held ++ rest) frame → StopsAtFrame now s frame f k → StopsIn now d₀.max d.done (d.held ++ rest) s f k
  frame_why d frame rest s f OutOfMemory begins h = tt
  frame_why d frame rest s f SpoolFailed begins h = tt
  frame_why d frame rest s f StatementRefused begins h = (frame, begins, h.0, h.1)
  frame_why d frame rest s f HeaderTooLarge begins h = absurd h
  frame_why d frame rest s f ForeignBytes begins h = absurd h
  frame_why d frame rest s f NextMessage begins h = inr (frame, h.0, begins, h.1)
  frame_why d frame rest s f NeverAnswered begins h = absurd h

  pub taken_to : (d : Deframed) (a : Applied C) (taken : ℕ) → IsFedTo holds place now serves d₀ a₀ piece d a taken
      → IsTakenTo holds place now serves d₀ a₀ piece d a taken
  taken_to d a taken to = record { calls = to.calls; fs = to.fs; leads = to.leads; max = to.max; goes = to.goes }

  pub stops_by_frame : (d : Deframed) (a a' : Applied C) (taken : ℕ) → IsFedTo holds place now serves d₀ a₀ piece d a taken → serves a.store
      → (f : Fault) (frame : Frame) → Stands d frame → IsStopped holds place (StopsAt frame now) a a' f
      → FeedStops holds place now d₀ a₀ piece a' f
  stops_by_frame d a a' taken to own f frame stands stopped =
      stopped_at d a a' taken (taken_to d a taken to) own stopped.kept stopped.stays f (λ framing tables h.
      frame_why d frame (drop taken piece) (subscribed place framing a tables) f (cause f)
      (record {
        more = drop taken piece;
        going_on = stands.first;
        whole = ap (λ b. b ++ drop taken piece) stands.whole;
        allowed = subst (λ m. IsAllowed m frame) to.max stands.allowed;
      })
      (stopped.why framing tables h))

  -- ---- by the bytes

  bytes_why : (done : Bool) (bytes : List ℕ) (s : Subscribed) (k : WireFault) → k ≢ wire_fault.Memory → IsFramingFault d₀.max done bytes k
      → StopsIn now d₀.max done bytes s (fault.Wire k) (cause (fault.Wire k))
  bytes_why done bytes s (wire_fault.UnknownFrame byte) other h = (wire_fault.UnknownFrame byte, refl, h)
  bytes_why done bytes s wire_fault.BadLength other h = inl (wire_fault.BadLength, refl, h)
  bytes_why done bytes s wire_fault.TooLarge other h = (wire_fault.TooLarge, refl, h)
  bytes_why done bytes s wire_fault.AfterDone other h = (wire_fault.AfterDone, refl, h)
  bytes_why done bytes s (wire_fault.UnknownServerMessage byte) other h = absurd h
  bytes_why done bytes s wire_fault.Short other h = absurd h
  bytes_why done bytes s wire_fault.Trailing other h = absurd h
  bytes_why done bytes s wire_fault.BadReplyByte other h = absurd h
  bytes_why done bytes s wire_fault.Memory other h = absurd (other refl)

  breaks_of : (old new : Deframed) (rest : List ℕ) (k : WireFault) → old.fault ≡ None → k ≢ wire_fault.Memory → IsFed old rest (Err k) new
      → IsFramingFault old.max old.done (old.held ++ rest) k
  breaks_of old new rest wire_fault.Memory none other fed = absurd (other refl)
  breaks_of old new rest wire_fault.AfterDone none other fed =
      elim fed.2 [ inl e ↦ absurd (let bad : None ≡ Some wire_fault.AfterDone = sym none ∙ e in cc) | inr b ↦ b.1 ]
  breaks_of old new rest (wire_fault.UnknownFrame byte) none other fed =
      elim fed.2 [ inl e ↦ absurd (let bad : None ≡ Some (wire_fault.UnknownFrame byte) = sym none ∙ e in cc) | inr b ↦ b.1 ]
  breaks_of old new rest wire_fault.BadLength none other fed =
      elim fed.2 [ inl e ↦ absurd (let bad : None ≡ Some wire_fault.BadLength = sym none ∙ e in cc) | inr b ↦ b.1 ]
  breaks_of old new rest wire_fault.TooLarge none other fed =
      elim fed.2 [ inl e ↦ absurd (let bad : None ≡ Some wire_fault.TooLarge = sym none ∙ e in cc) | inr b ↦ b.1 ]
  breaks_of old new rest (wire_fault.UnknownServerMessage byte) none other fed =
      elim fed.2 [ inl e ↦ absurd (let bad : None ≡ Some (wire_fault.UnknownServerMessage byte) = sym none ∙ e in cc) | inr b ↦ b.1 ]
  breaks_of old new rest wire_fault.Short none other fed =
      elim fed.2 [ inl e ↦ absurd (let bad : None ≡ Some wire_fault.Short = sym none ∙ e in cc) | inr b ↦ b.1 ]
  breaks_of old new rest wire_fault.Trailing none other fed =
      elim fed.2 [ inl e ↦ absurd (let bad : None ≡ Some wire_fault.Trailing = sym none ∙ e in cc) | inr b ↦ b.1 ]
  breaks_of old new rest wire_fault.BadReplyByte none other fed =
      elim fed.2 [ inl e ↦ absurd (let bad : None ≡ Some wire_fault.BadReplyByte = sym none ∙ e in cc) | inr b ↦ b.1 ]

  -- the deframer refuses what comes next, or memory has run out
  pub stops_by_bytes : (d d' : Deframed) (a : Applied C) (taken : ℕ) → IsTakenTo holds place now serves d₀ a₀ piece d a taken
      → serves a.store → d.fault ≡ None → (f : Fault)
      → ((f ≡ fault.Memory) × (d' ≡ d))
      ⊎ ((k : WireFault) × (k ≢ wire_fault.Memory) × (f ≡ fault.Wire k) × IsFed d (drop taken piece) (Err k) d')
      → FeedStops holds place now d₀ a₀ piece a f
  stops_by_bytes d d' a taken to own none f refused =
      stopped_at d a a taken to own
      (record { position = refl; confirmed = refl; received = refl; version = refl; limit = refl; replies = refl }) (λ tables h. h) f
      (λ framing tables h. elim refused [
        | inl memory ↦ rw memory.0 tt
        | inr k ↦ rw k.2 (bytes_why d.done (d.held ++ drop taken piece) (subscribed place framing a tables) k.0 k.1
            (subst (λ m. IsFramingFault m d.done (d.held ++ drop taken piece) k.0) to.max
            (breaks_of d d' (drop taken piece) k.0 none k.1 k.3)))
      ])

  -- ---- from where they are

  pub start_to : Waits d₀ → d₀.fault ≡ None → IsTakenTo holds place now serves d₀ a₀ piece d₀ a₀ 0
  start_to waits none =
      let is : d₀ ≡ record { max = d₀.max; held = d₀.held; done = d₀.done; fault = None; room = d₀.room } =
      ap (λ (f : Option WireFault). let same : Deframed = record d₀ { fault = f } in same) none in
      let leads = waiting_leads d₀.max d₀.held d₀.done d₀ is waits waits.last in
      record {
        calls = leads.0;
        fs = [];
        leads = subst (λ bytes. Leads d₀.max leads.0 (frames (done_of d₀) ++ bytes) (done_of d₀ ++ []) d₀) (sym (append-nil d₀.held))
            (subst (λ fs. Leads d₀.max leads.0 (frames (done_of d₀) ++ d₀.held) fs d₀) (sym (append-nil (done_of d₀))) leads.1);
        max = refl;
        goes = λ own framing tables h. (tables, h, refl);
      }

  pub released_to : (d d' : Deframed) (a a' : Applied C) (taken : ℕ) → IsFedTo holds place now serves d₀ a₀ piece d a taken → Releases d d'
      → (serves a'.store → serves a.store)
      → (serves a'.store → (f : Frame) → Stands d f → FramesGo holds place now (f ∷ []) a a')
      → IsTakenTo holds place now serves d₀ a₀ piece d' a' taken
  released_to d d' a a' taken to takes served next =
      let f = takes.frame in
      let released : d' ≡ after_release d f =
      takes.released ∙ ap (λ (b : Bool). let same : Deframed = record d { held = []; done = b } in same) (one_done f) in
      record {
        calls = Release ∷ to.calls;
        fs = to.fs ++ f ∷ [];
        leads = (done_of d₀ ++ to.fs, d, to.leads, inl (f, takes.stood, released, sym (append_assoc (done_of d₀) to.fs (f ∷ []))));
        max = ap (λ (x : Deframed). x.max) takes.released ∙ to.max;
        goes = λ own. goes_then serves holds place now to.fs f a₀ a a' (to.goes (served own)) (next own f takes.stood);
      }

module _ {C : Type 0} (holds : C → Tables → Type 0) (place : C → ℕ) (now : ℤ) (d₀ : Deframed) (a₀ : Applied C) where
  -- want of memory can stop it where a fault does
  pub for_memory : (piece : List ℕ) (a : Applied C) (f : Fault) → FeedStops holds place now d₀ a₀ piece a f
      → FeedStops holds place now d₀ a₀ piece a fault.Memory
  for_memory piece a f stops closed tables is max h =
      let one = stops closed tables is max h in
      let u = one.2 in (
        one.0,
        one.1,
        record {
          fs = u.fs;
          rest = u.rest;
          state = u.state;
          whole = u.whole;
          each = u.each;
          takes = u.takes;
          left = u.left;
          closed = u.closed;
          why = tt;
        },
      )
