-- What is fed of a part, of bytes that have all frames that are taken of it; and which bytes do.
use Rattle.std.proofs.Common.{◌≡◌, ◌≢◌, ◌∙◌, ◌++◌, ◌⊎◌, inl, inr, ℕ, ℤ, List, [], ◌∷◌, Bool, true}
use Rattle.std.proofs.Common.{false, refl, sym, ap, subst, append_assoc, append-nil}
use Rattle.pgwire.specs.Frames.{Frame, CopyData, CopyDone, frame, frames, IsAllowed, AreFrames}
use Rattle.pgwire.specs.Frames.{IsFramingFault, has_copy_done}
use Rattle.pgwire.specs.declared.fault.WireFault.{WireFault}
use Rattle.pgwire.proofs.Readings.{one_frame, first_frame, frame_has_no_fault}
use Rattle.pgapply.specs.Tallies.{Tally}
use Rattle.pgsub_core.specs.declared.fault.Fault.{Fault}
use Rattle.pgsub_core.specs.declared.fault.Fault.TheVariants as fault
use Rattle.pgsub_core.specs.Subscriber.Subscribed.{Subscribed, progress_of}
use Rattle.pgsub_core.specs.Subscriber.Causes.{Cause, OutOfMemory, StatementRefused, HeaderTooLarge}
use Rattle.pgsub_core.specs.Subscriber.Causes.{ForeignBytes, NextMessage, NeverAnswered, cause}
use Rattle.pgsub_core.specs.Subscriber.Causes.{SpoolFailed}
use Rattle.pgsub_core.specs.Machine.Replica.{Outcome, Running, Stopped}
use Rattle.pgsub_core.specs.Machine.Taking.{take_frame, take_frames}
use Rattle.pgsub_core.specs.Machine.Feeding.{done_frames, IsFedWhole, IsFedUntil, BeginsWith}
use Rattle.pgsub_core.specs.Machine.Feeding.{StopsIn}
use Rattle.pgsub_core.specs.Machine.Counted.{IsCountedFront}
use Rattle.pgsub_core.proofs.Pieces.{front_of}
use Rattle.pgsub_core.proofs.Steps.{goes_through, running}
use Rattle.pgfollow.specs.Told.{HaveTaken, PartHasTaken, TakenBeforeFault}
use Rattle.pgfollow.proofs.Clocks.{quiet, TakesAlike, frames_quiet}

-- what was fed whole is what memory stops behind it
pub whole_until : (now : ℤ) (s new : Subscribed) (part : List ℕ) → IsFedWhole now s part new
    → IsFedUntil now s part (record new { closed = true }) fault.Memory
whole_until now s new part fed = record {
  fs = fed.fs;
  rest = fed.rest;
  state = fed.state;
  whole = fed.deframed.whole;
  each = fed.deframed.each;
  takes = fed.takes;
  left = record {
    tables = ap (λ (x : Subscribed). x.tables) fed.left;
    progress = ap progress_of fed.left;
    settings = record {
      version = ap (λ (x : Subscribed). x.version) fed.left;
      max_frame = ap (λ (x : Subscribed). x.max_frame) fed.left;
      limit = ap (λ (x : Subscribed). x.limit) fed.left;
    };
    replies = ap (λ (x : Subscribed). x.replies) fed.left;
  };
  closed = refl;
  why = tt;
}

-- whatever stopped it, so would want of memory
abbrev for_memory : (now : ℤ) (s new : Subscribed) (part : List ℕ) (f : Fault) → IsFedUntil now s part new f
    → IsFedUntil now s part new fault.Memory
for_memory now s new part f fed = record {
  fs = fed.fs;
  rest = fed.rest;
  state = fed.state;
  whole = fed.whole;
  each = fed.each;
  takes = fed.takes;
  left = fed.left;
  closed = fed.closed;
  why = tt;
}

pub until_within : (now : ℤ) (s new : Subscribed) (part bytes : List ℕ) (f : Fault) → HaveTaken s part bytes
    → IsFedUntil now s part new f → IsFedUntil now s bytes new fault.Memory
until_within now s new part bytes f have fed =
    let found = have now new (for_memory now s new part f fed) in
    record {
      fs = fed.fs;
      rest = found.0;
      state = fed.state;
      whole = found.1;
      each = fed.each;
      takes = fed.takes;
      left = fed.left;
      closed = fed.closed;
      why = tt;
    }

-- so it is of what is counted
pub counted_within : (now : ℤ) (s : Subscribed) (part bytes : List ℕ) (position : ℕ) (before behind : Tally) → HaveTaken s part bytes
    → IsCountedFront now s part position before behind → IsCountedFront now s bytes position before behind
counted_within now s part bytes position before behind have c =
    let new : Subscribed = record c.state { closed = true } in
    let fed : IsFedUntil now s part new fault.Memory = record {
      fs = c.fs;
      rest = c.rest;
      state = c.state;
      whole = c.whole;
      each = c.each;
      takes = c.takes;
      left = record {
        tables = refl;
        progress = refl;
        settings = record { version = refl; max_frame = refl; limit = refl };
        replies = refl;
      };
      closed = refl;
      why = tt;
    } in
    let found = have now new fed in
    record {
      fs = c.fs;
      rest = found.0;
      state = c.state;
      whole = found.1;
      each = c.each;
      takes = c.takes;
      stands = c.stands;
      counts = c.counts;
    }

-- ---- which bytes have them

pub all_taken : (s : Subscribed) (part : List ℕ) → HaveTaken s part part
all_taken s part now new fed = (fed.rest, fed.whole)

pub part_has_taken : PartHasTaken
part_has_taken s part more now new fed =
    let D = done_frames s in (
      fed.rest ++ more,
      ap (λ bs. frames D ++ bs) (sym (append_assoc s.partial part more)) ∙ sym (append_assoc (frames D) (s.partial ++ part) more)
          ∙ ap (λ bs. bs ++ more) fed.whole ∙ append_assoc (frames (D ++ fed.fs)) fed.rest more,
    )

-- those that have all of more
pub have_less : (s : Subscribed) (part more bytes : List ℕ) → HaveTaken s (part ++ more) bytes → HaveTaken s part bytes
have_less s part more bytes have now new fed =
    let found = part_has_taken s part more now new fed in
    let longer : IsFedUntil now s (part ++ more) new fault.Memory = record {
      fs = fed.fs;
      rest = found.0;
      state = fed.state;
      whole = found.1;
      each = fed.each;
      takes = fed.takes;
      left = fed.left;
      closed = fed.closed;
      why = tt;
    } in
    have now new longer

abbrev Reason : ℤ → ℕ → Bool → List ℕ → Subscribed → Fault → Type 0
Reason now max done rest s f =
    ((k : WireFault) × (f ≡ fault.Wire k) × IsFramingFault max done rest k)
    ⊎ ((next : Frame) × (stopped : Subscribed) × BeginsWith max done rest next × (take_frame now s next ≡ Stopped stopped f))

reason : (now : ℤ) (max : ℕ) (done : Bool) (rest : List ℕ) (s : Subscribed) (f : Fault) (c : Cause) → (c ≢ OutOfMemory)
    → (c ≢ StatementRefused) → (c ≢ SpoolFailed) → StopsIn now max done rest s f c → Reason now max done rest s f
reason now max done rest s f OutOfMemory room sound kept why = absurd (room refl)
reason now max done rest s f SpoolFailed room sound kept why = absurd (kept refl)
reason now max done rest s f StatementRefused room sound kept why = absurd (sound refl)
reason now max done rest s f HeaderTooLarge room sound kept why = inl why
reason now max done rest s f ForeignBytes room sound kept why = inl why
reason now max done rest s f NextMessage room sound kept why = why
reason now max done rest s f NeverAnswered room sound kept why = absurd why

-- a frame that is taken has no fault
none_at_taken : (now : ℤ) (max : ℕ) (rest more : List ℕ) (s after : Subscribed) (f : Fault) (next : Frame) → IsAllowed max next
    → rest ≡ frame next ++ more → take_frame now s next ≡ Running after → Reason now max false rest s f → ⊥
none_at_taken now max rest more s after f next allowed whole takes (inl x) =
    frame_has_no_fault max next more x.0 allowed (subst (λ bs. IsFramingFault max false bs x.0) whole x.2)
none_at_taken now max rest more s after f next allowed whole takes (inr x) =
    let same : x.0 ≡ next = (one_frame max max x.0 next x.2.more more x.2.allowed allowed (sym x.2.whole ∙ whole)).0 in
    let both : ◌≡◌ {A = Outcome Subscribed Fault} (Stopped x.1 f) (Running after) = sym x.3 ∙ ap (take_frame now s) same ∙ takes in
    absurd (cc)

-- whatever frames of these bytes are taken come before the fault
taken_before : (now : ℤ) (max : ℕ) (us vs : List Frame) (q r : List ℕ) (s state other : Subscribed) (f : Fault) → AreFrames max us
    → AreFrames max vs → frames us ++ q ≡ frames vs ++ r → take_frames now s us ≡ Running state → take_frames now s vs ≡ Running other
    → Reason now max (has_copy_done us) q state f → (more : List Frame) × (us ≡ vs ++ more)
taken_before now max us [] q r s state other f au av e tu tv why = (us, refl)
taken_before now max [] (v ∷ vs) q r s state other f au av e tu tv why =
    let one = goes_through (take_frame now s v) (λ next. take_frames now next vs) other tv in
    absurd (none_at_taken now max q (frames vs ++ r) s one.0 f v (first_frame max v vs av).0 (e ∙ append_assoc (frame v) (frames vs) r)
    one.1 (subst (λ (x : Subscribed). Reason now max false q x f) (sym (running tu)) why))
taken_before now max (CopyDone ∷ us) (v ∷ vs) q r s state other f au av e tu tv why =
    let one : CopyDone ≡ v = (one_frame max max CopyDone v (frames us ++ q) (frames vs ++ r) tt (first_frame max v vs av).0
    (sym (append_assoc (frame CopyDone) (frames us) q) ∙ e ∙ append_assoc (frame v) (frames vs) r)).0 in
    let none : vs ≡ [] = subst (λ (x : Frame). AreFrames max (x ∷ vs)) (sym one) av in (
      [],
      ap (λ (fs : List Frame). CopyDone ∷ fs) au ∙ ap (λ (x : Frame). x ∷ []) one ∙ ap (λ (fs : List Frame). v ∷ (fs ++ [])) (sym none),
    )
taken_before now max (CopyData bytes ∷ us) (v ∷ vs) q r s state other f au av e tu tv why =
    let fv = first_frame max v vs av in
    let one = one_frame max max (CopyData bytes) v (frames us ++ q) (frames vs ++ r) au.0 fv.0
    (sym (append_assoc (frame (CopyData bytes)) (frames us) q) ∙ e ∙ append_assoc (frame v) (frames vs) r) in
    let mid = goes_through (take_frame now s (CopyData bytes)) (λ next. take_frames now next us) state tu in
    let mid' = goes_through (take_frame now s v) (λ next. take_frames now next vs) other tv in
    let same : mid'.0 ≡ mid.0 = running (sym mid'.1 ∙ ap (take_frame now s) (sym one.0) ∙ mid.1) in
    let rest = taken_before now max us vs q r mid.0 state other f au.1 fv.1 one.1 mid.2
    (subst (λ (x : Subscribed). take_frames now x vs ≡ Running other) same mid'.2) why in (
      rest.0,
      ap (λ (fs : List Frame). CopyData bytes ∷ fs) rest.1 ∙ ap (λ (x : Frame). x ∷ (vs ++ rest.0)) one.0,
    )

before_by : (done : Bool) (now : ℤ) (max : ℕ) (us vs : List Frame) (w q r : List ℕ) (s state other : Subscribed) (f : Fault)
    → AreFrames max (front_of done ++ us) → AreFrames max (front_of done ++ vs)
    → frames (front_of done) ++ w ≡ frames (front_of done ++ us) ++ q → frames (front_of done) ++ w ≡ frames (front_of done ++ vs) ++ r
    → take_frames now s us ≡ Running state → take_frames now s vs ≡ Running other
    → Reason now max (has_copy_done (front_of done ++ us)) q state f
    → (more : List Frame) × (us ≡ vs ++ more)
before_by true now max us vs w q r s state other f au av eu ev tu tv why = ([], au ∙ sym av ∙ sym (append-nil vs))
before_by false now max us vs w q r s state other f au av eu ev tu tv why =
    taken_before now max us vs q r s state other f au av (sym eu ∙ ev) tu tv why

frames_both : (a b : List Frame) → frames (a ++ b) ≡ frames a ++ frames b
frames_both [] b = refl
frames_both (f ∷ a) b = ap (λ bs. frame f ++ bs) (frames_both a b) ∙ sym (append_assoc (frame f) (frames a) (frames b))

pub taken_before_fault : TakenBeforeFault
taken_before_fault now s new bytes more rest f room sound kept fed held now' new' v =
    let D = done_frames s in
    let alike : TakesAlike (Running v.state) (take_frames now s v.fs) =
    subst (λ (o : Outcome Subscribed Fault). TakesAlike o (take_frames now s v.fs)) v.takes (frames_quiet now' now v.fs s.replies s) in
    let before = before_by s.copy_done now s.max_frame fed.fs v.fs (s.partial ++ (bytes ++ more)) fed.rest v.rest s fed.state
    (quiet alike.0 v.state) f fed.each v.each fed.whole v.whole fed.takes alike.1
    (reason now s.max_frame (has_copy_done (D ++ fed.fs)) fed.rest fed.state f (cause f) room sound kept fed.why) in (
      frames before.0 ++ rest,
      held ∙ ap (λ (fs : List Frame). frames (D ++ fs) ++ rest) before.1
          ∙ ap (λ bs. bs ++ rest) (ap frames (sym (append_assoc D v.fs before.0)) ∙ frames_both (D ++ v.fs) before.0)
          ∙ append_assoc (frames (D ++ v.fs)) (frames before.0) rest,
    )
