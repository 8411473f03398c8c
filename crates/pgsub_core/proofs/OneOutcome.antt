-- Whatever is fed, one outcome comes of it, but for what memory and the store's own refusals allow.
use Rattle.std.proofs.Common.{◌≡◌, ◌≢◌, ◌++◌, ◌⊎◌, inl, inr, ℕ, ℤ, List, [], ◌∷◌, Bool, true, false}
use Rattle.std.proofs.Common.{Option, Some, None, refl, sym, ap, subst, ◌∙◌, append_assoc}
use Rattle.std.proofs.Common.{append-nil}
use Rattle.pgwire.specs.Frames.{Frame, CopyData, CopyDone, frame, frames, IsAllowed, AreFrames}
use Rattle.pgwire.specs.Frames.{IsPartial, IsFramingFault, has_copy_done}
use Rattle.pgwire.specs.declared.fault.WireFault.{WireFault}
use Rattle.pgwire.specs.declared.fault.WireFault.TheVariants as wire_fault
use Rattle.pgwire.proofs.Readings.{one_frame, first_frame, one_deframing, one_break}
use Rattle.pgwire.proofs.Readings.{partial_has_no_fault, frame_has_no_fault}
use Rattle.pgorder.specs.declared.fault.OrderFault.{OrderFault}
use Rattle.pgorder.specs.declared.fault.OrderFault.TheVariants as order
use Rattle.pgrel.specs.declared.fault.RelFault.{RelFault}
use Rattle.pgrel.specs.declared.fault.RelFault.TheVariants as rel
use Rattle.pgspool.specs.declared.fault.SpoolFault.{SpoolFault}
use Rattle.pgspool.specs.declared.fault.SpoolFault.TheVariants as spool
use Rattle.pgapply.specs.declared.fault.StoreFault.{StoreFault}
use Rattle.pgapply.specs.declared.fault.StoreFault.TheVariants as store
use Rattle.pgsub_core.specs.declared.fault.Fault.{Fault}
use Rattle.pgsub_core.specs.declared.fault.Fault.TheVariants as fault
use Rattle.pgsub_core.specs.Machine.Replica.{Outcome, Running, Stopped, then_run}
use Rattle.pgsub_core.specs.Subscriber.Subscribed.{Subscribed, disconnect}
use Rattle.pgsub_core.specs.Machine.Taking.{take_frame, take_frames}
use Rattle.pgsub_core.specs.Subscriber.Handled.{IsLeft}
use Rattle.pgsub_core.specs.Subscriber.Causes.{Cause, OutOfMemory, StatementRefused, HeaderTooLarge}
use Rattle.pgsub_core.specs.Subscriber.Causes.{ForeignBytes, NextMessage, NeverAnswered, cause}
use Rattle.pgsub_core.specs.Subscriber.Causes.{SpoolFailed}
use Rattle.pgsub_core.specs.Subscriber.Causes.{wire_cause, order_cause, relation_cause, spool_cause}
use Rattle.pgsub_core.specs.Subscriber.Causes.{store_cause}
use Rattle.pgsub_core.specs.Machine.Feeding.{IsFed, IsFedWhole, IsFedUntil, BeginsWith, StopsIn}
use Rattle.pgsub_core.specs.Machine.Feeding.{IsSettled, IsSettledFault, EndsSame}
use Rattle.pgsub_core.specs.Subscriber.Following.{AreFed, AreFedWhole, AreFedUntil}
use Rattle.pgsub_core.proofs.FedSessions.{take_frames-append}
use Rattle.pgsub_core.proofs.Pieces.{front_of, without_done}
use Rattle.pgsub_core.proofs.SessionFrames.{not_partial}
use Rattle.pgsub_core.proofs.Steps.{running, goes_through}

-- ---- which faults memory and the store's refusals are

wire_settles : (k : WireFault) → (wire_cause k ≡ OutOfMemory → ⊥) × (wire_cause k ≡ StatementRefused → ⊥)
wire_settles wire_fault.TooLarge = (λ e. cc, λ e. cc)
wire_settles (wire_fault.UnknownFrame byte) = (λ e. cc, λ e. cc)
wire_settles wire_fault.AfterDone = (λ e. cc, λ e. cc)
wire_settles wire_fault.BadLength = (λ e. cc, λ e. cc)
wire_settles (wire_fault.UnknownServerMessage byte) = (λ e. cc, λ e. cc)
wire_settles wire_fault.Short = (λ e. cc, λ e. cc)
wire_settles wire_fault.Trailing = (λ e. cc, λ e. cc)
wire_settles wire_fault.BadReplyByte = (λ e. cc, λ e. cc)
wire_settles wire_fault.Memory = (λ e. cc, λ e. cc)

order_settles : (k : OrderFault) → (order_cause k ≡ OutOfMemory → ⊥) × (order_cause k ≡ StatementRefused → ⊥)
order_settles order.OutsideTransaction = (λ e. cc, λ e. cc)
order_settles order.NestedBegin = (λ e. cc, λ e. cc)
order_settles order.CommitWithoutBegin = (λ e. cc, λ e. cc)
order_settles order.CommitLsnDiffers = (λ e. cc, λ e. cc)
order_settles order.NestedStart = (λ e. cc, λ e. cc)
order_settles order.StopWithoutStart = (λ e. cc, λ e. cc)
order_settles order.FirstFlagOnOpen = (λ e. cc, λ e. cc)
order_settles order.LaterFlagOnUnknown = (λ e. cc, λ e. cc)
order_settles order.CommitOfUnknown = (λ e. cc, λ e. cc)
order_settles order.StreamInVersion1 = (λ e. cc, λ e. cc)
order_settles order.CommitMisplaced = (λ e. cc, λ e. cc)
order_settles order.AbortMisplaced = (λ e. cc, λ e. cc)
order_settles order.Memory = (λ e. cc, λ e. cc)

relation_settles : (k : RelFault) → (relation_cause k ≡ OutOfMemory → ⊥) × (relation_cause k ≡ StatementRefused → ⊥)
relation_settles (rel.UnknownRelation oid) = (λ e. cc, λ e. cc)
relation_settles rel.Width = (λ e. cc, λ e. cc)
relation_settles rel.UnknownIdentity = (λ e. cc, λ e. cc)
relation_settles rel.UnchangedInInsert = (λ e. cc, λ e. cc)
relation_settles rel.NoIdentity = (λ e. cc, λ e. cc)
relation_settles rel.Memory = (λ e. cc, λ e. cc)

spool_settles : (k : SpoolFault) → (spool_cause k ≡ OutOfMemory → ⊥) × (spool_cause k ≡ StatementRefused → ⊥)
spool_settles spool.SpoolFull = (λ e. cc, λ e. cc)
spool_settles spool.Memory = (λ e. cc, λ e. cc)
spool_settles spool.NotWritten = (λ e. cc, λ e. cc)
spool_settles spool.NoRoom = (λ e. cc, λ e. cc)
spool_settles spool.NotRead = (λ e. cc, λ e. cc)
spool_settles spool.TooManyOpen = (λ e. cc, λ e. cc)

store_settles : (k : StoreFault) → k ≢ store.Refused → (store_cause k ≡ OutOfMemory → ⊥) × (store_cause k ≡ StatementRefused → ⊥)
store_settles store.Clash other = (λ e. cc, λ e. cc)
store_settles store.NoIdentity other = (λ e. cc, λ e. cc)
store_settles store.UnknownIdentity other = (λ e. cc, λ e. cc)
store_settles store.UnchangedInInsert other = (λ e. cc, λ e. cc)
store_settles store.Width other = (λ e. cc, λ e. cc)
store_settles store.TooManyCopies other = (λ e. cc, λ e. cc)
store_settles store.Refused other = absurd (other refl)
store_settles store.NotAStore other = (λ e. cc, λ e. cc)
store_settles store.Memory other = (λ e. cc, λ e. cc)

settles : (f : Fault) → IsSettledFault f → (cause f ≡ OutOfMemory → ⊥) × (cause f ≡ StatementRefused → ⊥)
settles (fault.Wire k) own = wire_settles k
settles (fault.Decode k) own = (λ e. cc, λ e. cc)
settles (fault.Order k) own = order_settles k
settles (fault.Relation k) own = relation_settles k
settles (fault.Spool k) own = spool_settles k
settles (fault.Store k) own = store_settles k (λ e. own.1 (ap fault.Store e))
settles fault.Read own = (λ e. cc, λ e. cc)
settles fault.Closed own = (λ e. cc, λ e. cc)
settles fault.Memory own = absurd (own.0 refl)

-- ---- the reason for a fault, where it is neither

abbrev Reason : ℤ → ℕ → Bool → List ℕ → Subscribed → Fault → Type 0
Reason now max done rest s f =
    ((k : WireFault) × (f ≡ fault.Wire k) × IsFramingFault max done rest k)
    ⊎ ((next : Frame) × (stopped : Subscribed) × BeginsWith max done rest next × (take_frame now s next ≡ Stopped stopped f))

reason_by : (now : ℤ) (max : ℕ) (done : Bool) (rest : List ℕ) (s : Subscribed) (f : Fault) (c : Cause)
    → (c ≡ OutOfMemory → ⊥) × (c ≡ StatementRefused → ⊥) → (c ≢ SpoolFailed) → StopsIn now max done rest s f c
    → Reason now max done rest s f
reason_by now max done rest s f OutOfMemory own kept why = absurd (own.0 refl)
reason_by now max done rest s f SpoolFailed own kept why = absurd (kept refl)
reason_by now max done rest s f StatementRefused own kept why = absurd (own.1 refl)
reason_by now max done rest s f HeaderTooLarge own kept why = inl why
reason_by now max done rest s f ForeignBytes own kept why = inl why
reason_by now max done rest s f NextMessage own kept why = why
reason_by now max done rest s f NeverAnswered own kept why = absurd why

reason : (now : ℤ) (max : ℕ) (done : Bool) (rest : List ℕ) (s : Subscribed) (f : Fault) → IsSettledFault f
    → StopsIn now max done rest s f (cause f) → Reason now max done rest s f
reason now max done rest s f own why = reason_by now max done rest s f (cause f) (settles f own) own.2 why

no_fault_at_frame : (max : ℕ) (done : Bool) (rest more : List ℕ) (next : Frame) (k : WireFault) → done ≡ false → IsAllowed max next
    → rest ≡ frame next ++ more → IsFramingFault max done rest k → ⊥
no_fault_at_frame max done rest more next k going_on allowed whole breaks =
    frame_has_no_fault max next more k allowed
    (subst (λ bs. IsFramingFault max false bs k) whole (subst (λ d. IsFramingFault max d rest k) going_on breaks))

module _ (now : ℤ) (max : ℕ) (done : Bool) (rest : List ℕ) (s : Subscribed) where
  one_reason : (f g : Fault) → Reason now max done rest s f → Reason now max done rest s g → f ≡ g
  one_reason f g (inl x) (inl y) = x.1 ∙ ap fault.Wire (one_break max done rest x.0 y.0 x.2 y.2) ∙ sym y.1
  one_reason f g (inl x) (inr y) = absurd (no_fault_at_frame max done rest y.2.more y.0 x.0 y.2.going_on y.2.allowed y.2.whole x.2)
  one_reason f g (inr x) (inl y) = absurd (no_fault_at_frame max done rest x.2.more x.0 y.0 x.2.going_on x.2.allowed x.2.whole y.2)
  one_reason f g (inr x) (inr y) =
      let same : x.0 ≡ y.0 = (one_frame max max x.0 y.0 x.2.more y.2.more x.2.allowed y.2.allowed (sym x.2.whole ∙ y.2.whole)).0 in
      let both : ◌≡◌ {A = Outcome Subscribed Fault} (Stopped x.1 f) (Stopped y.1 g) = sym x.3 ∙ ap (take_frame now s) same ∙ y.3 in
      cc

  -- what is less than a frame stops nothing
  no_reason_in_part : (f : Fault) → IsPartial max rest → (done ≡ true → rest ≡ []) → Reason now max done rest s f → ⊥
  no_reason_in_part f partial last (inl x) = partial_has_no_fault max done rest x.0 partial last x.2
  no_reason_in_part f partial last (inr x) = not_partial max max x.0 rest x.2.more x.2.allowed partial x.2.whole

  -- nor does a frame that is taken
  no_reason_at_taken : (f : Fault) (next : Frame) (more : List ℕ) (after : Subscribed) → done ≡ false → IsAllowed max next
      → rest ≡ frame next ++ more → take_frame now s next ≡ Running after → Reason now max done rest s f → ⊥
  no_reason_at_taken f next more after going_on allowed whole takes (inl x) =
      no_fault_at_frame max done rest more next x.0 going_on allowed whole x.2
  no_reason_at_taken f next more after going_on allowed whole takes (inr x) =
      let same : x.0 ≡ next = (one_frame max max x.0 next x.2.more more x.2.allowed allowed (sym x.2.whole ∙ whole)).0 in
      let both : ◌≡◌ {A = Outcome Subscribed Fault} (Stopped x.1 f) (Running after) = sym x.3 ∙ ap (take_frame now s) same ∙ takes in
      absurd (cc)

-- ---- two readings of the same bytes as frames and something behind

-- the first goes on behind the second
record Longer (fs gs : List Frame) (r q : List ℕ) : Type 0 where
  more : List Frame
  same : fs ≡ gs ++ more
  left : q ≡ frames more ++ r

record LongerByOne (fs gs : List Frame) (r q : List ℕ) : Type 0 where
  next : Frame
  more : List Frame
  same : fs ≡ gs ++ next ∷ more
  left : q ≡ frame next ++ (frames more ++ r)

compared : (max : ℕ) (fs gs : List Frame) (r q : List ℕ) → AreFrames max fs → AreFrames max gs → frames fs ++ r ≡ frames gs ++ q
    → Longer fs gs r q ⊎ LongerByOne gs fs q r
compared max fs [] r q af ag e = inl (record { more = fs; same = refl; left = sym e })
compared max [] (g ∷ gs) r q af ag e = inr (record { next = g; more = gs; same = refl; left = e ∙ append_assoc (frame g) (frames gs) q })
compared max (f ∷ fs) (g ∷ gs) r q af ag e =
    let ff = first_frame max f fs af in
    let fg = first_frame max g gs ag in
    let one = one_frame max max f g (frames fs ++ r) (frames gs ++ q) ff.0 fg.0
    (sym (append_assoc (frame f) (frames fs) r) ∙ e ∙ append_assoc (frame g) (frames gs) q) in
    elim (compared max fs gs r q ff.1 fg.1 one.1) [
      | inl x ↦ inl (record { more = x.more; same = ap (λ h. h ∷ fs) one.0 ∙ ap (λ hs. g ∷ hs) x.same; left = x.left })
      | inr x ↦ inr (record { next = x.next; more = x.more; same = ap (λ h. h ∷ gs) (sym one.0) ∙ ap (λ hs. f ∷ hs) x.same; left = x.left })
    ]

-- a frame more: behind no CopyDone, and within the limit
goes_on_before : (max : ℕ) (gs : List Frame) (next : Frame) (more : List Frame) → AreFrames max (gs ++ next ∷ more)
    → (has_copy_done gs ≡ false) × IsAllowed max next
goes_on_before max [] next more each = (refl, (first_frame max next more each).0)
goes_on_before max (CopyData bytes ∷ gs) next more each = goes_on_before max gs next more each.1
goes_on_before max (CopyDone ∷ []) next more each = absurd (cc)
goes_on_before max (CopyDone ∷ g ∷ gs) next more each = absurd (cc)

frames_behind : (max : ℕ) (done : Bool) (fs : List Frame) → AreFrames max (front_of done ++ fs) → AreFrames max fs
frames_behind max true fs each = subst (AreFrames max) (sym each) tt
frames_behind max false fs each = each

same_behind : (done : Bool) (fs gs : List Frame) → front_of done ++ fs ≡ front_of done ++ gs → fs ≡ gs
same_behind true fs gs e = cc
same_behind false fs gs e = e

-- ---- one piece

rest_taken : (now : ℤ) (s a b : Subscribed) (fs gs : List Frame) → take_frames now s (gs ++ fs) ≡ Running a
    → take_frames now s gs ≡ Running b → take_frames now b fs ≡ Running a
rest_taken now s a b fs gs all front =
    sym (take_frames-append now gs fs s ∙ ap (λ o. then_run o (λ next. take_frames now next fs)) front) ∙ all

module _ (now : ℤ) (old : Subscribed) (piece : List ℕ) where
  abbrev done : Bool
  done = old.copy_done

  behind : (fs : List Frame) (r : List ℕ) → frames (front_of done) ++ (old.partial ++ piece) ≡ frames (front_of done ++ fs) ++ r
      → old.partial ++ piece ≡ frames fs ++ r
  behind fs r e = without_done done (old.partial ++ piece) r fs e

  whole_whole : (a b : Subscribed) → IsFedWhole now old piece a → IsFedWhole now old piece b → b ≡ a
  whole_whole a b x y =
      let read = one_deframing old.max_frame old.max_frame (frames (front_of done) ++ (old.partial ++ piece)) (front_of done ++ x.fs)
      (front_of done ++ y.fs) x.rest y.rest x.deframed y.deframed in
      let fs : x.fs ≡ y.fs = same_behind done x.fs y.fs read.0 in
      let state : y.state ≡ x.state = running (sym y.takes ∙ ap (take_frames now old) (sym fs) ∙ x.takes) in
      y.left ∙ ap (λ (s : Subscribed). record s { partial = y.rest }) state ∙ ap (λ r. record x.state { partial = r }) (sym read.1)
      ∙ sym x.left

  -- a fault isn't due where the frames can be taken on
  not_yet : (f : Fault) (fs : List Frame) (r : List ℕ) (a : Subscribed) (y : (b : Subscribed) × IsFedUntil now old piece b f)
      → IsSettledFault f → AreFrames old.max_frame (front_of done ++ fs) → take_frames now old fs ≡ Running a
      → LongerByOne fs y.1.fs r y.1.rest → ⊥
  not_yet f fs r a y own each takes x =
      let until = y.1 in
      let before = goes_on_before old.max_frame (front_of done ++ until.fs) x.next x.more
      (subst (AreFrames old.max_frame)
      (ap (λ gs. front_of done ++ gs) x.same ∙ sym (append_assoc (front_of done) until.fs (x.next ∷ x.more))) each) in
      let more = rest_taken now old a until.state (x.next ∷ x.more) until.fs (ap (take_frames now old) (sym x.same) ∙ takes) until.takes in
      let one = goes_through (take_frame now until.state x.next) (λ next. take_frames now next x.more) a more in
      no_reason_at_taken now old.max_frame (has_copy_done (front_of done ++ until.fs)) until.rest until.state f x.next (frames x.more ++ r)
      one.0 before.0 before.1 x.left one.1
      (reason now old.max_frame (has_copy_done (front_of done ++ until.fs)) until.rest until.state f own until.why)

  whole_until : (a b : Subscribed) (f : Fault) → IsSettledFault f → IsFedWhole now old piece a → IsFedUntil now old piece b f → ⊥
  whole_until a b f own x y =
      elim (compared old.max_frame x.fs y.fs x.rest y.rest (frames_behind old.max_frame done x.fs x.deframed.each)
      (frames_behind old.max_frame done y.fs y.each)
      (sym (behind x.fs x.rest x.deframed.whole) ∙ behind y.fs y.rest y.whole)) [
        | inl longer ↦ by_more longer.more longer.same longer.left
        | inr longer ↦
            let allowed = (goes_on_before old.max_frame x.fs longer.next longer.more
            (subst (AreFrames old.max_frame) longer.same (frames_behind old.max_frame done y.fs y.each))).1 in
            not_partial old.max_frame old.max_frame longer.next x.rest (frames longer.more ++ y.rest) allowed x.deframed.partial longer.left
      ]
    where
      by_more : (more : List Frame) → x.fs ≡ y.fs ++ more → y.rest ≡ frames more ++ x.rest → ⊥
      by_more [] same left =
          let fs : x.fs ≡ y.fs = same ∙ append-nil y.fs in
          no_reason_in_part now old.max_frame (has_copy_done (front_of done ++ y.fs)) y.rest y.state f
          (subst (IsPartial old.max_frame) (sym left) x.deframed.partial)
          (λ e. left ∙ x.deframed.last (ap (λ gs. has_copy_done (front_of done ++ gs)) fs ∙ e))
          (reason now old.max_frame (has_copy_done (front_of done ++ y.fs)) y.rest y.state f own y.why)
      by_more (next ∷ more) same left =
          not_yet f x.fs x.rest x.state (b, y) own x.deframed.each x.takes
          (record { next = next; more = more; same = same; left = left ∙ append_assoc (frame next) (frames more) x.rest })

  left_same : (s a b : Subscribed) → IsLeft s a → IsLeft s b → IsLeft a b
  left_same s a b x y = record {
    tables = y.tables ∙ sym x.tables;
    progress = y.progress ∙ sym x.progress;
    settings = record {
      version = y.settings.version ∙ sym x.settings.version;
      max_frame = y.settings.max_frame ∙ sym x.settings.max_frame;
      limit = y.settings.limit ∙ sym x.settings.limit;
    };
    replies = y.replies ∙ sym x.replies;
  }

  until_until : (a b : Subscribed) (f g : Fault) → IsSettledFault f → IsSettledFault g → IsFedUntil now old piece a f
      → IsFedUntil now old piece b g → (f ≡ g) × IsLeft a b × (b.closed ≡ a.closed)
  until_until a b f g own own' x y =
      elim (compared old.max_frame x.fs y.fs x.rest y.rest (frames_behind old.max_frame done x.fs x.each)
      (frames_behind old.max_frame done y.fs y.each)
      (sym (behind x.fs x.rest x.whole) ∙ behind y.fs y.rest y.whole)) [
        | inl longer ↦ by_more longer.more longer.same longer.left
        | inr longer ↦ absurd (not_yet f y.fs y.rest y.state (a, x) own y.each y.takes longer)
      ]
    where
      by_more : (more : List Frame) → x.fs ≡ y.fs ++ more → y.rest ≡ frames more ++ x.rest → (f ≡ g) × IsLeft a b × (b.closed ≡ a.closed)
      by_more (next ∷ more) same left =
          absurd (not_yet g x.fs x.rest x.state (b, y) own' x.each x.takes
          (record { next = next; more = more; same = same; left = left ∙ append_assoc (frame next) (frames more) x.rest }))
      by_more [] same left =
          let fs : x.fs ≡ y.fs = same ∙ append-nil y.fs in
          let state : y.state ≡ x.state = running (sym y.takes ∙ ap (take_frames now old) (sym fs) ∙ x.takes) in
          let max = old.max_frame in
          let first : Reason now max (has_copy_done (front_of done ++ x.fs)) x.rest x.state f =
          reason now max (has_copy_done (front_of done ++ x.fs)) x.rest x.state f own x.why in
          let other : Reason now max (has_copy_done (front_of done ++ x.fs)) x.rest x.state g =
          subst (λ (s : Subscribed). Reason now max (has_copy_done (front_of done ++ x.fs)) x.rest s g) state
          (subst (λ r. Reason now max (has_copy_done (front_of done ++ x.fs)) r y.state g) left
          (subst (λ gs. Reason now max (has_copy_done (front_of done ++ gs)) y.rest y.state g) (sym fs)
          (reason now max (has_copy_done (front_of done ++ y.fs)) y.rest y.state g own' y.why))) in (
            one_reason now max (has_copy_done (front_of done ++ x.fs)) x.rest x.state f g first other,
            left_same x.state a b x.left (subst (λ (s : Subscribed). IsLeft s b) state y.left),
            y.closed ∙ sym x.closed,
          )

-- ---- by what is answered

is_closed : (now : ℤ) (old new : Subscribed) (piece : List ℕ) (f : Fault) → IsFed now old piece new (Some f)
    → ((f ≡ fault.Closed) × (old.closed ≡ true) × (new ≡ old)) ⊎ ((old.closed ≡ false) × IsFedUntil now old piece new f)
is_closed now old new piece (fault.Wire k) fed = inr fed
is_closed now old new piece (fault.Decode k) fed = inr fed
is_closed now old new piece (fault.Order k) fed = inr fed
is_closed now old new piece (fault.Relation k) fed = inr fed
is_closed now old new piece (fault.Spool k) fed = inr fed
is_closed now old new piece (fault.Store k) fed = inr fed
is_closed now old new piece fault.Read fed = inr fed
is_closed now old new piece fault.Closed fed = inl (refl, fed.0, fed.1)
is_closed now old new piece fault.Memory fed = inr fed

not_both : (b : Bool) → b ≡ true → b ≡ false → ⊥
not_both b t f = let e : true ≡ false = sym t ∙ f in cc

ends_same : (a b : Subscribed) → b ≡ a → IsLeft a b × (b.closed ≡ a.closed)
ends_same a b e = subst (λ (x : Subscribed). IsLeft a x × (x.closed ≡ a.closed)) (sym e)
    (record { tables = refl; progress = refl; settings = record { version = refl; max_frame = refl; limit = refl }; replies = refl }, refl)

pub piece_one : (now : ℤ) (old a b : Subscribed) (piece : List ℕ) (x y : Option Fault) → IsSettled x → IsSettled y → IsFed now old piece a x
    → IsFed now old piece b y → (x ≡ y) × EndsSame x a b
piece_one now old a b piece None None own own' x y = (refl, whole_whole now old piece a b x.1 y.1)
piece_one now old a b piece None (Some g) own own' x y = elim (is_closed now old b piece g y) [
  | inl closed ↦ absurd (not_both old.closed closed.1 x.0)
  | inr until ↦ absurd (whole_until now old piece a b g own' x.1 until.1)
]
piece_one now old a b piece (Some f) None own own' x y = elim (is_closed now old a piece f x) [
  | inl closed ↦ absurd (not_both old.closed closed.1 y.0)
  | inr until ↦ absurd (whole_until now old piece b a f own y.1 until.1)
]
piece_one now old a b piece (Some f) (Some g) own own' x y = elim (is_closed now old a piece f x) [
  | inl closed ↦ elim (is_closed now old b piece g y) [
    | inl also ↦ (ap Some (closed.0 ∙ sym also.0), ends_same a b (also.2 ∙ sym closed.2))
    | inr until ↦ absurd (not_both old.closed closed.1 until.0)
  ]
  | inr until ↦ elim (is_closed now old b piece g y) [
    | inl closed ↦ absurd (not_both old.closed closed.1 until.0)
    | inr also ↦ let both = until_until now old piece a b f g own own' until.1 also.1 in (ap Some both.0, (both.1, both.2))
  ]
]

-- ---- sessions

all_whole : (now : ℤ) (sessions : List (List ℕ)) (old a b : Subscribed) → AreFedWhole now old sessions a → AreFedWhole now old sessions b
    → b ≡ a
all_whole now [] old a b x y = y ∙ sym x
all_whole now (bytes ∷ sessions) old a b x y =
    let mid : y.0 ≡ x.0 = whole_whole now (disconnect old) bytes x.0 y.0 x.1 y.1 in
    all_whole now sessions x.0 a b x.2 (subst (λ (s : Subscribed). AreFedWhole now s sessions b) mid y.2)

whole_or_until : (now : ℤ) (sessions : List (List ℕ)) (old a b : Subscribed) (f : Fault) → IsSettledFault f → AreFedWhole now old sessions a
    → AreFedUntil now old sessions b f → ⊥
whole_or_until now [] old a b f own x y = y
whole_or_until now (bytes ∷ sessions) old a b f own x (inl stops) = whole_until now (disconnect old) bytes x.0 b f own x.1 stops
whole_or_until now (bytes ∷ sessions) old a b f own x (inr y) =
    let mid : y.0 ≡ x.0 = whole_whole now (disconnect old) bytes x.0 y.0 x.1 y.1 in
    whole_or_until now sessions x.0 a b f own x.2 (subst (λ (s : Subscribed). AreFedUntil now s sessions b f) mid y.2)

all_until : (now : ℤ) (sessions : List (List ℕ)) (old a b : Subscribed) (f g : Fault) → IsSettledFault f → IsSettledFault g
    → AreFedUntil now old sessions a f → AreFedUntil now old sessions b g
    → (f ≡ g) × IsLeft a b × (b.closed ≡ a.closed)
all_until now [] old a b f g own own' x y = absurd x
all_until now (bytes ∷ sessions) old a b f g own own' (inl x) (inl y) = until_until now (disconnect old) bytes a b f g own own' x y
all_until now (bytes ∷ sessions) old a b f g own own' (inl x) (inr y) = absurd (whole_until now (disconnect old) bytes y.0 a f own y.1 x)
all_until now (bytes ∷ sessions) old a b f g own own' (inr x) (inl y) = absurd (whole_until now (disconnect old) bytes x.0 b g own' x.1 y)
all_until now (bytes ∷ sessions) old a b f g own own' (inr x) (inr y) =
    let mid : y.0 ≡ x.0 = whole_whole now (disconnect old) bytes x.0 y.0 x.1 y.1 in
    all_until now sessions x.0 a b f g own own' x.2 (subst (λ (s : Subscribed). AreFedUntil now s sessions b g) mid y.2)

pub sessions_one : (now : ℤ) (old a b : Subscribed) (sessions : List (List ℕ)) (x y : Option Fault) → IsSettled x → IsSettled y
    → AreFed now old sessions a x → AreFed now old sessions b y → (x ≡ y) × EndsSame x a b
sessions_one now old a b sessions None None own own' x y = (refl, all_whole now sessions old a b x y)
sessions_one now old a b sessions None (Some g) own own' x y = absurd (whole_or_until now sessions old a b g own' x y)
sessions_one now old a b sessions (Some f) None own own' x y = absurd (whole_or_until now sessions old b a f own y x)
sessions_one now old a b sessions (Some f) (Some g) own own' x y = let both = all_until now sessions old a b f g own own' x y in
    (ap Some both.0, (both.1, both.2))
