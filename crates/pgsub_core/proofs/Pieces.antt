-- Feeding two pieces of a session is feeding them as one.
use Rattle.std.proofs.Common.{◌≡◌, ◌++◌, inl, inr, ℕ, ℤ, List, [], ◌∷◌, Bool, true, false, cond}
use Rattle.std.proofs.Common.{Result, Ok, Err, refl, sym, ap, subst, ◌∙◌, append_assoc}
use Rattle.std.proofs.Common.{length-append, arith}
use Rattle.pglogical.specs.Reading.{message_at}
use Rattle.pglogical.specs.declared.message.Message.{Message}
use Rattle.pglogical.specs.declared.fault.DecodeFault.{DecodeFault}
use Rattle.pgorder.specs.States.{is_in_block}
use Rattle.pgwire.specs.Frames.{Frame, CopyData, CopyDone, frame, frames, AreFrames, IsPartial}
use Rattle.pgwire.specs.Frames.{has_copy_done}
use Rattle.pgwire.specs.Payloads.{ServerMessage, XLogData, Keepalive, payload_at}
use Rattle.pgwire.specs.declared.fault.WireFault.{WireFault}
use Rattle.pgspool.specs.declared.fault.SpoolFault.TheVariants as spool
use Rattle.pgsub_core.specs.declared.fault.Fault.{Fault}
use Rattle.pgsub_core.specs.declared.fault.Fault.TheVariants as fault
use Rattle.pgsub_core.specs.Server.Stream.{Sent, Data, Kind, BeginsPair, CommitsPair, Holds}
use Rattle.pgsub_core.specs.Server.Stream.{StartsBlock, StopsBlock, CommitsStream, AbortsStream}
use Rattle.pgsub_core.specs.Server.Stream.{ChangesNothing, kind}
use Rattle.pgsub_core.specs.Server.Stream as stream
use Rattle.pgsub_core.specs.Machine.Replica.{Outcome, Running, Stopped, then_run}
use Rattle.pgsub_core.specs.Machine.ApplyState.{ApplyState, ApplyResult, step}
use Rattle.pgsub_core.specs.Subscriber.Subscribed.{Subscribed, apply_state_of}
use Rattle.pgsub_core.specs.Machine.Taking.{take, taken_with, take_message, take_payload}
use Rattle.pgsub_core.specs.Machine.Taking.{take_frame, take_frames, handled, passes_limit}
use Rattle.pgsub_core.specs.Machine.Taking.{message_passes_limit, ReachesStore}
use Rattle.pgsub_core.proofs.FedSessions.{take_frames-append}
use Rattle.std.specs.Prelude.{if◌then◌else◌}
use Rattle.pgsub_core.specs.Subscriber.Handled.{IsLeft}
use Rattle.pgsub_core.specs.Subscriber.Causes.{Cause, OutOfMemory, StatementRefused, HeaderTooLarge}
use Rattle.pgsub_core.specs.Subscriber.Causes.{ForeignBytes, NextMessage, NeverAnswered, cause}
use Rattle.pgsub_core.specs.Subscriber.Causes.{SpoolFailed}
use Rattle.pgwire.specs.declared.fault.WireFault.TheVariants as wire_fault
use Rattle.pgwire.specs.Frames.{IsFramingFault}
use Rattle.pgwire.proofs.Holding.{fault-append}
use Rattle.pgsub_core.specs.Subscriber.Subscribed.{disconnect}
use Rattle.pgapply.specs.Tallies.{Tally}
use Rattle.pgwire.proofs.Readings.{one_deframing}
use Rattle.pgsub_core.specs.Machine.Counted.{decoded_counted, payload_counted, frame_counted}
use Rattle.pgsub_core.specs.Machine.Counted.{counted_behind, frames_counted, IsCountedWhole}
use Rattle.pgsub_core.specs.Machine.Counted.{IsCountedFront}
use Rattle.pgsub_core.specs.Machine.Feeding.{IsFedWhole, IsFedUntil, IsCommitFrame, BeginsWith}
use Rattle.pgsub_core.specs.Machine.Feeding.{StopsIn, done_frames}

-- the same with these bytes waiting
abbrev wait : List ℕ → Subscribed → Subscribed
wait r s = record s { partial = r }

abbrev over : List ℕ → Outcome Subscribed Fault → Outcome Subscribed Fault
over r (Running s) = Running (wait r s)
over r (Stopped s why) = Stopped (wait r s) why

passes_over : (r : List ℕ) (s : Subscribed) (k : Kind) → passes_limit (wait r s) k ≡ passes_limit s k
passes_over r s (BeginsPair xid) = refl
passes_over r s (CommitsPair lsn end time) = refl
passes_over r s (Holds subxid item) = refl
passes_over r s (StartsBlock xid first) = refl
passes_over r s StopsBlock = refl
passes_over r s (CommitsStream xid lsn end time) = refl
passes_over r s (AbortsStream xid subxid) = refl
passes_over r s ChangesNothing = refl

limit_over : (r : List ℕ) (s : Subscribed) (m : Sent) → message_passes_limit (wait r s) m ≡ message_passes_limit s m
limit_over r s (Data start end clock m) = passes_over r s (kind m)
limit_over r s (stream.Keepalive end clock asks) = refl

handled_over : (now : ℤ) (r : List ℕ) (s : Subscribed) (m : Sent) (state : ApplyState)
    → handled now m state (wait r s) ≡ wait r (handled now m state s)
handled_over now r s (Data start end clock m) state = refl
handled_over now r s (stream.Keepalive end clock true) state = refl
handled_over now r s (stream.Keepalive end clock false) state = refl

taken_over : (now : ℤ) (r : List ℕ) (s : Subscribed) (m : Sent) (res : ApplyResult)
    → taken_with now (wait r s) m res ≡ over r (taken_with now s m res)
taken_over now r s m (Stopped state why) = refl
taken_over now r s m (Running state) =
    ap (λ b. cond b (Stopped (wait r s) (fault.Spool spool.SpoolFull)) (Running (handled now m state (wait r s)))) (limit_over r s m)
    ∙ by_limit (message_passes_limit s m)
  where
    by_limit : (b : Bool) → cond b (Stopped (wait r s) (fault.Spool spool.SpoolFull)) (Running (handled now m state (wait r s)))
        ≡ over r (cond b (Stopped s (fault.Spool spool.SpoolFull)) (Running (handled now m state s)))
    by_limit true = refl
    by_limit false = ap Running (handled_over now r s m state)

take_over : (now : ℤ) (r : List ℕ) (s : Subscribed) (m : Sent) → take now (wait r s) m ≡ over r (take now s m)
take_over now r s m = taken_over now r s m (step s.version (apply_state_of s) m)

message_over : (now : ℤ) (r : List ℕ) (s : Subscribed) (start end : ℕ) (clock : ℤ) (res : Result Message DecodeFault)
    → take_message now (wait r s) start end clock res ≡ over r (take_message now s start end clock res)
message_over now r s start end clock (Ok m) = take_over now r s (Data start end clock m)
message_over now r s start end clock (Err k) = refl

payload_over : (now : ℤ) (r : List ℕ) (s : Subscribed) (res : Result ServerMessage WireFault)
    → take_payload now (wait r s) res ≡ over r (take_payload now s res)
payload_over now r s (Ok (XLogData start end clock body)) =
    message_over now r s start end clock (message_at (is_in_block s.order.context) body)
payload_over now r s (Ok (Keepalive end clock asks)) = take_over now r s (stream.Keepalive end clock asks)
payload_over now r s (Err k) = refl

frame_over : (now : ℤ) (r : List ℕ) (s : Subscribed) (f : Frame) → take_frame now (wait r s) f ≡ over r (take_frame now s f)
frame_over now r s (CopyData bytes) = payload_over now r s (payload_at bytes)
frame_over now r s CopyDone = refl

then_over : (r : List ℕ) (k : Subscribed → Outcome Subscribed Fault) → ((next : Subscribed) → k (wait r next) ≡ over r (k next))
    → (o : Outcome Subscribed Fault) → then_run (over r o) k ≡ over r (then_run o k)
then_over r k each (Running next) = each next
then_over r k each (Stopped state why) = refl

frames_over : (now : ℤ) (r : List ℕ) (fs : List Frame) (s : Subscribed) → take_frames now (wait r s) fs ≡ over r (take_frames now s fs)
frames_over now r [] s = refl
frames_over now r (f ∷ fs) s =
    ap (λ o. then_run o (λ next. take_frames now next fs)) (frame_over now r s f)
    ∙ then_over r (λ next. take_frames now next fs) (λ next. frames_over now r fs next) (take_frame now s f)

-- whether CopyDone has come behind these frames
abbrev done_after : Bool → List Frame → Bool
done_after d [] = d
done_after d (CopyDone ∷ fs) = done_after true fs
done_after d (CopyData bytes ∷ fs) = done_after d fs

abbrev Keeps : Bool → Subscribed → Outcome Subscribed Fault → Type 0
Keeps done s (Running next) = (next.max_frame ≡ s.max_frame) × (next.copy_done ≡ done) × (next.closed ≡ s.closed)
Keeps done s (Stopped state why) = Unit {0}

handled_keeps : (now : ℤ) (s : Subscribed) (m : Sent) (state : ApplyState) → Keeps s.copy_done s (Running (handled now m state s))
handled_keeps now s (Data start end clock m) state = (refl, refl, refl)
handled_keeps now s (stream.Keepalive end clock true) state = (refl, refl, refl)
handled_keeps now s (stream.Keepalive end clock false) state = (refl, refl, refl)

limit_keeps : (now : ℤ) (s : Subscribed) (m : Sent) (state : ApplyState) (b : Bool)
    → Keeps s.copy_done s (cond b (Stopped s (fault.Spool spool.SpoolFull)) (Running (handled now m state s)))
limit_keeps now s m state true = tt
limit_keeps now s m state false = handled_keeps now s m state

take_keeps : (now : ℤ) (s : Subscribed) (m : Sent) (res : ApplyResult) → Keeps s.copy_done s (taken_with now s m res)
take_keeps now s m (Running state) = limit_keeps now s m state (message_passes_limit s m)
take_keeps now s m (Stopped state why) = tt

message_keeps : (now : ℤ) (s : Subscribed) (start end : ℕ) (clock : ℤ) (res : Result Message DecodeFault)
    → Keeps s.copy_done s (take_message now s start end clock res)
message_keeps now s start end clock (Ok m) =
    take_keeps now s (Data start end clock m) (step s.version (apply_state_of s) (Data start end clock m))
message_keeps now s start end clock (Err k) = tt

payload_keeps : (now : ℤ) (s : Subscribed) (res : Result ServerMessage WireFault) → Keeps s.copy_done s (take_payload now s res)
payload_keeps now s (Ok (XLogData start end clock body)) =
    message_keeps now s start end clock (message_at (is_in_block s.order.context) body)
payload_keeps now s (Ok (Keepalive end clock asks)) =
    take_keeps now s (stream.Keepalive end clock asks) (step s.version (apply_state_of s) (stream.Keepalive end clock asks))
payload_keeps now s (Err k) = tt

frame_keeps : (now : ℤ) (s : Subscribed) (f : Frame) → Keeps (done_after s.copy_done (f ∷ [])) s (take_frame now s f)
frame_keeps now s (CopyData bytes) = payload_keeps now s (payload_at bytes)
frame_keeps now s CopyDone = (refl, refl, refl)

done_step : (d : Bool) (f : Frame) (fs : List Frame) → done_after (done_after d (f ∷ [])) fs ≡ done_after d (f ∷ fs)
done_step d (CopyData bytes) fs = refl
done_step d CopyDone fs = refl

then_keeps : (now : ℤ) (s : Subscribed) (f : Frame) (fs : List Frame)
    → ((next : Subscribed) → Keeps (done_after next.copy_done fs) next (take_frames now next fs)) → (o : Outcome Subscribed Fault)
    → Keeps (done_after s.copy_done (f ∷ [])) s o
    → Keeps (done_after s.copy_done (f ∷ fs)) s (then_run o (λ next. take_frames now next fs))
then_keeps now s f fs each (Stopped state why) h = tt
then_keeps now s f fs each (Running next) h = last (take_frames now next fs) (each next)
  where
    last : (o : Outcome Subscribed Fault) → Keeps (done_after next.copy_done fs) next o → Keeps (done_after s.copy_done (f ∷ fs)) s o
    last (Stopped state why) k = tt
    last (Running end) k = (k.0 ∙ h.0, k.1 ∙ ap (λ d. done_after d fs) h.1 ∙ done_step s.copy_done f fs, k.2 ∙ h.2)

frames_keep : (now : ℤ) (fs : List Frame) (s : Subscribed) → Keeps (done_after s.copy_done fs) s (take_frames now s fs)
frames_keep now [] s = (refl, refl, refl)
frames_keep now (f ∷ fs) s = then_keeps now s f fs (λ next. frames_keep now fs next) (take_frame now s f) (frame_keeps now s f)

-- CopyDone in front where it has come
abbrev pub front_of : Bool → List Frame
front_of d = if d then CopyDone ∷ [] else []

stays_done : (fs : List Frame) → done_after true fs ≡ true
stays_done [] = refl
stays_done (CopyDone ∷ fs) = stays_done fs
stays_done (CopyData bytes ∷ fs) = stays_done fs

frames_join : (max : ℕ) (d : Bool) (a b : List Frame) → AreFrames max (front_of d ++ a) → AreFrames max (front_of (done_after d a) ++ b)
    → AreFrames max (front_of d ++ (a ++ b))
frames_join max true a b h k =
    let k' : AreFrames max (front_of true ++ b) = subst (λ d. AreFrames max (front_of d ++ b)) (stays_done a) k in
    ap (λ xs. xs ++ b) h ∙ k'
frames_join max false [] b h k = k
frames_join max false (CopyData bytes ∷ a) b h k = (h.0, frames_join max false a b h.1 k)
frames_join max false (CopyDone ∷ a) b h k =
    let k' : AreFrames max (front_of true ++ b) = subst (λ d. AreFrames max (front_of d ++ b)) (stays_done a) k in
    ap (λ xs. xs ++ b) h ∙ k'

done_join : (d : Bool) (a b : List Frame) → has_copy_done (front_of d ++ (a ++ b)) ≡ has_copy_done (front_of (done_after d a) ++ b)
done_join true a b = sym (ap (λ d. has_copy_done (front_of d ++ b)) (stays_done a))
done_join false [] b = refl
done_join false (CopyData bytes ∷ a) b = done_join false a b
done_join false (CopyDone ∷ a) b = sym (ap (λ d. has_copy_done (front_of d ++ b)) (stays_done a))

frames_of_both : (a b : List Frame) → frames (a ++ b) ≡ frames a ++ frames b
frames_of_both [] b = refl
frames_of_both (f ∷ a) b = ap (λ bs. frame f ++ bs) (frames_of_both a b) ∙ sym (append_assoc (frame f) (frames a) (frames b))

pub without_done : (d : Bool) (bytes rest : List ℕ) (fs : List Frame) → frames (front_of d) ++ bytes ≡ frames (front_of d ++ fs) ++ rest
    → bytes ≡ frames fs ++ rest
without_done true bytes rest fs e = cc
without_done false bytes rest fs e = e

running_of : (r : List ℕ) (o : Outcome Subscribed Fault) (s : Subscribed) → over r o ≡ Running s
    → (t : Subscribed) × (o ≡ Running t) × (wait r t ≡ s)
running_of r (Running t) s e = (t, refl, cc)
running_of r (Stopped t why) s e = absurd (cc)

pub two_pieces : (now : ℤ) (old mid new : Subscribed) (p q : List ℕ) → IsFedWhole now old p mid → IsFedWhole now mid q new
    → IsFedWhole now old (p ++ q) new
two_pieces now old mid new p q a b' =
    let b : IsFedWhole now (wait a.rest a.state) q new = subst (λ x. IsFedWhole now x q new) a.left b' in
    let through = running_of a.rest (take_frames now a.state b.fs) b.state (sym (frames_over now a.rest b.fs a.state) ∙ b.takes) in
    let kept : Keeps (done_after old.copy_done a.fs) old (Running a.state) =
    subst (Keeps (done_after old.copy_done a.fs) old) a.takes (frames_keep now a.fs old) in
    let D = done_frames old in
    let behind : a.rest ++ q ≡ frames b.fs ++ b.rest = without_done a.state.copy_done (a.rest ++ q) b.rest b.fs b.deframed.whole in
    record {
      fs = a.fs ++ b.fs;
      rest = b.rest;
      state = through.0;
      deframed = record {
        whole = ap (λ bs. frames D ++ bs) (sym (append_assoc old.partial p q)) ∙ sym (append_assoc (frames D) (old.partial ++ p) q)
            ∙ ap (λ bs. bs ++ q) a.deframed.whole
            ∙ append_assoc (frames (D ++ a.fs)) a.rest q ∙ ap (λ bs. frames (D ++ a.fs) ++ bs) behind
            ∙ sym (append_assoc (frames (D ++ a.fs)) (frames b.fs) b.rest)
            ∙ ap (λ bs. bs ++ b.rest) (sym (frames_of_both (D ++ a.fs) b.fs) ∙ ap frames (append_assoc D a.fs b.fs));
        each = frames_join old.max_frame old.copy_done a.fs b.fs a.deframed.each
            (subst (λ d. AreFrames old.max_frame (front_of d ++ b.fs)) kept.1
            (subst (λ n. AreFrames n (front_of a.state.copy_done ++ b.fs)) kept.0 b.deframed.each));
        partial = subst (λ n. IsPartial n b.rest) kept.0 b.deframed.partial;
        last = λ e. b.deframed.last (ap (λ d. has_copy_done (front_of d ++ b.fs)) kept.1 ∙ sym (done_join old.copy_done a.fs b.fs) ∙ e);
      };
      takes = take_frames-append now a.fs b.fs old ∙ ap (λ o. then_run o (λ next. take_frames now next b.fs)) a.takes ∙ through.1;
      left = b.left ∙ ap (λ (x : Subscribed). wait b.rest x) (sym through.2);
    }

stopped_of : (r : List ℕ) (o : Outcome Subscribed Fault) (s : Subscribed) (f : Fault) → over r o ≡ Stopped s f
    → (t : Subscribed) × (o ≡ Stopped t f)
stopped_of r (Running t) s f e = absurd (cc)
stopped_of r (Stopped t why) s f e = let same : why ≡ f = cc in (t, ap (λ w. Stopped t w) same)

commit_frame : (r : List ℕ) (t : Subscribed) (f : Frame) → IsCommitFrame (wait r t) f → IsCommitFrame t f
commit_frame r t f c = record {
  payload = c.payload;
  start = c.start;
  current = c.current;
  clock = c.clock;
  body = c.body;
  message = c.message;
  end = c.end;
  frame = c.frame;
  xlog_data = c.xlog_data;
  decodes = c.decodes;
  commits = c.commits;
  passes = c.passes;
}

reaches_over : (r : List ℕ) (o : Outcome Subscribed Fault) → ReachesStore (over r o) → ReachesStore o
reaches_over r (Running s) h = tt
reaches_over r (Stopped s why) h = h

stops_in : (now : ℤ) (max : ℕ) (done : Bool) (rest r : List ℕ) (t : Subscribed) (f : Fault) (c : Cause)
    → StopsIn now max done rest (wait r t) f c → StopsIn now max done rest t f c
stops_in now max done rest r t f OutOfMemory why = tt
stops_in now max done rest r t f SpoolFailed why = tt
stops_in now max done rest r t f StatementRefused why = (
  why.0,
  why.1,
  commit_frame r t why.0 why.2,
  reaches_over r (take_frame now t why.0) (subst ReachesStore (frame_over now r t why.0) why.3),
)
stops_in now max done rest r t f HeaderTooLarge why = why
stops_in now max done rest r t f ForeignBytes why = why
stops_in now max done rest r t f NextMessage (inl why) = inl why
stops_in now max done rest r t f NextMessage (inr why) =
    let stops = stopped_of r (take_frame now t why.0) why.1 f (sym (frame_over now r t why.0) ∙ why.3) in
    inr (why.0, stops.0, why.2, stops.1)
stops_in now max done rest r t f NeverAnswered why = why

left_in : (r : List ℕ) (t new : Subscribed) → IsLeft (wait r t) new → IsLeft t new
left_in r t new l = record {
  tables = l.tables;
  progress = l.progress;
  settings = record { version = l.settings.version; max_frame = l.settings.max_frame; limit = l.settings.limit };
  replies = l.replies;
}

pub piece_then_stop : (now : ℤ) (old mid new : Subscribed) (p q : List ℕ) (f : Fault) → IsFedWhole now old p mid
    → IsFedUntil now mid q new f → IsFedUntil now old (p ++ q) new f
piece_then_stop now old mid new p q f a b' =
    let b : IsFedUntil now (wait a.rest a.state) q new f = subst (λ x. IsFedUntil now x q new f) a.left b' in
    let through = running_of a.rest (take_frames now a.state b.fs) b.state (sym (frames_over now a.rest b.fs a.state) ∙ b.takes) in
    let kept : Keeps (done_after old.copy_done a.fs) old (Running a.state) =
    subst (Keeps (done_after old.copy_done a.fs) old) a.takes (frames_keep now a.fs old) in
    let D = done_frames old in
    let behind : a.rest ++ q ≡ frames b.fs ++ b.rest = without_done a.state.copy_done (a.rest ++ q) b.rest b.fs b.whole in
    let why : StopsIn now a.state.max_frame (has_copy_done (front_of a.state.copy_done ++ b.fs)) b.rest through.0 f (cause f) =
    stops_in now a.state.max_frame (has_copy_done (front_of a.state.copy_done ++ b.fs)) b.rest a.rest through.0 f (cause f)
    (subst (λ x. StopsIn now a.state.max_frame (has_copy_done (front_of a.state.copy_done ++ b.fs)) b.rest x f (cause f)) (sym through.2)
    b.why) in
    record {
      fs = a.fs ++ b.fs;
      rest = b.rest;
      state = through.0;
      whole = ap (λ bs. frames D ++ bs) (sym (append_assoc old.partial p q)) ∙ sym (append_assoc (frames D) (old.partial ++ p) q)
          ∙ ap (λ bs. bs ++ q) a.deframed.whole
          ∙ append_assoc (frames (D ++ a.fs)) a.rest q ∙ ap (λ bs. frames (D ++ a.fs) ++ bs) behind
          ∙ sym (append_assoc (frames (D ++ a.fs)) (frames b.fs) b.rest)
          ∙ ap (λ bs. bs ++ b.rest) (sym (frames_of_both (D ++ a.fs) b.fs) ∙ ap frames (append_assoc D a.fs b.fs));
      each = frames_join old.max_frame old.copy_done a.fs b.fs a.deframed.each
          (subst (λ d. AreFrames old.max_frame (front_of d ++ b.fs)) kept.1
          (subst (λ n. AreFrames n (front_of a.state.copy_done ++ b.fs)) kept.0 b.each));
      takes = take_frames-append now a.fs b.fs old ∙ ap (λ o. then_run o (λ next. take_frames now next b.fs)) a.takes ∙ through.1;
      left = left_in a.rest through.0 new (subst (λ x. IsLeft x new) (sym through.2) b.left);
      closed = b.closed;
      why = subst (λ n. StopsIn now n (has_copy_done (D ++ (a.fs ++ b.fs))) b.rest through.0 f (cause f)) kept.0
          (subst (λ h. StopsIn now a.state.max_frame h b.rest through.0 f (cause f))
          (ap (λ d. has_copy_done (front_of d ++ b.fs)) kept.1 ∙ sym (done_join old.copy_done a.fs b.fs)) why);
    }

begins_more : (max : ℕ) (done : Bool) (bytes more : List ℕ) (f : Frame) → BeginsWith max done bytes f
    → BeginsWith max done (bytes ++ more) f
begins_more max done bytes more f b =
    record {
      more = b.more ++ more;
      going_on = b.going_on;
      whole = ap (λ bs. bs ++ more) b.whole ∙ append_assoc (frame f) b.more more;
      allowed = b.allowed;
    }

fault_more : (max : ℕ) (done : Bool) (bytes more : List ℕ) (k : WireFault) → IsFramingFault max done bytes k
    → IsFramingFault max done (bytes ++ more) k
fault_more max false bytes more k breaks = fault-append max bytes more k breaks
fault_more max true bytes more wire_fault.AfterDone breaks = (refl, omega (arith, breaks.1, length-append bytes more))
fault_more max true bytes more (wire_fault.UnknownFrame byte) breaks = absurd (let e = breaks.0 in cc)
fault_more max true bytes more wire_fault.BadLength breaks = absurd (let e = breaks.0 in cc)
fault_more max true bytes more wire_fault.TooLarge breaks = absurd (let e = breaks.0 in cc)
fault_more max true bytes more (wire_fault.UnknownServerMessage _) breaks = elim breaks [ ]
fault_more max true bytes more wire_fault.Short breaks = elim breaks [ ]
fault_more max true bytes more wire_fault.Trailing breaks = elim breaks [ ]
fault_more max true bytes more wire_fault.BadReplyByte breaks = elim breaks [ ]
fault_more max true bytes more wire_fault.Memory breaks = elim breaks [ ]

stops_more : (now : ℤ) (max : ℕ) (done : Bool) (rest more : List ℕ) (s : Subscribed) (f : Fault) (c : Cause)
    → StopsIn now max done rest s f c → StopsIn now max done (rest ++ more) s f c
stops_more now max done rest more s f OutOfMemory why = tt
stops_more now max done rest more s f SpoolFailed why = tt
stops_more now max done rest more s f StatementRefused why = (why.0, begins_more max done rest more why.0 why.1, why.2, why.3)
stops_more now max done rest more s f HeaderTooLarge why = (why.0, why.1, fault_more max done rest more why.0 why.2)
stops_more now max done rest more s f ForeignBytes why = (why.0, why.1, fault_more max done rest more why.0 why.2)
stops_more now max done rest more s f NextMessage (inl why) = inl (why.0, why.1, fault_more max done rest more why.0 why.2)
stops_more now max done rest more s f NextMessage (inr why) = inr (why.0, why.1, begins_more max done rest more why.0 why.2, why.3)
stops_more now max done rest more s f NeverAnswered why = why

-- what comes behind a fault changes nothing of it
pub stop_stands : (now : ℤ) (old new : Subscribed) (p q : List ℕ) (f : Fault) → IsFedUntil now old p new f
    → IsFedUntil now old (p ++ q) new f
stop_stands now old new p q f u =
    let D = done_frames old in
    record {
      fs = u.fs;
      rest = u.rest ++ q;
      state = u.state;
      whole = ap (λ bs. frames D ++ bs) (sym (append_assoc old.partial p q)) ∙ sym (append_assoc (frames D) (old.partial ++ p) q)
          ∙ ap (λ bs. bs ++ q) u.whole ∙ append_assoc (frames (D ++ u.fs)) u.rest q;
      each = u.each;
      takes = u.takes;
      left = u.left;
      closed = u.closed;
      why = stops_more now old.max_frame (has_copy_done (D ++ u.fs)) u.rest q u.state f (cause f) u.why;
    }

-- a piece that is taken whole closes nothing
pub stays_open : (now : ℤ) (old new : Subscribed) (p : List ℕ) → IsFedWhole now old p new → new.closed ≡ old.closed
stays_open now old new p fed =
    let kept : Keeps (done_after old.copy_done fed.fs) old (Running fed.state) =
    subst (Keeps (done_after old.copy_done fed.fs) old) fed.takes (frames_keep now fed.fs old) in
    ap (λ (x : Subscribed). x.closed) fed.left ∙ kept.2

-- no piece at all, from a disconnection on
pub nothing_fed : (now : ℤ) (s : Subscribed) → IsFedWhole now (disconnect s) [] (disconnect s)
nothing_fed now s = record {
  fs = [];
  rest = [];
  state = disconnect s;
  deframed = record {
    whole = refl;
    each = tt;
    partial = record { tag = λ some. absurd (omega arith); payload = λ long. absurd (omega arith) };
    last = λ e. refl;
  };
  takes = refl;
  left = refl;
}

-- ---- what is counted of both

payload_counted_over : (r : List ℕ) (s : Subscribed) (res : Result ServerMessage WireFault) (m : Tally)
    → payload_counted (wait r s) res m ≡ payload_counted s res m
payload_counted_over r s (Ok (XLogData start end clock body)) m = by (message_at (is_in_block s.order.context) body)
  where
    by : (read : Result Message DecodeFault) → decoded_counted (wait r s) read m ≡ decoded_counted s read m
    by (Ok message) = refl
    by (Err k) = refl
payload_counted_over r s (Ok (Keepalive end clock asks)) m = refl
payload_counted_over r s (Err k) m = refl

frame_counted_over : (r : List ℕ) (s : Subscribed) (f : Frame) (m : Tally) → frame_counted (wait r s) f m ≡ frame_counted s f m
frame_counted_over r s (CopyData bytes) m = payload_counted_over r s (payload_at bytes) m
frame_counted_over r s CopyDone m = refl

behind_over : (r : List ℕ) (k : Subscribed → Tally) (m : Tally) → ((next : Subscribed) → k (wait r next) ≡ k next)
    → (o : Outcome Subscribed Fault) → counted_behind (over r o) k m ≡ counted_behind o k m
behind_over r k m each (Running next) = each next
behind_over r k m each (Stopped s why) = refl

-- the bytes that wait have no say in it
frames_counted_over : (now : ℤ) (r : List ℕ) (fs : List Frame) (s : Subscribed) (m : Tally)
    → frames_counted now (wait r s) fs m ≡ frames_counted now s fs m
frames_counted_over now r [] s m = refl
frames_counted_over now r (f ∷ fs) s m =
    ap (λ (k : Tally). counted_behind (take_frame now (wait r s) f) (λ next. frames_counted now next fs k) k) (frame_counted_over r s f m)
    ∙ ap (λ o. counted_behind o (λ next. frames_counted now next fs (frame_counted s f m)) (frame_counted s f m)) (frame_over now r s f)
    ∙ behind_over r (λ next. frames_counted now next fs (frame_counted s f m)) (frame_counted s f m)
    (λ next. frames_counted_over now r fs next (frame_counted s f m)) (take_frame now s f)

behind_both : (now : ℤ) (a b : List Frame) (mid : Subscribed) (m : Tally) (o : Outcome Subscribed Fault)
    → ((next : Subscribed) → take_frames now next a ≡ Running mid
    → frames_counted now next (a ++ b) m ≡ frames_counted now mid b (frames_counted now next a m))
    → then_run o (λ next. take_frames now next a) ≡ Running mid
    → counted_behind o (λ next. frames_counted now next (a ++ b) m) m
    ≡ frames_counted now mid b (counted_behind o (λ next. frames_counted now next a m) m)
behind_both now a b mid m (Running next) each e = each next e
behind_both now a b mid m (Stopped s why) each e = absurd (cc)

pub frames_counted-append : (now : ℤ) (a b : List Frame) (s mid : Subscribed) (m : Tally) → take_frames now s a ≡ Running mid
    → frames_counted now s (a ++ b) m ≡ frames_counted now mid b (frames_counted now s a m)
frames_counted-append now [] b s mid m e = ap (λ (x : Subscribed). frames_counted now x b m) (let same : s ≡ mid = cc in same)
frames_counted-append now (f ∷ a) b s mid m e =
    behind_both now a b mid (frame_counted s f m) (take_frame now s f)
    (λ next k. frames_counted-append now a b next mid (frame_counted s f m) k) e

counted_two : (now : ℤ) (old : Subscribed) (p q : List ℕ) (x y : ℕ) (before between behind : Tally)
    (a : IsCountedWhole now old p x before between) → IsCountedWhole now (wait a.rest a.state) q y between behind
    → IsCountedWhole now old (p ++ q) y before behind
counted_two now old p q x y before between behind a b =
    let through = running_of a.rest (take_frames now a.state b.fs) b.state (sym (frames_over now a.rest b.fs a.state) ∙ b.takes) in
    let kept : Keeps (done_after old.copy_done a.fs) old (Running a.state) =
    subst (Keeps (done_after old.copy_done a.fs) old) a.takes (frames_keep now a.fs old) in
    let D = done_frames old in
    let next : a.rest ++ q ≡ frames b.fs ++ b.rest = without_done a.state.copy_done (a.rest ++ q) b.rest b.fs b.deframed.whole in
    record {
      fs = a.fs ++ b.fs;
      rest = b.rest;
      state = through.0;
      deframed = record {
        whole = ap (λ bs. frames D ++ bs) (sym (append_assoc old.partial p q)) ∙ sym (append_assoc (frames D) (old.partial ++ p) q)
            ∙ ap (λ bs. bs ++ q) a.deframed.whole
            ∙ append_assoc (frames (D ++ a.fs)) a.rest q ∙ ap (λ bs. frames (D ++ a.fs) ++ bs) next
            ∙ sym (append_assoc (frames (D ++ a.fs)) (frames b.fs) b.rest)
            ∙ ap (λ bs. bs ++ b.rest) (sym (frames_of_both (D ++ a.fs) b.fs) ∙ ap frames (append_assoc D a.fs b.fs));
        each = frames_join old.max_frame old.copy_done a.fs b.fs a.deframed.each
            (subst (λ d. AreFrames old.max_frame (front_of d ++ b.fs)) kept.1
            (subst (λ n. AreFrames n (front_of a.state.copy_done ++ b.fs)) kept.0 b.deframed.each));
        partial = subst (λ n. IsPartial n b.rest) kept.0 b.deframed.partial;
        last = λ e. b.deframed.last (ap (λ d. has_copy_done (front_of d ++ b.fs)) kept.1 ∙ sym (done_join old.copy_done a.fs b.fs) ∙ e);
      };
      takes = take_frames-append now a.fs b.fs old ∙ ap (λ o. then_run o (λ s. take_frames now s b.fs)) a.takes ∙ through.1;
      stands = b.stands ∙ ap (λ (s : Subscribed). s.position) (sym through.2);
      counts = b.counts ∙ frames_counted_over now a.rest b.fs a.state between ∙ ap (frames_counted now a.state b.fs) a.counts
          ∙ sym (frames_counted-append now a.fs b.fs old a.state before a.takes);
    }

-- and where but a front of the second is counted
front_two : (now : ℤ) (old : Subscribed) (p q : List ℕ) (x y : ℕ) (before between behind : Tally)
    (a : IsCountedWhole now old p x before between) → IsCountedFront now (wait a.rest a.state) q y between behind
    → IsCountedFront now old (p ++ q) y before behind
front_two now old p q x y before between behind a b =
    let through = running_of a.rest (take_frames now a.state b.fs) b.state (sym (frames_over now a.rest b.fs a.state) ∙ b.takes) in
    let kept : Keeps (done_after old.copy_done a.fs) old (Running a.state) =
    subst (Keeps (done_after old.copy_done a.fs) old) a.takes (frames_keep now a.fs old) in
    let D = done_frames old in
    let next : a.rest ++ q ≡ frames b.fs ++ b.rest = without_done a.state.copy_done (a.rest ++ q) b.rest b.fs b.whole in
    record {
      fs = a.fs ++ b.fs;
      rest = b.rest;
      state = through.0;
      whole = ap (λ bs. frames D ++ bs) (sym (append_assoc old.partial p q)) ∙ sym (append_assoc (frames D) (old.partial ++ p) q)
          ∙ ap (λ bs. bs ++ q) a.deframed.whole
          ∙ append_assoc (frames (D ++ a.fs)) a.rest q ∙ ap (λ bs. frames (D ++ a.fs) ++ bs) next
          ∙ sym (append_assoc (frames (D ++ a.fs)) (frames b.fs) b.rest)
          ∙ ap (λ bs. bs ++ b.rest) (sym (frames_of_both (D ++ a.fs) b.fs) ∙ ap frames (append_assoc D a.fs b.fs));
      each = frames_join old.max_frame old.copy_done a.fs b.fs a.deframed.each
          (subst (λ d. AreFrames old.max_frame (front_of d ++ b.fs)) kept.1
          (subst (λ n. AreFrames n (front_of a.state.copy_done ++ b.fs)) kept.0 b.each));
      takes = take_frames-append now a.fs b.fs old ∙ ap (λ o. then_run o (λ s. take_frames now s b.fs)) a.takes ∙ through.1;
      stands = b.stands ∙ ap (λ (s : Subscribed). s.position) (sym through.2);
      counts = b.counts ∙ frames_counted_over now a.rest b.fs a.state between ∙ ap (frames_counted now a.state b.fs) a.counts
          ∙ sym (frames_counted-append now a.fs b.fs old a.state before a.takes);
    }

-- a front is one of longer bytes
pub front_stands : (now : ℤ) (old : Subscribed) (p q : List ℕ) (position : ℕ) (before behind : Tally)
    → IsCountedFront now old p position before behind → IsCountedFront now old (p ++ q) position before behind
front_stands now old p q position before behind c =
    let D = done_frames old in
    record {
      fs = c.fs;
      rest = c.rest ++ q;
      state = c.state;
      whole = ap (λ bs. frames D ++ bs) (sym (append_assoc old.partial p q)) ∙ sym (append_assoc (frames D) (old.partial ++ p) q)
          ∙ ap (λ bs. bs ++ q) c.whole ∙ append_assoc (frames (D ++ c.fs)) c.rest q;
      each = c.each;
      takes = c.takes;
      stands = c.stands;
      counts = c.counts;
    }

same_frames : (d : List Frame) (a b : List Frame) → d ++ a ≡ d ++ b → a ≡ b
same_frames [] a b e = e
same_frames (f ∷ d) a b e = same_frames d a b (cc)

same_state : (o : Outcome Subscribed Fault) (a b : Subscribed) → o ≡ Running a → o ≡ Running b → a ≡ b
same_state o a b x y = let same : ◌≡◌ {A = Outcome Subscribed Fault} (Running a) (Running b) = sym x ∙ y in cc

pub one_count : (now : ℤ) (old : Subscribed) (piece : List ℕ) (p q : ℕ) (before a b : Tally) → IsCountedWhole now old piece p before a
    → IsCountedWhole now old piece q before b → (a ≡ b) × (p ≡ q)
one_count now old piece p q before a b x y =
    let one = one_deframing old.max_frame old.max_frame _ _ _ _ _ x.deframed y.deframed in
    let fs = same_frames (done_frames old) x.fs y.fs one.0 in
    let state = same_state (take_frames now old x.fs) x.state y.state x.takes (ap (take_frames now old) fs ∙ y.takes) in (
      x.counts ∙ ap (λ (l : List Frame). frames_counted now old l before) fs ∙ sym y.counts,
      x.stands ∙ ap (λ (s : Subscribed). s.position) state ∙ sym y.stands,
    )

-- what is fed of a piece and what is counted of it end in one state
fed_and_counted : (now : ℤ) (old mid : Subscribed) (piece : List ℕ) (p : ℕ) (before between : Tally) → IsFedWhole now old piece mid
    → (a : IsCountedWhole now old piece p before between) → mid ≡ wait a.rest a.state
fed_and_counted now old mid piece p before between fed a =
    let one = one_deframing old.max_frame old.max_frame _ _ _ _ _ fed.deframed a.deframed in
    let fs = same_frames (done_frames old) fed.fs a.fs one.0 in
    let state = same_state (take_frames now old fed.fs) fed.state a.state fed.takes (ap (take_frames now old) fs ∙ a.takes) in
    fed.left ∙ ap (λ (s : Subscribed). wait fed.rest s) state ∙ ap (λ (r : List ℕ). wait r a.state) one.1

pub counted_pieces : (now : ℤ) (old mid : Subscribed) (piece next : List ℕ) (p q : ℕ) (before between behind : Tally)
    → IsFedWhole now old piece mid → IsCountedWhole now old piece p before between → IsCountedWhole now mid next q between behind
    → IsCountedWhole now old (piece ++ next) q before behind
counted_pieces now old mid piece next p q before between behind fed a b =
    counted_two now old piece next p q before between behind a
    (subst (λ (s : Subscribed). IsCountedWhole now s next q between behind) (fed_and_counted now old mid piece p before between fed a)
    b)

pub front_pieces : (now : ℤ) (old mid : Subscribed) (piece next : List ℕ) (p q : ℕ) (before between behind : Tally)
    → IsFedWhole now old piece mid → IsCountedWhole now old piece p before between → IsCountedFront now mid next q between behind
    → IsCountedFront now old (piece ++ next) q before behind
front_pieces now old mid piece next p q before between behind fed a b =
    front_two now old piece next p q before between behind a
    (subst (λ (s : Subscribed). IsCountedFront now s next q between behind) (fed_and_counted now old mid piece p before between fed a)
    b)
