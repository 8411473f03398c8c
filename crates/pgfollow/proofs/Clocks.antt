-- What a subscriber does is the same at any clock and with any bytes waiting to be sent, but for
-- these bytes.
use Rattle.std.proofs.Common.{◌≡◌, ℕ, ℤ, List, [], ◌∷◌, Bool, true, false, cond, Result, Ok, Err}
use Rattle.std.proofs.Common.{refl, sym, ap, subst, ◌∙◌}
use Rattle.pglogical.specs.Reading.{message_at}
use Rattle.pglogical.specs.declared.message.Message.{Message}
use Rattle.pglogical.specs.declared.fault.DecodeFault.{DecodeFault}
use Rattle.pgorder.specs.States.{is_in_block}
use Rattle.pgwire.specs.Frames.{Frame, CopyData, CopyDone}
use Rattle.pgwire.specs.Payloads.{ServerMessage, XLogData, Keepalive, payload_at}
use Rattle.pgwire.specs.declared.fault.WireFault.{WireFault}
use Rattle.pgspool.specs.declared.fault.SpoolFault.TheVariants as spool
use Rattle.pgsub_core.specs.declared.fault.Fault.{Fault}
use Rattle.pgsub_core.specs.declared.fault.Fault.TheVariants as fault
use Rattle.pgsub_core.specs.Server.Stream.{Sent, Data, Kind, BeginsPair, CommitsPair, Holds}
use Rattle.pgsub_core.specs.Server.Stream.{StartsBlock, StopsBlock, CommitsStream, AbortsStream}
use Rattle.pgsub_core.specs.Server.Stream.{ChangesNothing, kind}
use Rattle.pgsub_core.specs.Server.Stream as stream
use Rattle.pgsub_core.specs.Machine.Replica.{Outcome, Running, Stopped, then_run}
use Rattle.pgsub_core.specs.Machine.ApplyState.{ApplyState, ApplyResult, step}
use Rattle.pgsub_core.specs.Subscriber.Subscribed.{Subscribed, apply_state_of}
use Rattle.pgsub_core.specs.Machine.Taking.{take, taken_with, take_message, take_payload}
use Rattle.pgsub_core.specs.Machine.Taking.{take_frame, take_frames, handled, passes_limit}
use Rattle.pgsub_core.specs.Machine.Taking.{message_passes_limit}
use Rattle.pgsub_core.specs.Machine.Feeding.{IsFedWhole, IsFedUntil}
use Rattle.pgapply.specs.Tallies.{Tally}
use Rattle.pgsub_core.specs.Machine.Counted.{decoded_counted, payload_counted, frame_counted}
use Rattle.pgsub_core.specs.Machine.Counted.{counted_behind, frames_counted, IsCountedWhole}
use Rattle.pgsub_core.specs.Machine.Counted.{IsCountedFront}
use Rattle.pgsub_core.proofs.Steps.{goes_through}

-- the same with these bytes waiting to be sent
abbrev pub quiet : List ℕ → Subscribed → Subscribed
quiet r s = record s { replies = r }

abbrev pub TakesAlike : Outcome Subscribed Fault → Outcome Subscribed Fault → Type 0
TakesAlike (Running s) o = (r : List ℕ) × (o ≡ Running (quiet r s))
TakesAlike (Stopped s why) o = Unit {0}

passes_quiet : (r : List ℕ) (s : Subscribed) (k : Kind) → passes_limit (quiet r s) k ≡ passes_limit s k
passes_quiet r s (BeginsPair xid) = refl
passes_quiet r s (CommitsPair lsn end time) = refl
passes_quiet r s (Holds subxid item) = refl
passes_quiet r s (StartsBlock xid first) = refl
passes_quiet r s StopsBlock = refl
passes_quiet r s (CommitsStream xid lsn end time) = refl
passes_quiet r s (AbortsStream xid subxid) = refl
passes_quiet r s ChangesNothing = refl

limit_quiet : (r : List ℕ) (s : Subscribed) (m : Sent) → message_passes_limit (quiet r s) m ≡ message_passes_limit s m
limit_quiet r s (Data start end clock m) = passes_quiet r s (kind m)
limit_quiet r s (stream.Keepalive end clock asks) = refl

handled_quiet : (now now' : ℤ) (r : List ℕ) (s : Subscribed) (m : Sent) (state : ApplyState)
    → (r' : List ℕ) × (handled now' m state (quiet r s) ≡ quiet r' (handled now m state s))
handled_quiet now now' r s (Data start end clock m) state = (r, refl)
handled_quiet now now' r s (stream.Keepalive end clock true) state =
    ((handled now' (stream.Keepalive end clock true) state (quiet r s)).replies, refl)
handled_quiet now now' r s (stream.Keepalive end clock false) state = (r, refl)

taken_quiet : (now now' : ℤ) (r : List ℕ) (s : Subscribed) (m : Sent) (res : ApplyResult)
    → TakesAlike (taken_with now s m res) (taken_with now' (quiet r s) m res)
taken_quiet now now' r s m (Stopped state why) = tt
taken_quiet now now' r s m (Running state) =
    subst (λ (b : Bool). TakesAlike (taken_with now s m (Running state))
    (cond b (Stopped (quiet r s) (fault.Spool spool.SpoolFull)) (Running (handled now' m state (quiet r s))))) (sym (limit_quiet r s m))
    (by_limit (message_passes_limit s m))
  where
    by_limit : (b : Bool) → TakesAlike (cond b (Stopped s (fault.Spool spool.SpoolFull)) (Running (handled now m state s)))
        (cond b (Stopped (quiet r s) (fault.Spool spool.SpoolFull)) (Running (handled now' m state (quiet r s))))
    by_limit true = tt
    by_limit false = let same = handled_quiet now now' r s m state in (same.0, ap Running same.1)

take_quiet : (now now' : ℤ) (r : List ℕ) (s : Subscribed) (m : Sent) → TakesAlike (take now s m) (take now' (quiet r s) m)
take_quiet now now' r s m = taken_quiet now now' r s m (step s.version (apply_state_of s) m)

message_quiet : (now now' : ℤ) (r : List ℕ) (s : Subscribed) (start end : ℕ) (clock : ℤ) (res : Result Message DecodeFault)
    → TakesAlike (take_message now s start end clock res) (take_message now' (quiet r s) start end clock res)
message_quiet now now' r s start end clock (Ok m) = take_quiet now now' r s (Data start end clock m)
message_quiet now now' r s start end clock (Err k) = tt

payload_quiet : (now now' : ℤ) (r : List ℕ) (s : Subscribed) (res : Result ServerMessage WireFault)
    → TakesAlike (take_payload now s res) (take_payload now' (quiet r s) res)
payload_quiet now now' r s (Ok (XLogData start end clock body)) =
    message_quiet now now' r s start end clock (message_at (is_in_block s.order.context) body)
payload_quiet now now' r s (Ok (Keepalive end clock asks)) = take_quiet now now' r s (stream.Keepalive end clock asks)
payload_quiet now now' r s (Err k) = tt

frame_quiet : (now now' : ℤ) (r : List ℕ) (s : Subscribed) (f : Frame) → TakesAlike (take_frame now s f) (take_frame now' (quiet r s) f)
frame_quiet now now' r s (CopyData bytes) = payload_quiet now now' r s (payload_at bytes)
frame_quiet now now' r s CopyDone = (r, refl)

then_quiet : (k k' : Subscribed → Outcome Subscribed Fault) → ((r : List ℕ) (s : Subscribed) → TakesAlike (k s) (k' (quiet r s)))
    → (o o' : Outcome Subscribed Fault) → TakesAlike o o' → TakesAlike (then_run o k) (then_run o' k')
then_quiet k k' each (Running s) o' h = subst (λ (x : Outcome Subscribed Fault). TakesAlike (k s) (then_run x k')) (sym h.1) (each h.0 s)
then_quiet k k' each (Stopped s why) o' h = tt

pub frames_quiet : (now now' : ℤ) (fs : List Frame) (r : List ℕ) (s : Subscribed)
    → TakesAlike (take_frames now s fs) (take_frames now' (quiet r s) fs)
frames_quiet now now' [] r s = (r, refl)
frames_quiet now now' (f ∷ fs) r s =
    then_quiet (λ next. take_frames now next fs) (λ next. take_frames now' next fs) (frames_quiet now now' fs) (take_frame now s f)
    (take_frame now' (quiet r s) f) (frame_quiet now now' r s f)

-- a piece that is fed whole
pub whole_quiet : (now now' : ℤ) (r : List ℕ) (old new : Subscribed) (piece : List ℕ) → IsFedWhole now old piece new
    → (r' : List ℕ) × IsFedWhole now' (quiet r old) piece (quiet r' new)
whole_quiet now now' r old new piece fed =
    let alike : TakesAlike (Running fed.state) (take_frames now' (quiet r old) fed.fs) =
    subst (λ (o : Outcome Subscribed Fault). TakesAlike o (take_frames now' (quiet r old) fed.fs)) fed.takes
    (frames_quiet now now' fed.fs r old) in (
      alike.0,
      record {
        fs = fed.fs;
        rest = fed.rest;
        state = quiet alike.0 fed.state;
        deframed = fed.deframed;
        takes = alike.1;
        left = ap (quiet alike.0) fed.left;
      },
    )

-- Whatever stopped it: one that memory stops there is the same in what outlives the next
-- disconnection.
pub record StopsAlike (now' : ℤ) (old : Subscribed) (piece : List ℕ) (new : Subscribed) : Type 0 where
  pub other : Subscribed
  pub until : IsFedUntil now' old piece other fault.Memory
  pub tables : other.tables ≡ new.tables
  pub position : other.position ≡ new.position
  pub confirmed : other.confirmed ≡ new.confirmed

pub until_quiet : (now now' : ℤ) (r : List ℕ) (old new : Subscribed) (piece : List ℕ) (f : Fault) → IsFedUntil now old piece new f
    → StopsAlike now' (quiet r old) piece new
until_quiet now now' r old new piece f fed =
    let alike : TakesAlike (Running fed.state) (take_frames now' (quiet r old) fed.fs) =
    subst (λ (o : Outcome Subscribed Fault). TakesAlike o (take_frames now' (quiet r old) fed.fs)) fed.takes
    (frames_quiet now now' fed.fs r old) in
    record {
      other = record (quiet alike.0 fed.state) { closed = true };
      until = record {
        fs = fed.fs;
        rest = fed.rest;
        state = quiet alike.0 fed.state;
        whole = fed.whole;
        each = fed.each;
        takes = alike.1;
        left = record {
          tables = refl;
          progress = refl;
          settings = record { version = refl; max_frame = refl; limit = refl };
          replies = refl;
        };
        closed = refl;
        why = tt;
      };
      tables = sym fed.left.tables;
      position = sym (ap (λ p. p.position) fed.left.progress);
      confirmed = sym (ap (λ p. p.confirmed) fed.left.progress);
    }

-- ---- what is counted

payload_count_quiet : (r : List ℕ) (s : Subscribed) (res : Result ServerMessage WireFault) (m : Tally)
    → payload_counted (quiet r s) res m ≡ payload_counted s res m
payload_count_quiet r s (Ok (XLogData start end clock body)) m = by (message_at (is_in_block s.order.context) body)
  where
    by : (read : Result Message DecodeFault) → decoded_counted (quiet r s) read m ≡ decoded_counted s read m
    by (Ok message) = refl
    by (Err k) = refl
payload_count_quiet r s (Ok (Keepalive end clock asks)) m = refl
payload_count_quiet r s (Err k) m = refl

frame_count_quiet : (r : List ℕ) (s : Subscribed) (f : Frame) (m : Tally) → frame_counted (quiet r s) f m ≡ frame_counted s f m
frame_count_quiet r s (CopyData bytes) m = payload_count_quiet r s (payload_at bytes) m
frame_count_quiet r s CopyDone m = refl

count_quiet : (now now' : ℤ) (fs : List Frame) (r : List ℕ) (s last : Subscribed) (m : Tally) → take_frames now s fs ≡ Running last
    → frames_counted now' (quiet r s) fs m ≡ frames_counted now s fs m
count_quiet now now' [] r s last m h = refl
count_quiet now now' (f ∷ fs) r s last m h =
    let through = goes_through (take_frame now s f) (λ next. take_frames now next fs) last h in
    let alike : TakesAlike (Running through.0) (take_frame now' (quiet r s) f) =
    subst (λ (o : Outcome Subscribed Fault). TakesAlike o (take_frame now' (quiet r s) f)) through.1 (frame_quiet now now' r s f) in
    let k = frame_counted s f m in
    ap (λ (x : Tally). counted_behind (take_frame now' (quiet r s) f) (λ next. frames_counted now' next fs x) x)
    (frame_count_quiet r s f m)
    ∙ ap (λ (o : Outcome Subscribed Fault). counted_behind o (λ next. frames_counted now' next fs k) k) alike.1
    ∙ count_quiet now now' fs alike.0 through.0 last k through.2
    ∙ sym (ap (λ (o : Outcome Subscribed Fault). counted_behind o (λ next. frames_counted now next fs k) k) through.1)

pub counted_quiet : (now now' : ℤ) (r : List ℕ) (old : Subscribed) (piece : List ℕ) (position : ℕ) (before behind : Tally)
    → IsCountedWhole now old piece position before behind → IsCountedWhole now' (quiet r old) piece position before behind
counted_quiet now now' r old piece position before behind c =
    let alike : TakesAlike (Running c.state) (take_frames now' (quiet r old) c.fs) =
    subst (λ (o : Outcome Subscribed Fault). TakesAlike o (take_frames now' (quiet r old) c.fs)) c.takes
    (frames_quiet now now' c.fs r old) in
    record {
      fs = c.fs;
      rest = c.rest;
      state = quiet alike.0 c.state;
      deframed = c.deframed;
      takes = alike.1;
      stands = c.stands;
      counts = c.counts ∙ sym (count_quiet now now' c.fs r old c.state before c.takes);
    }

pub front_quiet : (now now' : ℤ) (r : List ℕ) (old : Subscribed) (piece : List ℕ) (position : ℕ) (before behind : Tally)
    → IsCountedFront now old piece position before behind → IsCountedFront now' (quiet r old) piece position before behind
front_quiet now now' r old piece position before behind c =
    let alike : TakesAlike (Running c.state) (take_frames now' (quiet r old) c.fs) =
    subst (λ (o : Outcome Subscribed Fault). TakesAlike o (take_frames now' (quiet r old) c.fs)) c.takes
    (frames_quiet now now' c.fs r old) in
    record {
      fs = c.fs;
      rest = c.rest;
      state = quiet alike.0 c.state;
      whole = c.whole;
      each = c.each;
      takes = alike.1;
      stands = c.stands;
      counts = c.counts ∙ sym (count_quiet now now' c.fs r old c.state before c.takes);
    }
