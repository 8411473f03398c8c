-- Why the payload of a frame isn't taken.
use Rattle.std.proofs.Common.{◌≡◌, ◌⊎◌, inl, inr, ℕ, ℤ, List, Ok, Err, refl, sym, subst}
use Rattle.pglogical.specs.Reading.{message_at}
use Rattle.pglogical.specs.declared.message.Message.{Message}
use Rattle.pglogical.specs.declared.fault.DecodeFault.{DecodeFault}
use Rattle.pglogical.specs.declared.fault.Reason.{Reason}
use Rattle.pglogical.specs.declared.fault.Reason.TheVariants as reason
use Rattle.pglogical.specs.Answers.{out_of_memory}
use Rattle.pgsub_core.specs.Machine.Faults.{fault_at, fault_of_decode}
use Rattle.pgorder.specs.States.{is_in_block}
use Rattle.pgwire.specs.Frames.{CopyData}
use Rattle.pgwire.specs.Payloads.{XLogData, payload_at, HasPayloadFault}
use Rattle.pgwire.specs.declared.fault.WireFault.{WireFault}
use Rattle.pgwire.specs.declared.fault.WireFault.TheVariants as wire_fault
use Rattle.pgapply.specs.Value.{Tables}
use Rattle.pgsub_core.specs.declared.fault.Fault.{Fault}
use Rattle.pgsub_core.specs.declared.fault.Fault.TheVariants as fault
use Rattle.pgsub_core.specs.Server.Stream.{Sent, Data}
use Rattle.pgsub_core.specs.Subscriber.Subscribed.{Subscribed}
use Rattle.pgsub_core.specs.Subscriber.Causes.{Cause, OutOfMemory, StatementRefused, HeaderTooLarge}
use Rattle.pgsub_core.specs.Subscriber.Causes.{ForeignBytes, NextMessage, NeverAnswered, cause}
use Rattle.pgsub_core.specs.Subscriber.Causes.{SpoolFailed}
use Rattle.pgsub_core.specs.Subscriber.Applied.{Applied, subscribed, StopsAtMessage, IsKept, Stops}
use Rattle.pgsub_core.specs.Calls.Framing.{StopsAtBody, StopsAtFrame, StopsAt, IsStopped}

pub unchanged : {C : Type 0} (place : C → ℕ) (a : Applied C) → IsKept place a a
unchanged place a = record { position = refl; confirmed = refl; received = refl; version = refl; limit = refl; replies = refl }

module _ {C : Type 0} (holds : C → Tables → Type 0) (place : C → ℕ) (now clock : ℤ) (start end : ℕ) (body : List ℕ) (a b : Applied C) where
  at_body : (s : Subscribed) (m : Message) (f : Fault) (k : Cause) → message_at (is_in_block s.order.context) body ≡ Ok m
      → StopsAtMessage now s (Data start end clock m) f k → StopsAtBody now start end clock body s f k
  at_body s m f OutOfMemory reads h = tt
  at_body s m f SpoolFailed reads h = tt
  at_body s m f StatementRefused reads h = (m, reads, h.0, h.1, h.2, rw reads h.3)
  at_body s m f HeaderTooLarge reads h = absurd h
  at_body s m f ForeignBytes reads h = absurd h
  at_body s m f NextMessage reads h = (h.0, rw reads h.1)
  at_body s m f NeverAnswered reads h = absurd h

  pub body_stops : (m : Message) (f : Fault) → message_at (is_in_block a.order.context) body ≡ Ok m
      → Stops holds place now (Data start end clock m) a b f → IsStopped holds place (StopsAtBody now start end clock body) a b f
  body_stops m f reads stops =
      record {
        kept = stops.kept;
        stays = stops.stays;
        why = λ framing tables h. at_body (subscribed place framing a tables) m f (cause f) reads (stops.why framing tables h);
      }

  pub decode_stops : (k : DecodeFault) → message_at (is_in_block a.order.context) body ≡ Err k
      → IsStopped holds place (StopsAtBody now start end clock body) a a (fault.Decode k)
  decode_stops k reads = record
      { kept = unchanged place a; stays = λ tables h. h; why = λ framing tables h. (subscribed place framing a tables, rw reads refl) }

  at_fault : (place_of : ℕ) (why : Reason) → message_at (is_in_block a.order.context) body ≡ Err (record { place = place_of; reason = why })
      → IsStopped holds place (StopsAtBody now start end clock body) a a (fault_at place_of why)
  at_fault p reason.UnknownMessage reads = decode_stops _ reads
  at_fault p reason.Short reads = decode_stops _ reads
  at_fault p reason.Trailing reads = decode_stops _ reads
  at_fault p reason.BadFlag reads = decode_stops _ reads
  at_fault p reason.BadLetter reads = decode_stops _ reads
  at_fault p reason.NotUtf8 reads = decode_stops _ reads
  at_fault p reason.BadCount reads = decode_stops _ reads
  at_fault p (reason.Tuple t) reads = decode_stops _ reads
  at_fault p reason.Memory reads = record { kept = unchanged place a; stays = λ tables h. h; why = λ framing tables h. tt }

  pub refused_body : (k : DecodeFault) (f : Fault) → f ≡ fault_of_decode k
      → (k ≡ out_of_memory) ⊎ (message_at (is_in_block a.order.context) body ≡ Err k)
      → IsStopped holds place (StopsAtBody now start end clock body) a a f
  refused_body k f is (inl memory) =
      rw (is, memory) (record { kept = unchanged place a; stays = λ tables h. h; why = λ framing tables h. tt })
  refused_body k f is (inr reads) = rw is (at_fault k.place k.reason reads)

pub memory_stops : {C : Type 0} (holds : C → Tables → Type 0) (place : C → ℕ) (now clock : ℤ) (start end : ℕ) (body : List ℕ)
    (a : Applied C) → IsStopped holds place (StopsAtBody now start end clock body) a a fault.Memory
memory_stops holds place now clock start end body a =
    record { kept = unchanged place a; stays = λ tables h. h; why = λ framing tables h. tt }

module _ {C : Type 0} (holds : C → Tables → Type 0) (place : C → ℕ) (now : ℤ) (payload : List ℕ) (a b : Applied C) where
  module _ (clock : ℤ) (start end : ℕ) (body : List ℕ) (is : payload_at payload ≡ Ok (XLogData start end clock body)) where
    at_frame : (s : Subscribed) (f : Fault) (k : Cause) → StopsAtBody now start end clock body s f k
        → StopsAtFrame now s (CopyData payload) f k
    at_frame s f OutOfMemory h = tt
    at_frame s f SpoolFailed h = tt
    at_frame s f StatementRefused h = (
      record {
        payload = payload;
        start = start;
        current = end;
        clock = clock;
        body = body;
        message = h.0;
        end = h.2;
        frame = refl;
        xlog_data = is;
        decodes = h.1;
        commits = h.3;
        passes = h.4;
      },
      rw is h.5,
    )
    at_frame s f HeaderTooLarge h = absurd h
    at_frame s f ForeignBytes h = absurd h
    at_frame s f NextMessage h = (h.0, rw is h.1)
    at_frame s f NeverAnswered h = absurd h

    pub data_stops : (f : Fault) → IsStopped holds place (StopsAtBody now start end clock body) a b f
        → IsStopped holds place (StopsAt (CopyData payload) now) a b f
    data_stops f stops = record {
      kept = stops.kept;
      stays = stops.stays;
      why = λ framing tables h. at_frame (subscribed place framing a tables) f (cause f) (stops.why framing tables h);
    }

  pub keepalive_stops : (f : Fault) → f ≡ fault.Memory → IsKept place a b → b.store ≡ a.store
      → IsStopped holds place (StopsAt (CopyData payload) now) a b f
  keepalive_stops f is kept same =
      record { kept = kept; stays = λ tables h. subst (λ s. holds s tables) (sym same) h; why = λ framing tables h. rw is tt }

  at_payload : (s : Subscribed) (k : WireFault) → HasPayloadFault payload k → payload_at payload ≡ Err k
      → StopsAtFrame now s (CopyData payload) (fault.Wire k) (cause (fault.Wire k))
  at_payload s (wire_fault.UnknownServerMessage byte) has is = (s, rw is refl)
  at_payload s wire_fault.Short has is = (s, rw is refl)
  at_payload s wire_fault.Trailing has is = (s, rw is refl)
  at_payload s wire_fault.BadReplyByte has is = (s, rw is refl)
  at_payload s (wire_fault.UnknownFrame byte) has is = absurd has
  at_payload s wire_fault.BadLength has is = absurd has
  at_payload s wire_fault.TooLarge has is = absurd has
  at_payload s wire_fault.AfterDone has is = absurd has
  at_payload s wire_fault.Memory has is = absurd has

  pub payload_stops : (k : WireFault) → HasPayloadFault payload k → payload_at payload ≡ Err k
      → IsStopped holds place (StopsAt (CopyData payload) now) a a (fault.Wire k)
  payload_stops k has is =
      record {
        kept = unchanged place a;
        stays = λ tables h. h;
        why = λ framing tables h. at_payload (subscribed place framing a tables) k has is;
      }

-- where the store has shut, it is stopped as one over what was there before
pub stops_here : {C : Type 0} (holds : C → Tables → Type 0) (place : C → ℕ) (now : ℤ) (m : Sent) (a b : Applied C) (f : Fault)
    → Stops holds place now m a b f → Stops holds place now m a a f
stops_here holds place now m a b f stops = record { kept = unchanged place a; stays = λ tables h. h; why = stops.why }
