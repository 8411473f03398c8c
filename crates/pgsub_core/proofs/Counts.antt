-- What is counted, from the commit to the frame.
use Rattle.std.proofs.Common.{◌≡◌, ℕ, ℤ, List, Ok, ap, subst, ◌∙◌}
use Rattle.pglogical.specs.Reading.{message_at}
use Rattle.pglogical.specs.declared.message.Message.{Message}
use Rattle.pgorder.specs.States.{is_in_block}
use Rattle.pgorder.specs.Steps.{OrderState, order_step}
use Rattle.pgorder.specs.declared.Version.{Version}
use Rattle.pgorder.specs.declared.Event.{Event}
use Rattle.pgwire.specs.Frames.{CopyData}
use Rattle.pgwire.specs.Payloads.{XLogData, Keepalive, payload_at}
use Rattle.pgapply.specs.Tallies.{Tally}
use Rattle.pgapply.specs.Value.{Tables}
use Rattle.pgsub_core.specs.Subscriber.Applied.{Applied}
use Rattle.pgsub_core.specs.Machine.Counted.{message_counted, decoded_counted, frame_counted}
use Rattle.pgsub_core.specs.Machine.Counted.{CountsEvent, CountsBy}

module _ {C : Type 0} (holds : C → Tables → Type 0) (place : C → ℕ) (count : C → Tally) where
  pub counts_message : (m : Message) (v a : Applied C) → v ≡ a → (o : OrderState) (version : Version) (e : Event)
      → order_step v.version v.order m ≡ Ok (o, e) → (w ev : Applied C) → w ≡ ev
      → CountsEvent holds place count m e (record v { order = o; version = version }) ev → (received : ℕ)
      → CountsBy holds place count (λ s. message_counted s m) a (record w { received = received })
  counts_message m v a same o version e is w ev seen counts received =
      subst (λ (x : Applied C). CountsBy holds place count (λ s. message_counted s m) x (record w { received = received })) same
      (λ framing tables h. rw is (ap (λ (x : Applied C). count x.store) seen ∙ counts tables h))

  pub counts_body : (m : Message) (body : List ℕ) (a b : Applied C) → message_at (is_in_block a.order.context) body ≡ Ok m
      → CountsBy holds place count (λ s. message_counted s m) a b
      → CountsBy holds place count (λ s. decoded_counted s (message_at (is_in_block s.order.context) body)) a b
  counts_body m body a b reads counts framing tables h = rw reads (counts framing tables h)

  pub counts_data : (payload : List ℕ) (start end : ℕ) (clock : ℤ) (body : List ℕ) (a b : Applied C)
      → payload_at payload ≡ Ok (XLogData start end clock body)
      → CountsBy holds place count (λ s. decoded_counted s (message_at (is_in_block s.order.context) body)) a b
      → CountsBy holds place count (λ s. frame_counted s (CopyData payload)) a b
  counts_data payload start end clock body a b is counts framing tables h = rw is (counts framing tables h)

  pub counts_keepalive : (payload : List ℕ) (end : ℕ) (clock : ℤ) (asks : _) (a b : Applied C)
      → payload_at payload ≡ Ok (Keepalive end clock asks) → b.store ≡ a.store
      → CountsBy holds place count (λ s. frame_counted s (CopyData payload)) a b
  counts_keepalive payload end clock asks a b is same framing tables h = rw is (ap count same)
