-- What is counted of the frames of messages, message by message.
use Rattle.std.proofs.Common.{◌≡◌, ℤ, List, [], ◌∷◌, Bool, Ok, refl, sym, ap, subst, ◌∙◌}
use Rattle.std.specs.List.{AllByRecursion}
use Rattle.pglogical.specs.Reading.{message_at}
use Rattle.pglogical.specs.Spelling.{message_spelling, IsWireMessage, IsMessageFor}
use Rattle.pglogical.specs.declared.message.Message.{Message}
use Rattle.pgorder.specs.Laws.{AreMessagesFor}
use Rattle.pgorder.specs.States.{is_in_block}
use Rattle.pgorder.specs.Steps.{OrderState}
use Rattle.pgwire.specs.Frames.{CopyData}
use Rattle.pgwire.specs.Payloads.{payload}
use Rattle.pgwire.proofs.Messages.{payload_again}
use Rattle.pgapply.specs.Tallies.{Tally}
use Rattle.pgsub_core.specs.Server.Stream.{Sent, Data, Keepalive, messages_in}
use Rattle.pgsub_core.specs.Machine.Replica.{Running}
use Rattle.pgsub_core.specs.Server.Sessions.{server_message, frames_of, IsWireSent}
use Rattle.pgsub_core.specs.Subscriber.Subscribed.{Subscribed, apply_state_of}
use Rattle.pgsub_core.specs.Machine.Taking.{take, take_all, take_frame, take_payload}
use Rattle.pgsub_core.specs.Machine.Counted.{decoded_counted, payload_counted, frame_counted}
use Rattle.pgsub_core.specs.Machine.Counted.{counted_behind, frames_counted}
use Rattle.pgsub_core.proofs.FrameMessages.{data_taken, in_block_behind, same_block}
use Rattle.pgsub_core.proofs.Steps.{goes_through, takes_one}
use Rattle.pgsub_core.proofs.CountedRuns.{then_count, sent_counted, run_counted}

-- one message, and what comes behind it
one_and : (now : ℤ) (old mid : Subscribed) (x : Sent) (sent : List Sent) (m : Tally)
    → take_frame now old (CopyData (payload (server_message x))) ≡ Running mid → take now old x ≡ Running mid
    → frame_counted old (CopyData (payload (server_message x))) m ≡ sent_counted old.version (apply_state_of old) x m
    → ((k : Tally) → frames_counted now mid (frames_of sent) k ≡ run_counted mid.version (apply_state_of mid) sent k)
    → frames_counted now old (frames_of (x ∷ sent)) m ≡ run_counted old.version (apply_state_of old) (x ∷ sent) m
one_and now old mid x sent m frame takes counts rest =
    let one = takes_one now old mid x takes in
    let k = frame_counted old (CopyData (payload (server_message x))) m in
    let k' = sent_counted old.version (apply_state_of old) x m in
    ap (λ o. counted_behind o (λ next. frames_counted now next (frames_of sent) k) k) frame
    ∙ rest k
    ∙ ap (λ v. run_counted v (apply_state_of mid) sent k) one.settings.version
    ∙ ap (run_counted old.version (apply_state_of mid) sent) counts
    ∙ sym (ap (λ o. then_count o (λ next. run_counted old.version next sent k') k') one.steps)

module _ (reads : (in_block : Bool) (m : Message) → IsWireMessage m → IsMessageFor in_block m
    → message_at in_block (message_spelling m) ≡ Ok m) (now : ℤ) where
  pub frames_run : (sent : List Sent) (old new : Subscribed) → AllByRecursion IsWireSent sent
      → AreMessagesFor (is_in_block old.order.context) (messages_in sent) → take_all now old sent ≡ Running new
      → (m : Tally) → frames_counted now old (frames_of sent) m ≡ run_counted old.version (apply_state_of old) sent m
  frames_run [] old new fits for h m = refl
  frames_run (Data start end clock message ∷ sent) old new fits for h m =
      let x : Sent = Data start end clock message in
      let through = goes_through (take now old x) (λ next. take_all now next sent) new h in
      let mid = through.0 in
      one_and now old mid x sent m (data_taken reads now old start end clock message fits.0 for.0 ∙ through.1) through.1
      (ap (λ r. payload_counted old r m) (payload_again (server_message x) (fits.0.0, fits.0.1, fits.0.2))
      ∙ ap (λ r. decoded_counted old r m) (reads (is_in_block old.order.context) message fits.0.3 for.0))
      (frames_run sent mid new fits.1
      (subst (λ b. AreMessagesFor b (messages_in sent)) (sym (in_block_behind now old mid start end clock message through.1)) for.1)
      through.2)
  frames_run (Keepalive end clock asks ∷ sent) old new fits for h m =
      let x : Sent = Keepalive end clock asks in
      let through = goes_through (take now old x) (λ next. take_all now next sent) new h in
      let mid = through.0 in
      one_and now old mid x sent m (ap (take_payload now old) (payload_again (server_message x) fits.0) ∙ through.1) through.1
      (ap (λ r. payload_counted old r m) (payload_again (server_message x) fits.0))
      (frames_run sent mid new fits.1
      (subst (λ (s : OrderState). AreMessagesFor (is_in_block s.context) (messages_in sent))
      (same_block now old mid end clock asks through.1) for) through.2)
