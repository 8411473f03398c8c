-- What is heard of XLogData and of a keepalive, as a frame.
use Rattle.std.proofs.Common.{◌≡◌, inl, ℕ, ℤ, List, Bool, Result, Ok, Err, IfErr, OnOk, ap, subst}
use Rattle.std.proofs.Common.{◌∙◌, arith}
use Rattle.pgwire.specs.Frames.{CopyData, IsAllowed}
use Rattle.pgwire.specs.Payloads.{XLogData, Keepalive as KeepaliveMessage, payload, IsServerMessage}
use Rattle.pgsub_core.specs.Server.Stream.{Data, Keepalive}
use Rattle.pgwatch.specs.declared.watch.Watch.{Watch}
use Rattle.pgrules.specs.declared.findings.End.{End}
use Rattle.pgrules.specs.declared.findings.End.TheVariants as end
use Rattle.pgrules.specs.declared.seen.Seen.{Seen}
use Rattle.pgrules.specs.Hearing.{EndsAtBody, HearsBody, HearsKeepalive}
use Rattle.pgrules.specs.Watching.{EndsAtFrame, HearsFrame, Says}
use Rattle.pglogical.specs.declared.message.Message.{Message}
use Rattle.pglogical.specs.Spelling as spelling
use Rattle.pgorder.specs.States.{is_in_block}

module _ (start last : ℕ) (clock : ℤ) (body bytes : List ℕ) (number : IsServerMessage (XLogData start last clock body))
    (spelled : bytes ≡ payload (XLogData start last clock body)) where
  says : (w : Watch) (m : Message) → spelling.Says (is_in_block w.order.state.context) m body
      → Says w (CopyData bytes) (Data start last clock m)
  says w m is =
      let same : bytes ≡ payload (XLogData start last clock (spelling.message_spelling m)) =
      spelled ∙ ap (λ b. payload (XLogData start last clock b)) is.spelled in (
        ap CopyData same,
        λ allowed.
            let short = subst (λ b. IsAllowed 2147483643 (CopyData b)) same allowed in
            (number.0, number.1, number.2, is.wire, omega (arith, short.0)),
        is.xid,
      )

  hears : (w w' : Watch) (seen seen' : Seen) (at : ℕ) → HearsBody w seen at body w' seen'
      → HearsFrame w seen at (CopyData bytes) w' seen'
  hears w w' seen seen' at (m, is, heard, all) = inl (Data start last clock m, says w m is, heard, all)

  pub data_heard : {T E : Type 0} (r : Result T E) (w w' : Watch) (seen seen' : Seen) (at : ℕ)
      → OnOk r (HearsBody w seen at body w' seen') → OnOk r (HearsFrame w seen at (CopyData bytes) w' seen')
  data_heard (Ok t) w w' seen seen' at h = hears w w' seen seen' at h
  data_heard (Err e) w w' seen seen' at h = tt

  ends : (w : Watch) (at : ℕ) (e : End) → EndsAtBody w at body e → EndsAtFrame w at (CopyData bytes) e
  ends w at end.Whole h = absurd h
  ends w at (end.Ended b) (m, is, heard) = (Data start last clock m, says w m is, heard)
  ends w at (end.Unframed place fault) h = absurd h
  ends w at (end.Unsaid place fault) h = absurd h
  ends w at (end.Undecoded place fault) h = (h.0, (start, last, clock, body, ap CopyData spelled, h.1))

  pub data_ended : {T : Type 0} (r : Result T End) (w : Watch) (at : ℕ) → IfErr r (EndsAtBody w at body)
      → IfErr r (EndsAtFrame w at (CopyData bytes))
  data_ended (Ok t) w at h = tt
  data_ended (Err e) w at h = ends w at e h

pub keepalive_heard : (last : ℕ) (clock : ℤ) (reply : Bool) (bytes : List ℕ) (w w' : Watch) (seen seen' : Seen) (at : ℕ)
    → IsServerMessage (KeepaliveMessage last clock reply) → bytes ≡ payload (KeepaliveMessage last clock reply)
    → HearsKeepalive w seen at last w' seen' → HearsFrame w seen at (CopyData bytes) w' seen'
keepalive_heard last clock reply bytes w w' seen seen' at number spelled h =
    inl (Keepalive last clock reply, (ap CopyData spelled, λ allowed. (number.0, number.1), tt), h.0, h.1)
