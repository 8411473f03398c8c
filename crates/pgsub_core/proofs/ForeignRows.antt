-- Something foreign behind the frames of a session: CommandComplete of a server that is shut down,
-- and CopyData behind CopyDone.
use Rattle.std.proofs.Common.{◌≡◌, ◌∷◌, ◌++◌, [], List, ℕ, Bool, true, false, inl, inr, refl, sym}
use Rattle.std.proofs.Common.{◌∙◌, arith, append-nil}
use Rattle.pglogical.specs.Spelling.{message_spelling, item_spelling}
use Rattle.pgtuple.specs.Cells.{tuple_spelling}
use Rattle.pgorder.specs.declared.Version.TheVariants.{Two}
use Rattle.pgwire.specs.Frames as wire
use Rattle.pgwire.specs.declared.fault.WireFault.TheVariants as wire_fault
use Rattle.pgsub_core.specs.declared.fault.Fault.TheVariants as fault
use Rattle.pgsub_core.specs.Server.Stream.{Sent}
use Rattle.pgsub_core.specs.Server.Sessions.{IsSession, IsIncoming, EndsForeign, whole_frames}
use Rattle.pgsub_core.specs.Subscriber.Handled.{IsForeignBehind}
use Rattle.pgsub_core.proofs.NestedRows.{skipped_history, behind_it, delivers_behind, fits_behind}

-- CommandComplete: the letter `C`, a length and a tag
abbrev command_complete : List ℕ
command_complete = 67 ∷ 0 ∷ 0 ∷ 0 ∷ 7 ∷ 67 ∷ 79 ∷ 0 ∷ []

whole_session : (done : Bool) → IsSession Two skipped_history 304 (whole_frames behind_it done) behind_it
unfolding message_spelling item_spelling tuple_spelling
whole_session true = record {
  sent = behind_it;
  done = wire.CopyDone ∷ [];
  behind = [];
  delivered = delivers_behind;
  fits = fits_behind;
  at_end = inr refl;
  front = append-nil (whole_frames behind_it true);
  later = [];
  rest = wire.frame wire.CopyDone;
  parts = refl;
  stands = refl;
  short = tt;
}
whole_session false = record {
  sent = behind_it;
  done = [];
  behind = [];
  delivered = delivers_behind;
  fits = fits_behind;
  at_end = inl refl;
  front = append-nil (whole_frames behind_it false);
  later = [];
  rest = [];
  parts = refl;
  stands = refl;
  short = tt;
}

abbrev shut_down : EndsForeign behind_it (whole_frames behind_it false ++ command_complete)
shut_down = record {
  done = false;
  foreign = command_complete;
  whole = refl;
  is = (λ same. absurd (omega arith), λ same. absurd (omega arith));
}

shut_down_comes : IsIncoming Two skipped_history 304 (whole_frames behind_it false ++ command_complete) behind_it
shut_down_comes = inr (shut_down, whole_session false)

-- an unknown frame, once all messages before it were handled
its_fault : IsForeignBehind (behind_it ∷ []) (behind_it ∷ []) ((whole_frames behind_it false ++ command_complete) ∷ [])
    (fault.Wire (wire_fault.UnknownFrame 67))
its_fault = (refl, shut_down, refl)

-- and no earlier
not_before : (front : List Sent) → front ≡ []
    → IsForeignBehind (front ∷ []) (behind_it ∷ []) ((whole_frames behind_it false ++ command_complete) ∷ [])
    (fault.Wire (wire_fault.UnknownFrame 67)) → ⊥
not_before front none is = let same : [] ≡ behind_it = sym none ∙ is.0 in absurd (cc)

abbrev after_done : EndsForeign behind_it (whole_frames behind_it true ++ 100 ∷ [])
after_done = record { done = true; foreign = 100 ∷ []; whole = refl; is = tt }

after_done_comes : IsIncoming Two skipped_history 304 (whole_frames behind_it true ++ 100 ∷ []) behind_it
after_done_comes = inr (after_done, whole_session true)

its_other_fault : IsForeignBehind (behind_it ∷ []) (behind_it ∷ []) ((whole_frames behind_it true ++ 100 ∷ []) ∷ [])
    (fault.Wire wire_fault.AfterDone)
its_other_fault = (refl, after_done, refl)
