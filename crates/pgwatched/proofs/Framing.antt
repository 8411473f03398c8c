-- The bytes of what is heard.
use Rattle.std.proofs.Common.{◌≡◌, ◌⊎◌, inl, inr, Bool, true, false}
use Rattle.std.proofs.Common.{List, [], ◌∷◌, ◌++◌, refl, sym, subst}
use Rattle.std.proofs.Common.{◌∙◌}
use Rattle.std.proofs.Common.{append-nil, append_assoc}
use Rattle.std.proofs.lemmas.Grind.{flat_map-append}
use Rattle.pgwire.specs.Frames as wire
use Rattle.pgsub_core.specs.Server.Stream.{Sent}
use Rattle.pgsub_core.specs.Server.Delivers.{Delivers}
use Rattle.pgsub_core.specs.Server.Sessions.{frames_of, last_frame, whole_frames}
use Rattle.pgwatched.specs.Watched.{sent_of}
use Rattle.pgwatched.specs.Laws.{FramesAreASession, BrokenIsNoSession}
use Rattle.pgwatched.proofs.Sent.{well_may_be_sent}
use Rattle.pgwatched.proofs.Refused.{broken_is_not_sent}

done_or_not : (done : Bool) → (last_frame done ≡ []) ⊎ (last_frame done ≡ wire.CopyDone ∷ [])
done_or_not true = inr refl
done_or_not false = inl refl

pub frames_are_a_session : FramesAreASession
frames_are_a_session v start limit fs w done decoded fits heard =
    let sent = sent_of fs in
    let may = well_may_be_sent v start limit fs w decoded heard in (
      may.0,
      may.1,
      record {
        sent = sent;
        done = last_frame done;
        behind = [];
        delivered = may.2;
        fits = fits;
        at_end = done_or_not done;
        front = append-nil (whole_frames sent done);
        later = [];
        rest = wire.frames (last_frame done);
        parts = sym (append-nil sent);
        stands = flat_map-append wire.frame (frames_of sent) (last_frame done);
        short = tt;
      },
    )

pub broken_is_no_session : BrokenIsNoSession
broken_is_no_session v start limit before next w b heard broken rule history bytes later is session =
    broken_is_not_sent v start limit before next w b heard broken rule (later ++ session.later) (
      history,
      is,
      subst (Delivers v history start) (sym (same (sent_of before) next.sent later
          session.later session.sent session.parts)) session.delivered,
    )
  where
    same : (a : List Sent) (x : Sent) (b c all : List Sent) → all ≡ (a ++ x ∷ b) ++ c → a ++ x ∷ (b ++ c) ≡ all
    same a x b c all parts = sym (append_assoc a (x ∷ b) c) ∙ sym parts
