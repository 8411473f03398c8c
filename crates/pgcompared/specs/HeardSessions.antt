-- Streaming Replication Protocol: the session that goes on, as the messages of its frames.
use Rattle.std.specs.Prelude.{◌≡◌, ◌⊎◌, ℕ, List, [], ◌∷◌, ◌++◌, false}
use Rattle.pgwire.specs.Frames as wire
use Rattle.pglogical.specs.declared.message.Message.{Message}
use Rattle.pglogical.specs.Spelling.{message_spelling}
use Rattle.pgorder.specs.declared.Version.{Version}
use Rattle.pgrepeats.specs.declared.past.Past.{Past}
use Rattle.pgcompared.specs.declared.hearing.Hearing.{Hearing}
use Rattle.pgcompared.specs.declared.noting.Noting.{Noting}
use Rattle.pgcompared.specs.declared.noting.Told.{Told}
use Rattle.pgcompared.specs.declared.session.Ended.{Ended}
use Rattle.pgcompared.specs.Frames.{IsKeepalive, OfData}
use Rattle.pgcompared.specs.Laws.{HearsEach, HearsMessages}
use Rattle.pgcompared.specs.Live.{Leads, Step}
use Rattle.pgcompared.specs.Sessions.{at_start}

-- The frames, the last one first, are keepalives and XLogData with these messages.
abbrev pub Carry : List Step → List Message → Type 0
Carry [] ms = ms ≡ []
Carry (x ∷ xs) ms =
    (IsKeepalive x.frame × Carry xs ms)
    ⊎ ((before : List Message) × (m : Message) × OfData x.frame (λ body. body ≡ message_spelling m) × Carry xs before
    × (ms ≡ before ++ m ∷ []))

-- they are all that came, or what came behind a CopyDone
abbrev pub AreBehindDone : List Step → Type 0
AreBehindDone [] = Unit {0}
AreBehindDone (x ∷ xs) = x.frame ≡ wire.CopyDone

-- The frames of the session that goes on carry these messages, and the transactions that commit
-- with them were told of, from what was noted at its start.
pub record IsSessionHeard (v : Version) (limit : ℕ) (steps : List Step) (h : Hearing) : Type 0 where
  pub now : List Step
  pub earlier : List Step
  pub whole : steps ≡ now ++ earlier
  pub behind : AreBehindDone earlier
  pub messages : List Message
  pub carried : Carry now messages
  pub committed : List Ended
  pub heard : HearsMessages (at_start v limit) messages h.session committed
  pub first : Noting
  pub told : List Told
  pub noted : HearsEach first committed h.noting told

-- so it is heard, unless it is lost
abbrev pub SessionsAreHeard : Type 0
SessionsAreHeard =
    (v : Version) (limit max : ℕ) (past : Past) (reached : ℕ) (steps : List Step) (h : Hearing)
    → Leads v limit max past reached steps h → h.lost ≡ false → IsSessionHeard v limit steps h
