-- Streaming Replication Protocol: a life of the program, as the messages of all its sessions.
use Rattle.std.specs.Prelude.{◌≡◌, ◌≤◌, ◌⊎◌, ℕ, List, [], ◌∷◌, ◌++◌, map, max, false}
use Rattle.std.specs.List.{AllByRecursion, flat_map}
use Rattle.pgwire.specs.Frames as wire
use Rattle.pglogical.specs.declared.message.Message.{Message}
use Rattle.pglogical.specs.Spelling.{message_spelling}
use Rattle.pgorder.specs.declared.Version.{Version}
use Rattle.pgrepeats.specs.declared.commit.Commit.{Commit}
use Rattle.pgrepeats.specs.declared.past.Past.{Past}
use Rattle.pgrepeats.specs.Laws.{IsHistory, IsPastOf}
use Rattle.pgcompared.specs.declared.hearing.Hearing.{Hearing}
use Rattle.pgcompared.specs.declared.noting.Noting.{Noting}
use Rattle.pgcompared.specs.declared.noting.Told.{Told}
use Rattle.pgcompared.specs.declared.session.Ended.{Ended}
use Rattle.pgcompared.specs.declared.session.Session.{Session as Messages}
use Rattle.pgcompared.specs.Commits.{commits_of, first_course}
use Rattle.pgcompared.specs.Frames.{IsKeepalive, OfData, is_lost}
use Rattle.pgcompared.specs.Laws.{AreNext, FoundNothing, HearsEach, HearsMessages, WasHeard}
use Rattle.pgcompared.specs.Live.{Leads, Step, spoken, told_of}
use Rattle.pgcompared.specs.Noting.{BeginsSession, noting_from}
use Rattle.pgcompared.specs.Sessions.{at_start}

-- The frames, the last one first, are keepalives, XLogData with messages, and CopyDone: these are
-- the messages of the sessions that ended, and of the one that goes on.
abbrev pub Carries : List Step → List (List Message) → List Message → Type 0
Carries [] done now = (done ≡ []) × (now ≡ [])
Carries (x ∷ xs) done now =
    (IsKeepalive x.frame × Carries xs done now)
    ⊎ ((before : List Message) × (m : Message) × OfData x.frame (λ body. body ≡ message_spelling m) × Carries xs done before
    × (now ≡ before ++ m ∷ []))
    ⊎ ((earlier : List (List Message)) × (last : List Message) × (x.frame ≡ wire.CopyDone) × Carries xs earlier last
    × (done ≡ earlier ++ last ∷ []) × (now ≡ []))

-- a session's messages, the transactions that commit with them, and what is told of these
pub record Heard : Type 0 where
  pub messages : List Message
  pub ended : List Ended
  pub told : List Told

abbrev pub IsHeard : Version → ℕ → Noting → Heard → Messages → Noting → Type 0
IsHeard v limit first s end new =
    HearsMessages (at_start v limit) s.messages end s.ended × HearsEach first s.ended new s.told × AllByRecursion WasHeard s.told

-- sessions are heard one after the other
abbrev pub HearsSessions : Version → ℕ → Noting → List Heard → Noting → Type 0
HearsSessions v limit n [] new = new ≡ n
HearsSessions v limit n (s ∷ later) new =
    (end : Messages) × (mid : Noting) × (next : Noting) × IsHeard v limit n s end mid × BeginsSession false mid next
    × HearsSessions v limit next later new

abbrev pub spoken_of : Heard → List Told
spoken_of s = flat_map spoken s.told

-- The frames carry these sessions, each of which is heard from what was noted at its start, and all
-- that is told is told of the transactions that commit with them.
pub record IsLifeHeard (v : Version) (limit : ℕ) (past : Past) (reached : ℕ) (steps : List Step) (h : Hearing) : Type 0 where
  pub sessions : List Heard
  pub first : Noting
  pub heard : HearsSessions v limit (noting_from past reached 0) sessions first
  pub now : Heard
  pub goes_on : IsHeard v limit first now h.session h.noting
  pub carried : Carries steps (map (λ (s : Heard). s.messages) sessions) now.messages
  pub told : told_of steps ≡ flat_map spoken_of (sessions ++ now ∷ [])

abbrev pub NoneIsLost : List Step → Type 0
NoneIsLost steps = AllByRecursion (λ (x : Step). is_lost x.told.found ≡ false) steps

-- so a life is heard of whose sessions none is lost
abbrev pub LivesAreHeard : Type 0
LivesAreHeard =
    (v : Version) (limit max : ℕ) (past : Past) (reached : ℕ) (steps : List Step) (h : Hearing)
    → Leads v limit max past reached steps h → NoneIsLost steps → IsLifeHeard v limit past reached steps h

-- the messages of sessions of this history, each of which starts at most up to where commits came
abbrev pub AreOfHistory : List Commit → ℕ → List (List Message) → Type 0
AreOfHistory history came [] = Unit {0}
AreOfHistory history came (messages ∷ later) =
    (start : ℕ) × (last : ℕ) × (start ≤ came) × AreNext history start (commits_of first_course messages) last
    × AreOfHistory history (max came last) later

-- No alarm is false: where all that the frames carry is of one history, of which what was noted is,
-- be that all that came or not, nothing is found.
abbrev pub FramesAreNotContradicted : Type 0
FramesAreNotContradicted =
    (history : List Commit) (v : Version) (limit max : ℕ) (past : Past) (at reached : ℕ) (steps : List Step) (h : Hearing)
    → IsHistory 0 history → IsPastOf history past at → Leads v limit max past reached steps h → NoneIsLost steps
    → ((done : List (List Message)) (now : List Message) → Carries steps done now → AreOfHistory history reached (done ++ now ∷ []))
    → AllByRecursion FoundNothing (told_of steps)
