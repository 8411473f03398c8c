-- What is told means this of messages and of histories.
use Rattle.std.specs.Prelude.{◌≡◌, ◌≤◌, ℕ, List, [], ◌∷◌, ◌++◌, Bool, true, false, Option, Some}
use Rattle.std.specs.Prelude.{None, Ok, max}
use Rattle.std.specs.List.{AllByRecursion}
use Rattle.pglogical.specs.declared.message.Message.{Message}
use Rattle.pglogical.specs.Spelling.{IsMessageFor}
use Rattle.pgorder.specs.declared.Version.{Version}
use Rattle.pgrepeats.specs.declared.commit.Commit.{Commit}
use Rattle.pgrepeats.specs.declared.past.Past.{Past}
use Rattle.pgrepeats.specs.Laws.{IsHistory, IsNext, IsPastOf}
use Rattle.pgcompared.specs.declared.noting.Noting.{Noting}
use Rattle.pgcompared.specs.declared.noting.Told.{Told}
use Rattle.pgcompared.specs.declared.session.Ended.{Ended}
use Rattle.pgcompared.specs.declared.session.Session.{Session as Messages}
use Rattle.pgcompared.specs.Commits.{AreOfCommits, commits_of, first_course}
use Rattle.pgcompared.specs.Frames.{is_lost}
use Rattle.pgcompared.specs.Noting.{BeginsSession, HearsEnded, noting_from}
use Rattle.pgcompared.specs.Sessions.{at_start, hear, in_block_of}

abbrev pub listed_end : Option Ended → List Ended
listed_end None = []
listed_end (Some e) = e ∷ []

-- messages are heard one after the other, and these transactions commit
abbrev pub HearsMessages : Messages → List Message → Messages → List Ended → Type 0
HearsMessages s [] new ended = (new ≡ s) × (ended ≡ [])
HearsMessages s (m ∷ ms) new ended =
    (mid : Messages) × (e : Option Ended) × (later : List Ended) × IsMessageFor (in_block_of s) m × (hear s m ≡ Ok (mid, e))
    × HearsMessages mid ms new later × (ended ≡ listed_end e ++ later)

-- The transactions that commit are those of the messages, with the changes that survive.
abbrev pub EndedAreCommits : Type 0
EndedAreCommits =
    (v : Version) (limit : ℕ) (messages : List Message) (s : Messages) (es : List Ended) → HearsMessages (at_start v limit) messages s es
    → AreOfCommits es (commits_of first_course messages)

-- transactions that commit are told of one after the other
abbrev pub HearsEach : Noting → List Ended → Noting → List Told → Type 0
HearsEach n [] new told = (new ≡ n) × (told ≡ [])
HearsEach n (e ∷ es) new told =
    (at : ℕ) × (mid : Noting) × (t : Told) × (later : List Told) × HearsEnded n at e mid t × HearsEach mid es new later
    × (told ≡ t ∷ later)

-- a session of a history that has come so far sends these commits next
abbrev pub AreNext : List Commit → ℕ → List Commit → ℕ → Type 0
AreNext history at [] last = last ≡ at
AreNext history at (c ∷ cs) last = IsNext history at c × AreNext history c.end cs last

-- What is noted is of this history. Where commits that came may be missing above it, the session
-- starts anywhere.
abbrev pub IsNotingOf : List Commit → Noting → ℕ → Bool → Type 0
IsNotingOf history n start true = IsPastOf history n.past start
IsNotingOf history n start false = (at : ℕ) × IsPastOf history n.past at × (n.past.last ≡ None)

abbrev pub WasHeard : Told → Type 0
WasHeard t = is_lost t.found ≡ false

abbrev pub FoundNothing : Told → Type 0
FoundNothing t = t.found ≡ None

-- No commit of a session of the same history is contradicted, and what is noted stays that of the
-- history: whatever the file lost at its end, and whether transactions had too many points or not.
abbrev pub SessionsAreNotContradicted : Type 0
SessionsAreNotContradicted =
    (history : List Commit) (n new : Noting) (start last : ℕ) (cs : List Commit) (es : List Ended) (told : List Told)
    → IsHistory 0 history → IsNotingOf history n start n.is_whole → AreNext history start cs last → AreOfCommits es cs
    → HearsEach n es new told → AllByRecursion WasHeard told
    → AllByRecursion FoundNothing told × IsNotingOf history new last new.is_whole

-- ---- a life of the program

-- A session of this history: where it starts, up to where its commits came, the transactions that
-- commit with it, and what is told of these.
pub record Session (history : List Commit) : Type 0 where
  pub start : ℕ
  pub last : ℕ
  pub commits : List Commit
  pub next : AreNext history start commits last
  pub ended : List Ended
  pub same : AreOfCommits ended commits
  pub told : List Told
  pub heard : AllByRecursion WasHeard told

-- Commits came up to here. Sessions of this history come one after the other, each of which starts
-- at most up to where they came by then.
abbrev pub HearsLife : (history : List Commit) → ℕ → Noting → List (Session history) → Noting → Type 0
HearsLife history came n [] new = new ≡ n
HearsLife history came n (s ∷ later) new =
    (mid next : Noting) × (s.start ≤ came) × HearsEach n s.ended mid s.told × BeginsSession false mid next
    × HearsLife history (max came s.last) next later new

abbrev pub FindsNothing : {history : List Commit} → Session history → Type 0
FindsNothing s = AllByRecursion FoundNothing s.told

-- No alarm is false in a whole life: let commits have come up to here, of which this is noted, be
-- it all or not. Then none that comes is contradicted, and what is noted then is of the history,
-- too.
abbrev pub LivesAreNotContradicted : Type 0
LivesAreNotContradicted =
    (history : List Commit) (past : Past) (at came : ℕ) (sessions : List (Session history)) (new : Noting) → IsHistory 0 history
    → IsPastOf history past at → HearsLife history came (noting_from past came 0) sessions new
    → AllByRecursion FindsNothing sessions × ((at' : ℕ) × IsPastOf history new.past at')
