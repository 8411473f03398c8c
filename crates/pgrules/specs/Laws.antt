-- What is found of a session means this of histories.
use Rattle.std.specs.Prelude.{◌≡◌, ℕ, List, ◌∷◌, ◌++◌}
use Rattle.std.specs.List.{AllByRecursion}
use Rattle.pgorder.specs.declared.Version.{Version}
use Rattle.pgwire.specs.Frames as wire
use Rattle.pgwatch.specs.declared.fault.Breach.{Breach}
use Rattle.pgsub_core.specs.Server.History.{Transaction, IsHistory}
use Rattle.pgsub_core.specs.Server.Stream.{Sent}
use Rattle.pgsub_core.specs.Server.Sessions.{IsSession, whole_frames}
use Rattle.pgwatched.specs.Watched.{sent_of, IsOfRule}
use Rattle.pgrules.specs.declared.findings.End.TheVariants as end
use Rattle.pgrules.specs.declared.findings.Findings.{Findings}
use Rattle.pgrules.specs.declared.live.LiveWatch.{LiveWatch}
use Rattle.pgrules.specs.Live.{IsWatched, Told, bytes_of, reports_of}
use Rattle.pgrules.specs.Watching.{IsFound, frame_of}

abbrev pub HeardIsASession : Type 0
HeardIsASession =
    (v : Version) (max limit : ℕ) (bytes : List ℕ) (found : Findings) → (is : IsFound v max limit bytes found)
    → (history : List Transaction) × IsHistory history
    × IsSession v history 0 (whole_frames (sent_of is.fs) is.done) (sent_of is.fs)

-- its frame comes next
abbrev pub ComesNext : Sent → List ℕ → Type 0
ComesNext next rest = (later : List ℕ) × (rest ≡ wire.frame (frame_of next) ++ later)

abbrev pub BreachIsNoSession : Type 0
BreachIsNoSession =
    (v : Version) (max limit : ℕ) (bytes : List ℕ) (found : Findings) (b : Breach) → (is : IsFound v max limit bytes found)
    → found.end ≡ end.Ended b → IsOfRule b
    → (next : Sent) × ComesNext next is.rest
    × ((history : List Transaction) (session : List ℕ) (later : List Sent) → IsHistory history
    → IsSession v history 0 session (sent_of is.fs ++ next ∷ later) → ⊥)

-- This is found of the session, and what was heard of it before is a session of some history.
pub record IsHeardOfHistory (v : Version) (limit max : ℕ) (t : Told) : Type 0 where
  pub is : IsFound v max limit t.bytes t.found
  pub history : List Transaction
  pub valid : IsHistory history
  pub heard : IsSession v history 0 (whole_frames (sent_of is.fs) is.done) (sent_of is.fs)

-- What is watched is one session after the other, each of some history as far as it is watched: up
-- to its end, or to the frame that is told.
abbrev pub WatchedIsOfHistories : Type 0
WatchedIsOfHistories =
    (v : Version) (limit max : ℕ) (all : List ℕ) (now : LiveWatch) (told : List Findings) → IsWatched v limit max all now told
    → (sessions : List Told) × (all ≡ bytes_of sessions) × AllByRecursion (IsHeardOfHistory v limit max) sessions
    × (told ≡ reports_of sessions)
