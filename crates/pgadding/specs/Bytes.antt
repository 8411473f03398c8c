-- Part of the statement.
-- The bytes of what is passed on.
use Rattle.std.specs.Prelude.{◌≡◌, ◌<◌, ◌≤◌, ◌⊎◌, ℕ, List, [], ◌∷◌, ◌++◌}
use Rattle.std.specs.List.{AllByRecursion}
use Rattle.pgorder.specs.declared.Version.{Version}
use Rattle.pgwire.specs.Frames as wire
use Rattle.pgsub_core.specs.Server.History.{Transaction}
use Rattle.pgsub_core.specs.Server.Stream.{Sent}
use Rattle.pgsub_core.specs.Server.Reached.{Progress}
use Rattle.pgsub_core.specs.Server.Sessions.{IsWireSent, IsPartOfNextFrame, EndsForeign, EachStarts}
use Rattle.pgsub_core.specs.Server.Sessions.{AreIncoming, frames_of, whole_frames}
use Rattle.pgadding.specs.Addition.{Addition}
use Rattle.pgadding.specs.Passing.{passed_on}
use Rattle.pgadding.specs.Around.{IsAround, IsWholeSession, KeepsDefinition, with_rows}

-- The bytes are a front of the frames of these messages, after which CopyDone may come. These are
-- complete in them.
pub record AreBytesOf (sent : List Sent) (bytes : List ℕ) (complete : List Sent) : Type 0 where
  pub done : List wire.Frame
  pub behind : List ℕ
  -- its numbers and texts are those of the wire
  pub fits : AllByRecursion IsWireSent sent
  pub at_end : (done ≡ []) ⊎ (done ≡ wire.CopyDone ∷ [])
  pub front : bytes ++ behind ≡ wire.frames (frames_of sent ++ done)
  pub later : List Sent
  pub rest : List ℕ
  pub parts : sent ≡ complete ++ later
  pub stands : bytes ≡ wire.frames (frames_of complete) ++ rest
  pub short : IsPartOfNextFrame later rest

-- These bytes come of what is passed on of a session that starts at s.
pub record IsPassedSession (v : Version) (a : Addition) (before below above : List Transaction)
    (s : ℕ) (bytes : List ℕ) (complete : List Sent) : Type 0 where
  pub sent : List Sent
  pub later : List Sent
  pub stored : AllByRecursion (λ (t : Transaction). t.end ≤ s) before
  pub session : IsWholeSession v (before ++ (below ++ above)) s (sent ++ later)
  pub keeps : s < a.point → KeepsDefinition a (sent ++ later)
  pub written : AreBytesOf (passed_on a s sent) bytes complete

-- or something foreign comes after it
abbrev pub IsPassedIncoming : Version → Addition → List Transaction → List Transaction → List Transaction
    → ℕ → List ℕ → List Sent → Type 0
IsPassedIncoming v a before below above s bytes complete =
    IsPassedSession v a before below above s bytes complete
    ⊎ ((ends : EndsForeign complete bytes)
    × IsPassedSession v a before below above s (whole_frames complete ends.done) complete)

-- Whatever is passed on of sessions, one after the other, it is sessions of the copy's history, of
-- which every law of sessions speaks.
abbrev pub PassedSessionsAreSessions : Type 0
PassedSessionsAreSessions =
    (v : Version) (a : Addition) (before below above : List Transaction) (p : Progress)
    (sessions : List (List ℕ)) (all_complete : List (List Sent))
    → IsAround a.point before below above
    → EachStarts (IsPassedIncoming v a before below above) p sessions all_complete
    → AreIncoming v (with_rows a before below above) p sessions all_complete
