-- Part of the statement. PostgreSQL documentation, Streaming Replication Protocol and Message
-- Formats (CopyData, CopyDone): the bytes of sessions of one history.
use Rattle.std.specs.Prelude.{◌≡◌, ◌≢◌, ◌≤◌, ◌⊎◌, ℕ, List, [], ◌∷◌, ◌++◌, map, length, ◌<◌, ◌^◌}
use Rattle.std.specs.Prelude.{Bool, true, false, FitsSigned, ◌+◌}
use Rattle.std.specs.List.{AllByRecursion}
use Rattle.std.specs.Int.{w64}
use Rattle.pglogical.specs.Spelling.{message_spelling, IsWireMessage}
use Rattle.pgorder.specs.declared.Version.{Version}
use Rattle.pgwire.specs.Frames as wire
use Rattle.pgsub_core.specs.Server.History.{Transaction}
use Rattle.pgsub_core.specs.Server.Stream.{Sent, Data, Keepalive}
use Rattle.pgsub_core.specs.Server.Delivers.{Delivers}
use Rattle.pgsub_core.specs.Server.Reached.{Progress, reached, disconnected}

abbrev pub server_message : Sent → wire.ServerMessage
server_message (Data start end clock m) = wire.XLogData start end clock (message_spelling m)
server_message (Keepalive end clock reply) = wire.Keepalive end clock reply

abbrev pub frames_of : List Sent → List wire.Frame
frames_of sent = map (λ m. wire.CopyData (wire.payload (server_message m))) sent

-- less than the frame of the next message
abbrev pub IsPartOfNextFrame : List Sent → List ℕ → Type 0
IsPartOfNextFrame [] rest = Unit {0}
IsPartOfNextFrame (m ∷ later) rest = length rest < length (wire.frame (wire.CopyData (wire.payload (server_message m))))

abbrev pub IsWireSent : Sent → Type 0
IsWireSent (Data start end clock m) =
    (start < 2 ^ 64) × (end < 2 ^ 64) × FitsSigned w64 clock × IsWireMessage m × (length (message_spelling m) + 29 ≤ 2147483647)
IsWireSent (Keepalive end clock reply) = (end < 2 ^ 64) × FitsSigned w64 clock

-- One session's bytes: a front of the frames of what is delivered, behind which CopyDone may stand.
pub record IsSession (v : Version) (history : List Transaction) (s : ℕ) (bytes : List ℕ) (complete : List Sent) : Type 0 where
  pub sent : List Sent
  pub done : List wire.Frame
  pub behind : List ℕ
  pub delivered : Delivers v history s sent
  -- its numbers and texts are those of the wire
  pub fits : AllByRecursion IsWireSent sent
  pub at_end : (done ≡ []) ⊎ (done ≡ wire.CopyDone ∷ [])
  pub front : bytes ++ behind ≡ wire.frames (frames_of sent ++ done)
  -- the messages that are complete in the bytes, and what of the next one's frame stands behind
  -- them
  pub later : List Sent
  pub rest : List ℕ
  pub parts : sent ≡ complete ++ later
  pub stands : bytes ≡ wire.frames (frames_of complete) ++ rest
  pub short : IsPartOfNextFrame later rest

abbrev pub last_frame : Bool → List wire.Frame
last_frame true = wire.CopyDone ∷ []
last_frame false = []

-- the frames of these messages and, where it has come, CopyDone
abbrev pub whole_frames : List Sent → Bool → List ℕ
whole_frames complete done = wire.frames (frames_of complete ++ last_frame done)

-- No session holds this: a frame that is neither CopyData (`d`) nor CopyDone (`c`), or anything
-- after CopyDone.
abbrev pub IsForeign : Bool → List ℕ → Type 0
IsForeign done [] = ⊥
IsForeign true (byte ∷ more) = Unit {0}
IsForeign false (byte ∷ more) = (byte ≢ 100) × (byte ≢ 99)

-- After all whole frames of a session comes something foreign: CommandComplete of a server that is
-- shut down, for instance, or ErrorResponse.
pub record EndsForeign (complete : List Sent) (bytes : List ℕ) : Type 0 where
  pub done : Bool
  pub foreign : List ℕ
  pub whole : bytes ≡ whole_frames complete done ++ foreign
  pub is : IsForeign done foreign

-- What comes of one session: its bytes; or all its whole frames, and then something foreign.
abbrev pub IsIncoming : Version → List Transaction → ℕ → List ℕ → List Sent → Type 0
IsIncoming v history s bytes complete =
    IsSession v history s bytes complete
    ⊎ ((ends : EndsForeign complete bytes) × IsSession v history s (whole_frames complete ends.done) complete)

-- One after the other, each from a start that is at most what is confirmed before it. These
-- messages are complete in each.
abbrev pub EachStarts : (ℕ → List ℕ → List Sent → Type 0) → Progress → List (List ℕ) → List (List Sent) → Type 0
EachStarts is p [] [] = Unit {0}
EachStarts is p [] (complete ∷ all_complete) = ⊥
EachStarts is p (bytes ∷ sessions) [] = ⊥
EachStarts is p (bytes ∷ sessions) (complete ∷ all_complete) =
    ((s : ℕ) × (s ≤ p.confirmed) × is s bytes complete) × EachStarts is (reached (disconnected p) [] complete) sessions all_complete

-- the bytes of sessions, each cut off anywhere
abbrev pub AreSessions : Version → List Transaction → Progress → List (List ℕ) → List (List Sent) → Type 0
AreSessions v history p sessions all_complete = EachStarts (IsSession v history) p sessions all_complete

-- what comes of sessions, each cut off anywhere or ended by something foreign
abbrev pub AreIncoming : Version → List Transaction → Progress → List (List ℕ) → List (List Sent) → Type 0
AreIncoming v history p sessions all_complete = EachStarts (IsIncoming v history) p sessions all_complete

-- sessions may start as far as c, which is more than what is confirmed where nothing that changes
-- rows lies between
abbrev pub starting_by : ℕ → Progress → Progress
starting_by c p = record p { confirmed = c }

-- what is reached after all sessions
abbrev pub reached_all : Progress → List (List Sent) → Progress
reached_all p [] = p
reached_all p (complete ∷ all_complete) = reached_all (reached (disconnected p) [] complete) all_complete
