-- Part of the statement. PostgreSQL documentation, Streaming Replication Protocol, Standby status
-- update: what a subscriber has reached, its position (applied), confirmed (flushed) and received
-- (written).
use Rattle.std.specs.Prelude.{ℕ, List, [], ◌∷◌, true, false, max}
use Rattle.pglogical.specs.declared.message.Message.{Message}
use Rattle.pgsub_core.specs.Server.Stream.{Sent, Data, Keepalive, CommitOrKeepalive, Committed}
use Rattle.pgsub_core.specs.Server.Stream.{KeepaliveEnd, end_of, commits_and_keepalives}

pub record Progress : Type 0 where
  pub position : ℕ
  pub confirmed : ℕ
  pub received : ℕ

-- the greatest end of a commit
abbrev pub position_after : ℕ → List CommitOrKeepalive → ℕ
position_after p [] = p
position_after p (Committed completed ∷ ms) = position_after (max p (end_of completed)) ms
position_after p (KeepaliveEnd end quiet ∷ ms) = position_after p ms

-- the greatest end of a quiet keepalive
abbrev pub quiet_end : ℕ → List CommitOrKeepalive → ℕ
quiet_end c [] = c
quiet_end c (Committed completed ∷ ms) = quiet_end c ms
quiet_end c (KeepaliveEnd end true ∷ ms) = quiet_end (max c end) ms
quiet_end c (KeepaliveEnd end false ∷ ms) = quiet_end c ms

-- the greatest of all start and end fields
abbrev pub fields_after : ℕ → List Sent → ℕ
fields_after r [] = r
fields_after r (Data start end clock m ∷ sent) = fields_after (max r (max start end)) sent
fields_after r (Keepalive end clock reply ∷ sent) = fields_after (max r end) sent

-- after these messages of a session, behind those before them in it
abbrev pub reached : Progress → List Message → List Sent → Progress
reached p before sent =
    let position = position_after p.position (commits_and_keepalives before sent) in
    let confirmed = max position (quiet_end p.confirmed (commits_and_keepalives before sent)) in
    record { position = position; confirmed = confirmed; received = max confirmed (fields_after p.received sent) }

-- a disconnection sets received to confirmed
abbrev pub disconnected : Progress → Progress
disconnected p = record { position = p.position; confirmed = p.confirmed; received = p.confirmed }
