-- Part of the statement. PostgreSQL documentation, Streaming Replication Protocol and Logical
-- Streaming Replication Protocol: which sessions a well-formed server may send of its history.
use Rattle.std.specs.Prelude.{◌≡◌, ◌<◌, ℕ, List, [], ◌∷◌, ◌++◌, Ok}
use Rattle.std.specs.List.{AllByRecursion}
use Rattle.pglogical.specs.declared.message.RelationDef.{RelationDef}
use Rattle.pglogical.specs.declared.message.Item.{Item}
use Rattle.pgorder.specs.declared.Version.{Version}
use Rattle.pgorder.specs.Shape.{IsShaped}
use Rattle.pgsub_core.specs.Server.Work.{surviving_changes}
use Rattle.pgsub_core.specs.Server.History.{Transaction, ChangesRows, ended_after}
use Rattle.pgsub_core.specs.Server.Described.{described, relations_after}
use Rattle.pgsub_core.specs.Server.Streamed.{IsStreamOf}
use Rattle.pgsub_core.specs.Server.Stream.{Sent, CommitOrKeepalive, Committed, KeepaliveEnd}
use Rattle.pgsub_core.specs.Server.Stream.{Completed, WholeCommit, StreamedCommit, messages_in}
use Rattle.pgsub_core.specs.Server.Stream.{commits_and_keepalives}

-- the commit that came is this transaction's, and these of its items survive
abbrev pub IsCommitOf : Transaction → Completed → List Item → Type 0
IsCommitOf t (WholeCommit xid lsn end time items) surviving =
    (xid ≡ t.xid) × (lsn ≡ t.lsn) × (end ≡ t.end) × (time ≡ t.time) × (surviving ≡ items)
IsCommitOf t (StreamedCommit xid lsn end time streamed) surviving =
    (xid ≡ t.xid) × (lsn ≡ t.lsn) × (end ≡ t.end) × (time ≡ t.time) × IsStreamOf t.work xid streamed surviving

-- only transactions that change no rows are left out
abbrev pub ChangeNothing : List Transaction → Type 0
ChangeNothing ts = AllByRecursion (λ (t : Transaction). surviving_changes t.work ≡ []) ts

-- The remaining transactions are committed in order, up to some last one. A keepalive's end is
-- smaller than the end of each of them that changes rows.
abbrev pub CommitsFollow : List RelationDef → List Transaction → List CommitOrKeepalive → Type 0
CommitsFollow earlier remaining [] = Unit {0}
CommitsFollow earlier remaining (KeepaliveEnd end quiet ∷ ms) =
    AllByRecursion (λ (t : Transaction). ChangesRows t → end < t.end) remaining × CommitsFollow earlier remaining ms
CommitsFollow earlier remaining (Committed completed ∷ ms) =
    (left_out : List Transaction) × (t : Transaction) × (later : List Transaction) × (surviving : List Item)
    × (remaining ≡ left_out ++ t ∷ later)
    × ChangeNothing left_out
    × IsCommitOf t completed surviving
    × (described earlier surviving ≡ Ok (surviving_changes t.work))
    × CommitsFollow (relations_after earlier surviving) later ms

-- A session that starts at s sends this.
pub record Delivers (v : Version) (history : List Transaction) (s : ℕ) (sent : List Sent) : Type 0 where
  pub shaped : IsShaped v (messages_in sent)
  pub commits : CommitsFollow [] (ended_after s history) (commits_and_keepalives [] sent)
