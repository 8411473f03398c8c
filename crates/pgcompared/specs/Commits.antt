-- Logical Streaming Replication Protocol; Streaming of Large Transactions for Logical Decoding: the
-- commits of a session, from its messages alone.
use Rattle.std.specs.Prelude.{◌≡◌, ℕ, List, [], ◌∷◌, ◌++◌, map, Option, Some, None, ◌==◌}
use Rattle.std.specs.Prelude.{if◌then◌else◌}
use Rattle.pglogical.specs.declared.message.Item.{Item}
use Rattle.pglogical.specs.declared.message.Message.{Message}
use Rattle.pglogical.specs.declared.message.Message.TheVariants as message
use Rattle.pgrepeats.specs.declared.commit.Commit.{Commit}
use Rattle.pgrepeats.specs.declared.digest.Change.{Change}
use Rattle.pgrepeats.specs.Digests.{digest_of}
use Rattle.pgcompared.specs.declared.session.Ended.{Ended}
use Rattle.pgcompared.specs.declared.session.Ended.TheVariants as ended
use Rattle.pgcompared.specs.Sessions.{change_in}

-- an item under the xid of the transaction or subtransaction that made it
abbrev pub Labelled : Type 0
Labelled = ℕ × Item

-- how far the messages have come: the xid of the last Begin and the items behind it, the xid of the
-- last Stream Start, and the items of each streamed transaction that aren't rolled back
pub record Course : Type 0 where
  pub xid : ℕ
  pub pair : List Item
  pub block : ℕ
  pub held : ℕ → List Labelled

abbrev pub first_course : Course
first_course = record { xid = 0; pair = []; block = 0; held = λ xid. [] }

-- these are held of a transaction, and of the others what was
abbrev pub holding : ℕ → List Labelled → (ℕ → List Labelled) → ℕ → List Labelled
holding xid items held x = if x == xid then items else held x

-- what the abort of a subtransaction leaves: the items before the first one under its xid
abbrev pub kept_of : ℕ → List Labelled → List Labelled
kept_of label [] = []
kept_of label (l ∷ ls) = if l.0 == label then [] else l ∷ kept_of label ls

-- all go with an abort of the transaction itself
abbrev pub left_of : ℕ → ℕ → List Labelled → List Labelled
left_of xid label ls = if xid == label then [] else kept_of label ls

abbrev pub course_after : Course → Message → Course
course_after c (message.Begin lsn time xid) = record c { xid = xid; pair = [] }
course_after c (message.Item None i) = record c { pair = c.pair ++ i ∷ [] }
course_after c (message.Item (Some label) i) = record c { held = holding c.block (c.held c.block ++ (label, i) ∷ []) c.held }
course_after c (message.StreamStart xid first) = record c { block = xid }
course_after c (message.StreamAbort xid label) = record c { held = holding xid (left_of xid label (c.held xid)) c.held }
course_after c (message.StreamCommit xid lsn end time) = record c { held = holding xid [] c.held }
course_after c m = c

abbrev pub listed_change : Option Change → List Change
listed_change None = []
listed_change (Some change) = change ∷ []

-- the changes among items, in order
abbrev pub changes_of : List Item → List Change
changes_of [] = []
changes_of (i ∷ is) = listed_change (change_in i) ++ changes_of is

abbrev pub items_of : List Labelled → List Item
items_of ls = map (λ (l : Labelled). l.1) ls

-- what commits with a message
abbrev pub commit_with : Course → Message → List Commit
commit_with c (message.Commit lsn end time) =
    record { end = end; lsn = lsn; xid = c.xid; time = time; digest = digest_of (changes_of c.pair) } ∷ []
commit_with c (message.StreamCommit xid lsn end time) =
    record { end = end; lsn = lsn; xid = xid; time = time; digest = digest_of (changes_of (items_of (c.held xid))) } ∷ []
commit_with c m = []

abbrev pub commits_of : Course → List Message → List Commit
commits_of c [] = []
commits_of c (m ∷ ms) = commit_with c m ++ commits_of (course_after c m) ms

-- a transaction that committed, or one of which not all points were kept
abbrev pub IsOfCommit : Ended → Commit → Type 0
IsOfCommit (ended.Whole d) c = d ≡ c
IsOfCommit (ended.Over end) c = end ≡ c.end

abbrev pub AreOfCommits : List Ended → List Commit → Type 0
AreOfCommits [] [] = Unit {0}
AreOfCommits [] (c ∷ cs) = ⊥
AreOfCommits (e ∷ es) [] = ⊥
AreOfCommits (e ∷ es) (c ∷ cs) = IsOfCommit e c × AreOfCommits es cs
