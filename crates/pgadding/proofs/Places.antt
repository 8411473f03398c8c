-- The commits of messages that stand in order, by the place at which they come.
use Rattle.std.proofs.Common.{◌≡◌, ◌≤◌, ◌++◌, ℕ, List, [], ◌∷◌, Option, Some, None, refl, sym}
use Rattle.std.proofs.Common.{ℤ, subst, arith, append_assoc}
use Rattle.std.specs.List.{AllByRecursion}
use Rattle.pglogical.specs.declared.message.Item.{Item}
use Rattle.pglogical.specs.declared.message.Message.{Message}
use Rattle.pglogical.specs.declared.message.Message.TheVariants as message
use Rattle.pgsub_core.specs.Server.Stream.{Sent, Data, Keepalive, CommitOrKeepalive, Committed}
use Rattle.pgsub_core.specs.Server.Stream.{KeepaliveEnd, Completed, WholeCommit, StreamedCommit}
use Rattle.pgsub_core.specs.Server.Stream.{messages_in, commits_and_keepalives, pair_of, pair_items}
use Rattle.pgsub_core.specs.Server.Stream.{pair_commit}
use Rattle.pgadding.specs.Passing.{place_after}
use Rattle.pgadding.specs.Around.{DefinedBeforeNamed, BeginsFrom, items_in}
use Rattle.pgadding.proofs.Ordered.{InOrder}
use Rattle.pgadding.proofs.Redefined.{defined_split}
use Rattle.pgadding.proofs.Defined.{LateNamed}

-- the messages before end in a pair exactly where the place says so
abbrev pub At : Option ℕ → List Message → Type 0
At None before = pair_of before ≡ None
At (Some l) before = (xid : ℕ) × (pair_of before ≡ Some xid)

-- ---- where the table is named late

abbrev pub open_items : Option ℕ → List Message → List Item
open_items None before = []
open_items (Some l) before = pair_items before

late_commit : (oid lsn end : ℕ) (time : ℤ) (pair : Option ℕ) (items more : List Item) (ms : List CommitOrKeepalive) (xid : ℕ)
    → pair ≡ Some xid → DefinedBeforeNamed oid (Unit {0}) (items ++ more)
    → (DefinedBeforeNamed oid (Unit {0}) more → LateNamed oid ms) → LateNamed oid (pair_commit pair lsn end time items ++ ms)
late_commit oid lsn end time pair items more ms xid e late then =
    subst (λ (p : Option ℕ). LateNamed oid (pair_commit p lsn end time items ++ ms)) (sym e)
    (defined_split oid (LateNamed oid ms) items more late then)

pub late_named : (oid : ℕ) (place : Option ℕ) (before : List Message) (sent : List Sent) → At place before
    → InOrder place (messages_in sent)
    → DefinedBeforeNamed oid (Unit {0}) (open_items place before ++ items_in sent) → LateNamed oid (commits_and_keepalives before sent)
late_named oid place before [] at h late = tt
late_named oid place before (Keepalive end clock reply ∷ sent) at h late = late_named oid place before sent at h late
late_named oid None before (Data start end clock (message.Begin lsn time xid) ∷ sent) at h late =
    late_named oid (Some lsn) (message.Begin lsn time xid ∷ before) sent (xid, refl) h.1 late
late_named oid None before (Data start end clock (message.Logical xid transactional lsn prefix content) ∷ sent) at h late =
    late_named oid None (message.Logical xid transactional lsn prefix content ∷ before) sent at h.1 late
late_named oid None before (Data start end clock (message.Commit lsn done time) ∷ sent) at h late = absurd h.0
late_named oid None before (Data start end clock (message.Origin lsn name) ∷ sent) at h late = absurd h.0
late_named oid None before (Data start end clock (message.TypeName xid type_oid namespace name) ∷ sent) at h late = absurd h.0
late_named oid None before (Data start end clock (message.Item xid item) ∷ sent) at h late = absurd h.0
late_named oid None before (Data start end clock (message.StreamStart xid first) ∷ sent) at h late = absurd h.0
late_named oid None before (Data start end clock message.StreamStop ∷ sent) at h late = absurd h.0
late_named oid None before (Data start end clock (message.StreamCommit xid lsn done time) ∷ sent) at h late = absurd h.0
late_named oid None before (Data start end clock (message.StreamAbort xid label) ∷ sent) at h late = absurd h.0
late_named oid (Some l) before (Data start end clock (message.Commit lsn done time) ∷ sent) at h late =
    late_commit oid lsn done time (pair_of before) (pair_items before) (items_in sent) _ at.0 at.1 late
    (λ more. late_named oid None (message.Commit lsn done time ∷ before) sent refl h.1 more)
late_named oid (Some l) before (Data start end clock (message.Item xid item) ∷ sent) at h late =
    late_named oid (Some l) (message.Item xid item ∷ before) sent at h.1
    (subst (DefinedBeforeNamed oid (Unit {0})) (sym (append_assoc (pair_items before) (item ∷ []) (items_in sent))) late)
late_named oid (Some l) before (Data start end clock (message.Origin lsn name) ∷ sent) at h late =
    late_named oid (Some l) (message.Origin lsn name ∷ before) sent at h.1 late
late_named oid (Some l) before (Data start end clock (message.TypeName xid type_oid namespace name) ∷ sent) at h late =
    late_named oid (Some l) (message.TypeName xid type_oid namespace name ∷ before) sent at h.1 late
late_named oid (Some l) before (Data start end clock (message.Logical xid transactional lsn prefix content) ∷ sent) at h late =
    late_named oid (Some l) (message.Logical xid transactional lsn prefix content ∷ before) sent at h.1 late
late_named oid (Some l) before (Data start end clock (message.Begin lsn time xid) ∷ sent) at h late = absurd h.0
late_named oid (Some l) before (Data start end clock (message.StreamStart xid first) ∷ sent) at h late = absurd h.0
late_named oid (Some l) before (Data start end clock message.StreamStop ∷ sent) at h late = absurd h.0
late_named oid (Some l) before (Data start end clock (message.StreamCommit xid lsn done time) ∷ sent) at h late = absurd h.0
late_named oid (Some l) before (Data start end clock (message.StreamAbort xid label) ∷ sent) at h late = absurd h.0

-- ---- the first commit

abbrev pub lsn_of : Completed → ℕ
lsn_of (WholeCommit xid lsn end time items) = lsn
lsn_of (StreamedCommit xid lsn end time streamed) = lsn

-- the first commit, if one comes, is there or behind
abbrev pub FirstFrom : ℕ → List CommitOrKeepalive → Type 0
FirstFrom from [] = Unit {0}
FirstFrom from (KeepaliveEnd end quiet ∷ ms) = FirstFrom from ms
FirstFrom from (Committed completed ∷ ms) = from ≤ lsn_of completed

-- and one comes
abbrev pub HasFirst : ℕ → List CommitOrKeepalive → Type 0
HasFirst from [] = ⊥
HasFirst from (KeepaliveEnd end quiet ∷ ms) = HasFirst from ms
HasFirst from (Committed completed ∷ ms) = from ≤ lsn_of completed

pub has_first : (from : ℕ) (ms : List CommitOrKeepalive) → HasFirst from ms → FirstFrom from ms
has_first from [] h = tt
has_first from (KeepaliveEnd end quiet ∷ ms) h = has_first from ms h
has_first from (Committed completed ∷ ms) h = h

first_pair : (from lsn end : ℕ) (time : ℤ) (pair : Option ℕ) (items : List Item) (ms : List CommitOrKeepalive) (xid : ℕ)
    → pair ≡ Some xid → from ≤ lsn
    → HasFirst from (pair_commit pair lsn end time items ++ ms)
first_pair from lsn end time pair items ms xid e le =
    subst (λ (p : Option ℕ). HasFirst from (pair_commit p lsn end time items ++ ms)) (sym e) le

-- a pair that ends in the session has its commit at its LSN
pub commit_comes : (from l : ℕ) (before : List Message) (sent : List Sent) → from ≤ l → At (Some l) before
    → InOrder (Some l) (messages_in sent) → place_after (Some l) sent ≡ None
    → HasFirst from (commits_and_keepalives before sent)
commit_comes from l before [] le at h ends = absurd (cc)
commit_comes from l before (Keepalive end clock reply ∷ sent) le at h ends = commit_comes from l before sent le at h ends
commit_comes from l before (Data start end clock (message.Commit lsn done time) ∷ sent) le at h ends =
    first_pair from lsn done time (pair_of before) (pair_items before) _ at.0 at.1 (let same : lsn ≡ l = h.0 in omega arith)
commit_comes from l before (Data start end clock (message.Item xid item) ∷ sent) le at h ends =
    commit_comes from l (message.Item xid item ∷ before) sent le at h.1 ends
commit_comes from l before (Data start end clock (message.Origin lsn name) ∷ sent) le at h ends =
    commit_comes from l (message.Origin lsn name ∷ before) sent le at h.1 ends
commit_comes from l before (Data start end clock (message.TypeName xid oid namespace name) ∷ sent) le at h ends =
    commit_comes from l (message.TypeName xid oid namespace name ∷ before) sent le at h.1 ends
commit_comes from l before (Data start end clock (message.Logical xid transactional lsn prefix content) ∷ sent) le at h ends =
    commit_comes from l (message.Logical xid transactional lsn prefix content ∷ before) sent le at h.1 ends
commit_comes from l before (Data start end clock (message.Begin lsn time xid) ∷ sent) le at h ends = absurd h.0
commit_comes from l before (Data start end clock (message.StreamStart xid first) ∷ sent) le at h ends = absurd h.0
commit_comes from l before (Data start end clock message.StreamStop ∷ sent) le at h ends = absurd h.0
commit_comes from l before (Data start end clock (message.StreamCommit xid lsn done time) ∷ sent) le at h ends = absurd h.0
commit_comes from l before (Data start end clock (message.StreamAbort xid label) ∷ sent) le at h ends = absurd h.0

abbrev PlaceFrom : ℕ → Option ℕ → Type 0
PlaceFrom from None = Unit {0}
PlaceFrom from (Some l) = from ≤ l

-- where all begin there or behind, so does the first commit
pub first_from : (from told : ℕ) (place : Option ℕ) (before : List Message) (sent : List Sent) → from ≤ told → PlaceFrom from place
    → At place before → InOrder place (messages_in sent)
    → AllByRecursion (BeginsFrom told) (messages_in sent) → FirstFrom from (commits_and_keepalives before sent)
first_from from told place before [] le here at h all = tt
first_from from told place before (Keepalive end clock reply ∷ sent) le here at h all =
    first_from from told place before sent le here at h all
first_from from told None before (Data start end clock (message.Begin lsn time xid) ∷ sent) le here at h all =
    first_from from told (Some lsn) (message.Begin lsn time xid ∷ before) sent le (let later : told ≤ lsn = all.0 in omega arith)
    (xid, refl) h.1 all.1
first_from from told None before (Data start end clock (message.Logical xid transactional lsn prefix content) ∷ sent) le here at h all =
    first_from from told None (message.Logical xid transactional lsn prefix content ∷ before) sent le tt at h.1 all.1
first_from from told None before (Data start end clock (message.Commit lsn done time) ∷ sent) le here at h all = absurd h.0
first_from from told None before (Data start end clock (message.Origin lsn name) ∷ sent) le here at h all = absurd h.0
first_from from told None before (Data start end clock (message.TypeName xid oid namespace name) ∷ sent) le here at h all = absurd h.0
first_from from told None before (Data start end clock (message.Item xid item) ∷ sent) le here at h all = absurd h.0
first_from from told None before (Data start end clock (message.StreamStart xid first) ∷ sent) le here at h all = absurd h.0
first_from from told None before (Data start end clock message.StreamStop ∷ sent) le here at h all = absurd h.0
first_from from told None before (Data start end clock (message.StreamCommit xid lsn done time) ∷ sent) le here at h all = absurd h.0
first_from from told None before (Data start end clock (message.StreamAbort xid label) ∷ sent) le here at h all = absurd h.0
first_from from told (Some l) before (Data start end clock (message.Commit lsn done time) ∷ sent) le here at h all =
    has_first from (pair_commit (pair_of before) lsn done time (pair_items before)
    ++ commits_and_keepalives (message.Commit lsn done time ∷ before) sent)
    (first_pair from lsn done time (pair_of before) (pair_items before) _ at.0 at.1 (let same : lsn ≡ l = h.0 in omega arith))
first_from from told (Some l) before (Data start end clock (message.Item xid item) ∷ sent) le here at h all =
    first_from from told (Some l) (message.Item xid item ∷ before) sent le here at h.1 all.1
first_from from told (Some l) before (Data start end clock (message.Origin lsn name) ∷ sent) le here at h all =
    first_from from told (Some l) (message.Origin lsn name ∷ before) sent le here at h.1 all.1
first_from from told (Some l) before (Data start end clock (message.TypeName xid oid namespace name) ∷ sent) le here at h all =
    first_from from told (Some l) (message.TypeName xid oid namespace name ∷ before) sent le here at h.1 all.1
first_from from told (Some l) before (Data start end clock (message.Logical xid transactional lsn prefix content) ∷ sent) le here at h all =
    first_from from told (Some l) (message.Logical xid transactional lsn prefix content ∷ before) sent le here at h.1 all.1
first_from from told (Some l) before (Data start end clock (message.Begin lsn time xid) ∷ sent) le here at h all = absurd h.0
first_from from told (Some l) before (Data start end clock (message.StreamStart xid first) ∷ sent) le here at h all = absurd h.0
first_from from told (Some l) before (Data start end clock message.StreamStop ∷ sent) le here at h all = absurd h.0
first_from from told (Some l) before (Data start end clock (message.StreamCommit xid lsn done time) ∷ sent) le here at h all = absurd h.0
first_from from told (Some l) before (Data start end clock (message.StreamAbort xid label) ∷ sent) le here at h all = absurd h.0
