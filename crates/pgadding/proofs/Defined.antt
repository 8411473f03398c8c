-- Commits follow as before where one table's definition was replaced, and is replaced again before
-- the table is named.
use Rattle.std.proofs.Common.{◌≡◌, inl, inr, ℕ, List, [], ◌∷◌, ◌++◌, Option, Some, None, sym, subst}
use Rattle.std.proofs.Common.{ℤ, ◌∙◌}
use Rattle.std.specs.List.{AllByRecursion}
use Rattle.pglogical.specs.declared.message.RelationDef.{RelationDef}
use Rattle.pglogical.specs.declared.message.Item.{Item}
use Rattle.pglogical.specs.declared.message.Message.{Message}
use Rattle.pglogical.specs.declared.message.Message.TheVariants as message
use Rattle.pgsub_core.specs.Server.History.{Transaction}
use Rattle.pgsub_core.specs.Server.Work.{surviving_changes}
use Rattle.pgsub_core.specs.Server.Described.{last_of, relations_after}
use Rattle.pgsub_core.specs.Server.Stream.{Sent, Data, Keepalive, CommitOrKeepalive, Committed}
use Rattle.pgsub_core.specs.Server.Stream.{KeepaliveEnd, WholeCommit, StreamedCommit, messages_in}
use Rattle.pgsub_core.specs.Server.Stream.{commits_and_keepalives, pair_of, pair_items, pair_commit}
use Rattle.pgsub_core.specs.Server.Delivers.{CommitsFollow}
use Rattle.pgadding.specs.Around.{DefinedBeforeNamed}
use Rattle.pgadding.proofs.Ordered.{AreWhole}
use Rattle.pgadding.proofs.Redefined.{Alike, AlikeBut, alike_described, alike_after, same}
use Rattle.pgadding.proofs.Redefined.{defined_first}

-- The commits that come define the table before they name it. None is of stream blocks.
abbrev pub LateNamed : ℕ → List CommitOrKeepalive → Type 0
LateNamed oid [] = Unit {0}
LateNamed oid (KeepaliveEnd end quiet ∷ ms) = LateNamed oid ms
LateNamed oid (Committed (WholeCommit xid lsn end time items) ∷ ms) = DefinedBeforeNamed oid (LateNamed oid ms) items
LateNamed oid (Committed (StreamedCommit xid lsn end time streamed) ∷ ms) = ⊥

abbrev pub IsWholeCommit : CommitOrKeepalive → Type 0
IsWholeCommit (KeepaliveEnd end quiet) = Unit {0}
IsWholeCommit (Committed (WholeCommit xid lsn end time items)) = Unit {0}
IsWholeCommit (Committed (StreamedCommit xid lsn end time streamed)) = ⊥

pub alike_follow : (ms : List CommitOrKeepalive) (earlier other : List RelationDef) (remaining : List Transaction) → Alike earlier other
    → CommitsFollow earlier remaining ms → CommitsFollow other remaining ms
alike_follow [] earlier other remaining alike h = tt
alike_follow (KeepaliveEnd end quiet ∷ ms) earlier other remaining alike h = (h.0, alike_follow ms earlier other remaining alike h.1)
alike_follow (Committed completed ∷ ms) earlier other remaining alike h = (
  h.0,
  h.1,
  h.2,
  h.3,
  h.4,
  h.5,
  h.6,
  sym (alike_described earlier other alike h.3) ∙ h.7,
  alike_follow ms (relations_after earlier h.3) (relations_after other h.3) h.2 (alike_after earlier other alike h.3) h.8,
)

pub late_follow : (oid : ℕ) (ms : List CommitOrKeepalive) (earlier other : List RelationDef) (remaining : List Transaction)
    → AlikeBut oid earlier other → LateNamed oid ms
    → CommitsFollow earlier remaining ms → CommitsFollow other remaining ms
late_follow oid [] earlier other remaining alike late h = tt
late_follow oid (KeepaliveEnd end quiet ∷ ms) earlier other remaining alike late h =
    (h.0, late_follow oid ms earlier other remaining alike late h.1)
late_follow oid (Committed (StreamedCommit xid lsn end time streamed) ∷ ms) earlier other remaining alike late h = absurd late
late_follow oid (Committed (WholeCommit xid lsn end time items) ∷ ms) earlier other remaining alike late h =
    let its : DefinedBeforeNamed oid (LateNamed oid ms) h.3 = subst (DefinedBeforeNamed oid (LateNamed oid ms)) (sym h.6.4) late in
    let it = same oid (LateNamed oid ms) h.3 earlier other alike its in (
      h.0,
      h.1,
      h.2,
      h.3,
      h.4,
      h.5,
      h.6,
      sym it.described_same ∙ h.7,
      elim it.behind as (λ _. CommitsFollow (relations_after other h.3) h.2 ms) [
        | inl all ↦ alike_follow ms (relations_after earlier h.3) (relations_after other h.3) h.2 all h.8
        | inr both ↦ late_follow oid ms (relations_after earlier h.3) (relations_after other h.3) h.2 both.1 both.0 h.8
      ],
    )

-- a table that has no definition yet gets one first
pub never_defined : (oid : ℕ) (ms : List CommitOrKeepalive) (earlier : List RelationDef) (remaining : List Transaction)
    → last_of oid earlier ≡ None → AllByRecursion IsWholeCommit ms
    → CommitsFollow earlier remaining ms → LateNamed oid ms
never_defined oid [] earlier remaining none whole h = tt
never_defined oid (KeepaliveEnd end quiet ∷ ms) earlier remaining none whole h = never_defined oid ms earlier remaining none whole.1 h.1
never_defined oid (Committed (StreamedCommit xid lsn end time streamed) ∷ ms) earlier remaining none whole h = absurd whole.0
never_defined oid (Committed (WholeCommit xid lsn end time items) ∷ ms) earlier remaining none whole h =
    subst (DefinedBeforeNamed oid (LateNamed oid ms)) h.6.4
    (defined_first oid (LateNamed oid ms) h.3 earlier (surviving_changes h.1.work) none h.7
    (λ still. never_defined oid ms (relations_after earlier h.3) h.2 still whole.1 h.8))

-- whole messages have whole commits
pair_whole : (pair : Option ℕ) (lsn end : ℕ) (time : ℤ) (items : List Item) (ms : List CommitOrKeepalive) → AllByRecursion IsWholeCommit ms
    → AllByRecursion IsWholeCommit (pair_commit pair lsn end time items ++ ms)
pair_whole None lsn end time items ms h = h
pair_whole (Some xid) lsn end time items ms h = (tt, h)

pub whole_commits : (before : List Message) (sent : List Sent) → AreWhole (messages_in sent)
    → AllByRecursion IsWholeCommit (commits_and_keepalives before sent)
whole_commits before [] h = tt
whole_commits before (Keepalive end clock reply ∷ sent) h = (tt, whole_commits before sent h)
whole_commits before (Data start end clock (message.Begin lsn time xid) ∷ sent) h =
    whole_commits (message.Begin lsn time xid ∷ before) sent h.1
whole_commits before (Data start end clock (message.Commit lsn done time) ∷ sent) h =
    pair_whole (pair_of before) lsn done time (pair_items before) _ (whole_commits (message.Commit lsn done time ∷ before) sent h.1)
whole_commits before (Data start end clock (message.Origin lsn name) ∷ sent) h = whole_commits (message.Origin lsn name ∷ before) sent h.1
whole_commits before (Data start end clock (message.TypeName xid oid namespace name) ∷ sent) h =
    whole_commits (message.TypeName xid oid namespace name ∷ before) sent h.1
whole_commits before (Data start end clock (message.Logical xid transactional lsn prefix content) ∷ sent) h =
    whole_commits (message.Logical xid transactional lsn prefix content ∷ before) sent h.1
whole_commits before (Data start end clock (message.Item xid item) ∷ sent) h = whole_commits (message.Item xid item ∷ before) sent h.1
whole_commits before (Data start end clock (message.StreamStart xid first) ∷ sent) h = absurd h.0
whole_commits before (Data start end clock message.StreamStop ∷ sent) h = absurd h.0
whole_commits before (Data start end clock (message.StreamCommit xid lsn done time) ∷ sent) h = absurd h.0
whole_commits before (Data start end clock (message.StreamAbort xid label) ∷ sent) h = absurd h.0
