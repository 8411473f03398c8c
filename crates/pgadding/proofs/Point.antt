-- At the point: the rows' transaction, and all that comes behind it.
use Rattle.std.proofs.Common.{◌≡◌, ◌⊎◌, inl, inr, ◌++◌, ℕ, List, [], ◌∷◌, true, false, cond, eqb}
use Rattle.std.proofs.Common.{◌&&◌, ℤ, Option, Some, None, refl, sym, ap, ap₂, subst, ◌∙◌, arith}
use Rattle.std.proofs.lemmas.Bool.Decides.{nat_tests}
use Rattle.std.specs.List.{AllByRecursion}
use Rattle.pglogical.specs.declared.message.RelationDef.{RelationDef}
use Rattle.pglogical.specs.declared.message.Item.{Item}
use Rattle.pglogical.specs.declared.message.Message.{Message}
use Rattle.pglogical.specs.declared.message.Message.TheVariants as message
use Rattle.pgsub_core.specs.Server.History.{Transaction}
use Rattle.pgsub_core.specs.Server.Described.{last_of, relations_after}
use Rattle.pgsub_core.specs.Server.Stream.{Sent, Data, Keepalive, CommitOrKeepalive, KeepaliveEnd}
use Rattle.pgsub_core.specs.Server.Stream.{messages_in, commits_and_keepalives, pair_of, pair_items}
use Rattle.pgsub_core.specs.Server.Stream.{pair_commit, block_of, is_absent}
use Rattle.pgsub_core.specs.Server.Delivers.{CommitsFollow, ChangeNothing}
use Rattle.pgadding.specs.Addition.{Addition, rows_items, rows_sent, rows_transaction}
use Rattle.pgadding.specs.Around.{Agrees, DefinedBeforeNamed, items_in}
use Rattle.pgadding.proofs.Ordered.{InOrder, AreWhole}
use Rattle.pgadding.proofs.Redefined.{Alike, AlikeBut}
use Rattle.pgadding.proofs.Defined.{LateNamed, IsWholeCommit, alike_follow, late_follow}
use Rattle.pgadding.proofs.Defined.{never_defined, whole_commits}
use Rattle.pgadding.proofs.Places.{FirstFrom, late_named}
use Rattle.pgadding.proofs.Following.{AreSeen, all_without, without_seen, nothing_all}
use Rattle.pgadding.proofs.RowsCommit.{with_rows_sent, rows-commits, rows-block, rows_described}
use Rattle.pgadding.proofs.RowsCommit.{rows_relations}

-- ---- the same commits come behind other messages

-- they end in the same pair, with the same items
record SamePair (before other : List Message) : Type 0 where
  pair : pair_of before ≡ pair_of other
  items : (pair_of before ≡ None) ⊎ (pair_items before ≡ pair_items other)
  block : block_of before ≡ block_of other

same_commit : (before other : List Message) → SamePair before other → (lsn end : ℕ) (time : ℤ)
    → pair_commit (pair_of before) lsn end time (pair_items before) ≡ pair_commit (pair_of other) lsn end time (pair_items other)
same_commit before other same lsn end time =
    elim same.items as (λ _. pair_commit (pair_of before) lsn end time (pair_items before)
    ≡ pair_commit (pair_of other) lsn end time (pair_items other)) [
      | inl none ↦ ap (λ (p : Option ℕ). pair_commit p lsn end time (pair_items before)) none
          ∙ sym (ap (λ (p : Option ℕ). pair_commit p lsn end time (pair_items other)) (sym same.pair ∙ none))
      | inr items ↦ ap₂ (λ (p : Option ℕ) (its : List Item). pair_commit p lsn end time its) same.pair items
    ]

with_item : (before other : List Message) → SamePair before other → (xid : Option ℕ) (item : Item)
    → SamePair (message.Item xid item ∷ before) (message.Item xid item ∷ other)
with_item before other same xid item = record {
  pair = same.pair;
  items = elim same.items as (λ _. (pair_of before ≡ None) ⊎ (pair_items before ++ item ∷ [] ≡ pair_items other ++ item ∷ [])) [
    | inl none ↦ inl none
    | inr items ↦ inr (ap (λ its. its ++ item ∷ []) items)
  ];
  block = same.block;
}

same_commits : (sent : List Sent) (before other : List Message) → SamePair before other → AreWhole (messages_in sent)
    → commits_and_keepalives before sent ≡ commits_and_keepalives other sent
same_commits [] before other same whole = refl
same_commits (Keepalive end clock reply ∷ sent) before other same whole =
    ap₂ (λ (p b : Option ℕ). KeepaliveEnd end (is_absent p && is_absent b) ∷ commits_and_keepalives before sent) same.pair same.block
    ∙ ap (λ ms. KeepaliveEnd end (is_absent (pair_of other) && is_absent (block_of other)) ∷ ms) (same_commits sent before other same whole)
same_commits (Data start end clock (message.Begin lsn time xid) ∷ sent) before other same whole =
    same_commits sent (message.Begin lsn time xid ∷ before) (message.Begin lsn time xid ∷ other)
    (record { pair = refl; items = inr refl; block = same.block }) whole.1
same_commits (Data start end clock (message.Commit lsn done time) ∷ sent) before other same whole =
    ap₂ (λ first rest. first ++ rest) (same_commit before other same lsn done time)
    (same_commits sent (message.Commit lsn done time ∷ before) (message.Commit lsn done time ∷ other)
    (record { pair = refl; items = inl refl; block = same.block }) whole.1)
same_commits (Data start end clock (message.Item xid item) ∷ sent) before other same whole =
    same_commits sent (message.Item xid item ∷ before) (message.Item xid item ∷ other) (with_item before other same xid item) whole.1
same_commits (Data start end clock (message.Origin lsn name) ∷ sent) before other same whole =
    same_commits sent (message.Origin lsn name ∷ before) (message.Origin lsn name ∷ other)
    (record { pair = same.pair; items = same.items; block = same.block }) whole.1
same_commits (Data start end clock (message.TypeName xid oid namespace name) ∷ sent) before other same whole =
    same_commits sent (message.TypeName xid oid namespace name ∷ before) (message.TypeName xid oid namespace name ∷ other)
    (record { pair = same.pair; items = same.items; block = same.block }) whole.1
same_commits (Data start end clock (message.Logical xid transactional lsn prefix content) ∷ sent) before other same whole =
    same_commits sent (message.Logical xid transactional lsn prefix content ∷ before)
    (message.Logical xid transactional lsn prefix content ∷ other) (record { pair = same.pair; items = same.items; block = same.block })
    whole.1
same_commits (Data start end clock (message.StreamStart xid first) ∷ sent) before other same whole = absurd whole.0
same_commits (Data start end clock message.StreamStop ∷ sent) before other same whole = absurd whole.0
same_commits (Data start end clock (message.StreamCommit xid lsn done time) ∷ sent) before other same whole = absurd whole.0
same_commits (Data start end clock (message.StreamAbort xid label) ∷ sent) before other same whole = absurd whole.0

-- ---- the definition that came with the rows

-- the definition is kept: the last one before the rows is the same, or the table gets another one
-- before it is named
abbrev pub KeepsBy : Addition → List RelationDef → List Sent → List Sent → Type 0
KeepsBy a known front rest =
    Agrees a.definition (last_of a.definition.oid (relations_after known (items_in front)))
    ⊎ DefinedBeforeNamed a.definition.oid (Unit {0}) (items_in rest)

but_the_first : (def : RelationDef) (earlier : List RelationDef) → AlikeBut def.oid earlier (def ∷ earlier)
but_the_first def earlier o isnt =
    let other : eqb def.oid o ≡ false = grind (arith, nat_tests) in sym (ap (λ b. cond b (Some def) (last_of o earlier)) other)

agree_alike : (def last : RelationDef) (earlier : List RelationDef) → last_of def.oid earlier ≡ Some last → last ≡ def
    → Alike earlier (def ∷ earlier)
agree_alike def last earlier e same o =
    elim (eqb def.oid o) as (λ b. eqb def.oid o ≡ b → last_of o earlier ≡ cond b (Some def) (last_of o earlier)) [
      | true ↦ λ yes. let at : def.oid ≡ o = grind (arith, nat_tests) in
          subst (λ x. last_of x earlier ≡ Some def) at (e ∙ ap (λ d. Some d) same)
      | false ↦ λ isnt. refl
    ] refl

-- commits that follow do so behind the rows
redefine : (def : RelationDef) (earlier : List RelationDef) (above : List Transaction) (ms : List CommitOrKeepalive)
    → AllByRecursion IsWholeCommit ms
    → Agrees def (last_of def.oid earlier) ⊎ LateNamed def.oid ms → CommitsFollow earlier above ms → CommitsFollow (def ∷ earlier) above ms
redefine def earlier above ms whole (inr late) h = late_follow def.oid ms earlier (def ∷ earlier) above (but_the_first def earlier) late h
redefine def earlier above ms whole (inl agrees) h =
    elim (last_of def.oid earlier) as
    (λ (found : Option RelationDef). last_of def.oid earlier ≡ found → Agrees def found → CommitsFollow (def ∷ earlier) above ms) [
      | None ↦ λ none _. late_follow def.oid ms earlier (def ∷ earlier) above (but_the_first def earlier)
          (never_defined def.oid ms earlier above none whole h) h
      | Some last ↦ λ e same. alike_follow ms earlier (def ∷ earlier) above (agree_alike def last earlier e same) h
    ] refl agrees

kept_late : (a : Addition) (earlier : List RelationDef) (before : List Message) (rest : List Sent) → pair_of before ≡ None
    → InOrder None (messages_in rest) → KeepsBy a earlier [] rest
    → Agrees a.definition (last_of a.definition.oid earlier) ⊎ LateNamed a.definition.oid (commits_and_keepalives before rest)
kept_late a earlier before rest at order (inl agrees) = inl agrees
kept_late a earlier before rest at order (inr late) = inr (late_named a.definition.oid None before rest at order late)

-- ---- at the point

pub at_point : (a : Addition) (below above : List Transaction) (before other : List Message) (earlier : List RelationDef) (rest : List Sent)
    → InOrder None (messages_in rest) → AreWhole (messages_in rest) → pair_of before ≡ None → block_of other ≡ block_of before
    → AreSeen a.point below → ChangeNothing below → FirstFrom a.point (commits_and_keepalives before rest) → KeepsBy a earlier [] rest
    → CommitsFollow earlier (below ++ above) (commits_and_keepalives before rest)
    → CommitsFollow earlier (all_without a.definition.oid below ++ rows_transaction a ∷ above)
    (commits_and_keepalives other (rows_sent a ++ rest))
at_point a below above before other earlier rest order whole at block seen nothing first keeps h =
    let oid = a.definition.oid in
    let ms = commits_and_keepalives before rest in
    let behind : CommitsFollow (a.definition ∷ earlier) above ms =
    redefine a.definition earlier above ms (whole_commits before rest whole) (kept_late a earlier before rest at order keeps)
    (without_seen a.point below above earlier ms seen first h) in
    let pair : SamePair before (with_rows_sent a other) = record { pair = at; items = inl at; block = sym (rows-block a other ∙ block) } in
    let moved : CommitsFollow (a.definition ∷ earlier) above (commits_and_keepalives (with_rows_sent a other) rest) =
    subst (CommitsFollow (a.definition ∷ earlier) above) (same_commits rest before (with_rows_sent a other) pair whole) behind in
    subst (CommitsFollow earlier (all_without oid below ++ rows_transaction a ∷ above)) (sym (rows-commits a other rest)) (
      all_without oid below,
      rows_transaction a,
      above,
      rows_items a,
      refl,
      nothing_all a.point oid below seen nothing,
      (refl, refl, refl, refl, refl),
      rows_described a earlier,
      subst (λ known. CommitsFollow known above (commits_and_keepalives (with_rows_sent a other) rest)) (sym (rows_relations a earlier))
          moved,
    )
