-- The commit of the rows' transaction.
use Rattle.std.proofs.Common.{◌≡◌, ◌++◌, ℕ, ℤ, List, [], ◌∷◌, true, cond, eqb, map, Option, Some}
use Rattle.std.proofs.Common.{None, Ok, refl, sym, ap, ◌∙◌, arith, append_assoc, append-nil}
use Rattle.std.proofs.lemmas.Bool.Decides.{nat_tests}
use Rattle.pglogical.specs.declared.message.RelationDef.{RelationDef}
use Rattle.pglogical.specs.declared.message.Item.{Item}
use Rattle.pglogical.specs.declared.message.Item.TheVariants.{Relation, Insert, Update, Delete}
use Rattle.pglogical.specs.declared.message.Item.TheVariants.{Truncate}
use Rattle.pglogical.specs.declared.message.Message.{Message}
use Rattle.pglogical.specs.declared.message.Message.TheVariants as message
use Rattle.pgsub_core.specs.Server.Work.{surviving_changes}
use Rattle.pgsub_core.specs.Server.Described.{last_of, relations_after, described_from, described}
use Rattle.pgsub_core.specs.Server.Described.{with_definition, with_changes, relation_of}
use Rattle.pgsub_core.specs.Server.Stream.{Sent, Data, CommitOrKeepalive, Committed, WholeCommit}
use Rattle.pgsub_core.specs.Server.Stream.{commits_and_keepalives, pair_of, pair_items, block_of}
use Rattle.pgsub_core.specs.Server.Stream.{pair_commit}
use Rattle.pgadding.specs.Addition.{Addition, rows_xid, rows_lsn, rows_end, rows_items, rows_sent}
use Rattle.pgadding.specs.Addition.{OwnChange, Inserted, Updated, Deleted, Emptied, own_item}
use Rattle.pgadding.specs.Addition.{items_of, made_of, owned, rows_work, sent_at, items_at, emptied}

-- the messages before, with these items behind them
abbrev pub pushed : Option ℕ → List Item → List Message → List Message
pushed xid [] before = before
pushed xid (i ∷ items) before = pushed xid items (message.Item xid i ∷ before)

pub pushed-commits : (start end : ℕ) (clock : ℤ) (xid : Option ℕ) (items : List Item) (before : List Message) (sent : List Sent)
    → commits_and_keepalives before (map (Data start end clock) (map (message.Item xid) items) ++ sent)
    ≡ commits_and_keepalives (pushed xid items before) sent
pushed-commits start end clock xid [] before sent = refl
pushed-commits start end clock xid (i ∷ items) before sent = pushed-commits start end clock xid items (message.Item xid i ∷ before) sent

pub pushed-at : (lsn : ℕ) (items : List Item) (before : List Message) (sent : List Sent)
    → commits_and_keepalives before (items_at lsn items ++ sent) ≡ commits_and_keepalives (pushed None items before) sent
pushed-at lsn [] before sent = refl
pushed-at lsn (i ∷ items) before sent = pushed-at lsn items (message.Item None i ∷ before) sent

pub pushed-pair : (xid : Option ℕ) (items : List Item) (before : List Message) → pair_of (pushed xid items before) ≡ pair_of before
pushed-pair xid [] before = refl
pushed-pair xid (i ∷ items) before = pushed-pair xid items (message.Item xid i ∷ before)

pub pushed-block : (xid : Option ℕ) (items : List Item) (before : List Message) → block_of (pushed xid items before) ≡ block_of before
pushed-block xid [] before = refl
pushed-block xid (i ∷ items) before = pushed-block xid items (message.Item xid i ∷ before)

pub pushed-items : (xid : Option ℕ) (items : List Item) (before : List Message)
    → pair_items (pushed xid items before) ≡ pair_items before ++ items
pushed-items xid [] before = sym (append-nil (pair_items before))
pushed-items xid (i ∷ items) before = pushed-items xid items (message.Item xid i ∷ before) ∙ append_assoc (pair_items before) (i ∷ []) items

abbrev begun : Addition → List Message → List Message
begun a before = message.Begin (rows_lsn a) a.clock rows_xid ∷ before

-- the messages before, with the rows' transaction behind them
abbrev pub with_rows_sent : Addition → List Message → List Message
with_rows_sent a before = message.Commit (rows_lsn a) (rows_end a) a.clock ∷ pushed None (rows_items a) (begun a before)

abbrev pub rows_commit : Addition → CommitOrKeepalive
rows_commit a = Committed (WholeCommit rows_xid (rows_lsn a) (rows_end a) a.clock (rows_items a))

pub rows-commits : (a : Addition) (before : List Message) (sent : List Sent)
    → commits_and_keepalives before (rows_sent a ++ sent) ≡ rows_commit a ∷ commits_and_keepalives (with_rows_sent a before) sent
rows-commits a before sent =
    ap (commits_and_keepalives (begun a before))
    (append_assoc (items_at a.told (rows_items a)) (sent_at (rows_lsn a) (message.Commit (rows_lsn a) (rows_end a) a.clock) ∷ [])
    sent)
    ∙ pushed-at a.told (rows_items a) (begun a before)
    (sent_at (rows_lsn a) (message.Commit (rows_lsn a) (rows_end a) a.clock) ∷ sent)
    ∙ ap (λ (p : Option ℕ). pair_commit p (rows_lsn a) (rows_end a) a.clock (pair_items (pushed None (rows_items a) (begun a before)))
    ++ commits_and_keepalives (with_rows_sent a before) sent) (pushed-pair None (rows_items a) (begun a before))
    ∙ ap (λ items. Committed (WholeCommit rows_xid (rows_lsn a) (rows_end a) a.clock items)
    ∷ commits_and_keepalives (with_rows_sent a before) sent)
    (pushed-items None (rows_items a) (begun a before))

pub rows-block : (a : Addition) (before : List Message) → block_of (with_rows_sent a before) ≡ block_of before
rows-block a before = pushed-block None (rows_items a) (begun a before)

-- ---- what its items are

self : (x : ℕ) → eqb x x ≡ true
self x = grind (arith, nat_tests)

defined_self : (def : RelationDef) (earlier : List RelationDef) → last_of def.oid (def ∷ earlier) ≡ Some def
defined_self def earlier = ap (λ b. cond b (Some def) (last_of def.oid earlier)) (self def.oid)

owned_described : (def : RelationDef) (find : ℕ → Option RelationDef) (owns : List OwnChange) → find def.oid ≡ Some def
    → described_from find (items_of def.oid owns) ≡ Ok (surviving_changes (owned def owns))
owned_described def find [] is = refl
owned_described def find (Inserted row ∷ owns) is =
    ap (λ f. with_changes (Insert def.oid row) (with_definition def.oid f (Ok [])) (described_from find (items_of def.oid owns))) is
    ∙ ap (with_changes (Insert def.oid row) (Ok (def ∷ []))) (owned_described def find owns is)
owned_described def find (Updated prior row ∷ owns) is =
    ap (λ f. with_changes (Update def.oid prior row) (with_definition def.oid f (Ok [])) (described_from find (items_of def.oid owns))) is
    ∙ ap (with_changes (Update def.oid prior row) (Ok (def ∷ []))) (owned_described def find owns is)
owned_described def find (Deleted kind row ∷ owns) is =
    ap (λ f. with_changes (Delete def.oid kind row) (with_definition def.oid f (Ok [])) (described_from find (items_of def.oid owns))) is
    ∙ ap (with_changes (Delete def.oid kind row) (Ok (def ∷ []))) (owned_described def find owns is)
owned_described def find (Emptied options ∷ owns) is =
    ap (λ f. with_changes (Truncate options (def.oid ∷ [])) (with_definition def.oid f (Ok []))
    (described_from find (items_of def.oid owns))) is
    ∙ ap (with_changes (Truncate options (def.oid ∷ [])) (Ok (def ∷ []))) (owned_described def find owns is)

pub rows_described : (a : Addition) (earlier : List RelationDef) → described earlier (rows_items a) ≡ Ok (surviving_changes (rows_work a))
rows_described a earlier =
    ap (with_changes (Relation a.definition) (Ok [])) (
    ap (λ f. with_changes (emptied a) (with_definition a.definition.oid f (Ok []))
    (described_from find (items_of a.definition.oid (made_of a)))) is
    ∙ ap (with_changes (emptied a) (Ok (a.definition ∷ []))) (owned_described a.definition find (made_of a) is))
  where
    find : ℕ → Option RelationDef
    find o = last_of o (a.definition ∷ earlier)

    is : find a.definition.oid ≡ Some a.definition
    is = defined_self a.definition earlier

own_relation : (oid : ℕ) (own : OwnChange) (earlier : List RelationDef) → relation_of (own_item oid own) earlier ≡ earlier
own_relation oid (Inserted row) earlier = refl
own_relation oid (Updated prior row) earlier = refl
own_relation oid (Deleted kind row) earlier = refl
own_relation oid (Emptied options) earlier = refl

own_relations : (oid : ℕ) (owns : List OwnChange) (earlier : List RelationDef) → relations_after earlier (items_of oid owns) ≡ earlier
own_relations oid [] earlier = refl
own_relations oid (own ∷ owns) earlier =
    ap (λ known. relations_after known (items_of oid owns)) (own_relation oid own earlier) ∙ own_relations oid owns earlier

pub rows_relations : (a : Addition) (earlier : List RelationDef) → relations_after earlier (rows_items a) ≡ a.definition ∷ earlier
rows_relations a earlier = own_relations a.definition.oid (made_of a) (a.definition ∷ earlier)
