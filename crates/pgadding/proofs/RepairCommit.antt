-- The commit of a repair.
use Rattle.std.proofs.Common.{◌≡◌, ◌++◌, ℕ, List, [], ◌∷◌, true, cond, eqb, Option, Some, None, Ok}
use Rattle.std.proofs.Common.{refl, sym, ap, ◌∙◌, arith}
use Rattle.std.proofs.lemmas.Bool.Decides.{nat_tests}
use Rattle.std.specs.List.{AllByRecursion, flat_map}
use Rattle.pglogical.specs.Named.{named}
use Rattle.pglogical.specs.declared.message.RelationDef.{RelationDef}
use Rattle.pglogical.specs.declared.message.Item.{Item}
use Rattle.pglogical.specs.declared.message.Item.TheVariants.{Relation, Insert, Update, Delete}
use Rattle.pglogical.specs.declared.message.Item.TheVariants.{Truncate}
use Rattle.pglogical.specs.declared.message.Message.{Message}
use Rattle.pglogical.specs.declared.message.Message.TheVariants as message
use Rattle.pgsub_core.specs.Server.Work.{Work, IsWork, IsChange, surviving_changes, xids_of}
use Rattle.pgsub_core.specs.Server.Described.{last_of, found_behind, described_from, described}
use Rattle.pgsub_core.specs.Server.Described.{definitions_of, with_definition, with_changes}
use Rattle.pgsub_core.specs.Server.Stream.{Committed, WholeCommit, commits_and_keepalives}
use Rattle.pgsub_core.specs.Server.Stream.{pair_items, pair_commit}
use Rattle.pgadding.specs.Addition.{rows_xid, sent_at}
use Rattle.pgadding.specs.Mended.{Mended}
use Rattle.pgadding.specs.Repair.{Repair, ChangesRowOf, IsRepair, repair_lsn, repair_end}
use Rattle.pgadding.specs.Repair.{repair_items, mended_items, repair_sent, changed, mended_work}
use Rattle.pgadding.proofs.RowsCommit.{pushed, pushed-at, pushed-pair, pushed-items}

-- ---- the commit that comes

abbrev begun : Repair → List Message → List Message
begun r before = message.Begin (repair_lsn r) r.clock rows_xid ∷ before

pub repair-commits : (r : Repair) (before : List Message)
    → commits_and_keepalives before (repair_sent r)
    ≡ Committed (WholeCommit rows_xid (repair_lsn r) (repair_end r) r.clock (repair_items r)) ∷ []
repair-commits r before =
    pushed-at (repair_lsn r) (repair_items r) (begun r before)
    (sent_at (repair_lsn r) (message.Commit (repair_lsn r) (repair_end r) r.clock) ∷ [])
    ∙ ap (λ (p : Option ℕ). pair_commit p (repair_lsn r) (repair_end r) r.clock
    (pair_items (pushed None (repair_items r) (begun r before))) ++ [])
    (pushed-pair None (repair_items r) (begun r before))
    ∙ ap (λ items. Committed (WholeCommit rows_xid (repair_lsn r) (repair_end r) r.clock items) ∷ [])
    (pushed-items None (repair_items r) (begun r before))

-- ---- what its items are

self : (x : ℕ) → eqb x x ≡ true
self x = grind (arith, nat_tests)

row_named : (oid : ℕ) (i : Item) → ChangesRowOf oid i → named i ≡ oid ∷ []
row_named oid (Relation def) is = absurd is
row_named oid (Insert o row) is = ap (λ x. x ∷ []) is
row_named oid (Update o prior row) is = ap (λ x. x ∷ []) is
row_named oid (Delete o kind row) is = ap (λ x. x ∷ []) is
row_named oid (Truncate options oids) is = absurd is

row_behind : (oid : ℕ) (i : Item) (find : ℕ → Option RelationDef) → ChangesRowOf oid i → found_behind i find ≡ find
row_behind oid (Relation def) find is = absurd is
row_behind oid (Insert o row) find is = refl
row_behind oid (Update o prior row) find is = refl
row_behind oid (Delete o kind row) find is = refl
row_behind oid (Truncate options oids) find is = absurd is

row_change : (oid : ℕ) (i : Item) → ChangesRowOf oid i → IsChange i
row_change oid (Relation def) is = absurd is
row_change oid (Insert o row) is = tt
row_change oid (Update o prior row) is = tt
row_change oid (Delete o kind row) is = tt
row_change oid (Truncate options oids) is = absurd is

-- a table's changes, and the items behind them
rows_described : (def : RelationDef) (find : ℕ → Option RelationDef) (items more : List Item) (rest : Work) → find def.oid ≡ Some def
    → AllByRecursion (ChangesRowOf def.oid) items
    → described_from find more ≡ Ok (surviving_changes rest)
    → described_from find (items ++ more) ≡ Ok (surviving_changes (changed def items rest))
rows_described def find [] more rest is are h = h
rows_described def find (i ∷ items) more rest is are h =
    ap (λ names. with_changes i (definitions_of find names) (described_from (found_behind i find) (items ++ more)))
    (row_named def.oid i are.0)
    ∙ ap (λ f. with_changes i (with_definition def.oid f (Ok [])) (described_from (found_behind i find) (items ++ more))) is
    ∙ ap (λ next. with_changes i (Ok (def ∷ [])) (described_from next (items ++ more))) (row_behind def.oid i find are.0)
    ∙ ap (with_changes i (Ok (def ∷ []))) (rows_described def find items more rest is are.1 h)

tables_described : (find : ℕ → Option RelationDef) (ts : List Mended)
    → AllByRecursion (λ (t : Mended). AllByRecursion (ChangesRowOf t.definition.oid) t.changes) ts
    → described_from find (flat_map mended_items ts) ≡ Ok (surviving_changes (mended_work ts))
tables_described find [] are = refl
tables_described find (t ∷ ts) are =
    let def = t.definition in
    let there = found_behind (Relation def) find in
    let here : there def.oid ≡ Some def = ap (λ b. cond b (Some def) (find def.oid)) (self def.oid) in
    ap (with_changes (Relation def) (Ok []))
    (rows_described def there t.changes (flat_map mended_items ts) (mended_work ts) here are.0 (tables_described there ts are.1))

pub repair_described : (r : Repair) (earlier : List RelationDef) → IsRepair r
    → described earlier (repair_items r) ≡ Ok (surviving_changes (mended_work r.tables))
repair_described r earlier is = tables_described (λ oid. last_of oid earlier) r.tables is

-- ---- what it is in a history

pub changed_work : (def : RelationDef) (items : List Item) (rest : Work) → AllByRecursion (ChangesRowOf def.oid) items → IsWork rest
    → IsWork (changed def items rest)
changed_work def [] rest are is = is
changed_work def (i ∷ items) rest are is =
    (row_change def.oid i are.0, sym (row_named def.oid i are.0), changed_work def items rest are.1 is)

pub repair_work : (ts : List Mended) → AllByRecursion (λ (t : Mended). AllByRecursion (ChangesRowOf t.definition.oid) t.changes) ts
    → IsWork (mended_work ts)
repair_work [] are = tt
repair_work (t ∷ ts) are = changed_work t.definition t.changes (mended_work ts) are.0 (repair_work ts are.1)

pub changed_xids : (def : RelationDef) (items : List Item) (rest : Work) → xids_of (changed def items rest) ≡ xids_of rest
changed_xids def [] rest = refl
changed_xids def (i ∷ items) rest = changed_xids def items rest

pub repair_xids : (ts : List Mended) → xids_of (mended_work ts) ≡ []
repair_xids [] = refl
repair_xids (t ∷ ts) = changed_xids t.definition t.changes (mended_work ts) ∙ repair_xids ts
