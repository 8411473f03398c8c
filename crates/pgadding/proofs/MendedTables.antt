-- The changes of a table make the server's table of the copy's, and leave the others.
use Rattle.std.proofs.Common.{◌≡◌, ◌≢◌, ◌++◌, ◌-◌, ℕ, suc, zero, List, [], ◌∷◌, Bool, true, false}
use Rattle.std.proofs.Common.{cond, eqb, map, flat_map, Option, Some, None, Result, Ok, refl, sym}
use Rattle.std.proofs.Common.{ap, subst, ◌∙◌, inl, inr, arith}
use Rattle.std.specs.Prelude.{◌||◌, ◌==◌}
use Rattle.std.specs.FinMap as finite
use Rattle.std.specs.FinMap.{same_map, nat_cmp-IsAntisymmetric, slice_cmp-IsAntisymmetric}
use Rattle.std.specs.Cmp.{nat_cmp_total}
use Rattle.std.specs.Cmp.Lexicographic.{nat_list_cmp_total}
use Rattle.std.specs.List.{AllByRecursion}
use Rattle.std.proofs.lemmas.Bool.{cases_Bool}
use Rattle.std.proofs.lemmas.Bool.Decides.{nat_tests}
use Rattle.pglogical.specs.declared.message.RelationDef.{RelationDef}
use Rattle.pglogical.specs.declared.message.Item.{Item}
use Rattle.pglogical.specs.declared.message.Item.TheVariants as item
use Rattle.pglogical.specs.declared.message.OldKind.TheVariants.{Full}
use Rattle.pgrel.specs.Identity.{keyed, same_shape}
use Rattle.pgrel.proofs.Shapes.{shapes_decide}
use Rattle.pgapply.specs.declared.op.Op.{Op}
use Rattle.pgapply.specs.declared.fault.StoreFault.{StoreFault}
use Rattle.pgapply.specs.Value.{Row, Rows, Table, Tables, AreRows, AreTables}
use Rattle.pgapply.specs.CarriedCopies.{copies_at}
use Rattle.pgapply.specs.Apply.{Change, apply, fold_changes, found_rows, carried_for, rows_after}
use Rattle.pgapply.specs.Apply.{◌>>=◌}
use Rattle.pgapply.proofs.KeepsForm.{same_place, of_shape, no_rows}
use Rattle.pgsub_core.specs.Server.Work.{Work, AllDiffer, changes_of, surviving_changes, is_among}
use Rattle.pgsub_core.proofs.Changes.{fold-append}
use Rattle.pgadding.specs.Mended.{times, keyed_changes, bag_changes, Mended, IsNotAmong}
use Rattle.pgadding.specs.Mended.{AreDistinct, AreFound, TellsRows, AreTuples, IsMended, changes_at}
use Rattle.pgadding.specs.Repair.{Repair, ChangesRowOf, AreMended, changed, mended_work}
use Rattle.pgadding.specs.Repair.{mended_oids}
use Rattle.pgadding.specs.Repaired.{RepairMakesTheServers}
use Rattle.pgadding.proofs.MendedRows.{op_of, fold_items, fold_items-append, IsRowOf, AreTuplesOf}
use Rattle.pgadding.proofs.MendedRows.{MayGo, changes_placed, same_place_as, itself}
use Rattle.pgadding.proofs.Steps.{AlikeTables, bound, put, own_put, effect, applied}

-- ---- all identities at which rows differ

-- what is known of the rows of both sides
pub record BothRows (def : RelationDef) (theirs ours : Rows) : Type 0 where
  pub are : AreRows def theirs
  pub were : AreRows def ours
  pub fit : keyed def ≡ false → AreTuples theirs ours
  pub tells : TellsRows def theirs ours

row_of : (def : RelationDef) (rows : Rows) (place : List ℕ) → AreRows def rows → IsRowOf def place (finite.get rows place)
row_of def rows place are =
    elim (finite.get rows place) as (λ (there : Option Row). finite.get rows place ≡ there → IsRowOf def place there) [
      | None ↦ λ e. tt
      | Some row ↦ λ e. are place row e
    ] refl

tuples_of : (theirs ours : Rows) (place : List ℕ) → AreTuples theirs ours → AreTuplesOf (finite.get theirs place) (finite.get ours place)
tuples_of theirs ours place fit =
    elim (finite.get theirs place) as (λ (t : Option Row). finite.get theirs place ≡ t → AreTuplesOf t (finite.get ours place)) [
      | None ↦ λ e. tt
      | Some row ↦ λ e. elim (finite.get ours place) as (λ (h : Option Row). finite.get ours place ≡ h → AreTuplesOf (Some row) h) [
        | None ↦ λ f. tt
        | Some old ↦ λ f. fit place row old e f
      ] refl
    ] refl

may_go : (def : RelationDef) (theirs ours : Rows) (place : List ℕ) → TellsRows def theirs ours → keyed def ≡ false
    → MayGo def (copies_at theirs place) (copies_at ours place)
may_go def theirs ours place (inl key) bag = absurd (cc)
may_go def theirs ours place (inr (inl full)) bag = inl full
may_go def theirs ours place (inr (inr few)) bag = inr (few place)

same_ok : {A : Type 0} (x y : A) → ◌≡◌ {A = Result A StoreFault} (Ok x) (Ok y) → x ≡ y
same_ok x y e = cc

-- rows in which the rest of the identities is still to be changed
pub record StillToDo (theirs ours rows : Rows) (places : List (List ℕ)) : Type 0 where
  pub once : AreDistinct places
  pub done : (q : List ℕ) → IsNotAmong q places → finite.get rows q ≡ finite.get theirs q
  pub todo : AllByRecursion (λ (q : List ℕ). finite.get rows q ≡ finite.get ours q) places

pub not_itself : (place q : List ℕ) → same_place_as place q ≡ false → place ≢ q
not_itself place q isnt e = let yes : same_place_as place q ≡ true = subst (λ x. same_place_as place x ≡ true) e (itself place) in cc

pub differ : (place q : List ℕ) → q ≢ place → same_place_as place q ≡ false
differ place q isnt = elim (cases_Bool (same_place_as place q)) [
  | inl same ↦ absurd (isnt (same_place q place same))
  | inr other ↦ other
]

still_todo : (ours rows next : Rows) (place : List ℕ) (there : Option Row) (places : List (List ℕ))
    → ((q : List ℕ) → finite.get next q ≡ cond (same_place_as place q) there (finite.get rows q)) → IsNotAmong place places
    → AllByRecursion (λ (q : List ℕ). finite.get rows q ≡ finite.get ours q) places
    → AllByRecursion (λ (q : List ℕ). finite.get next q ≡ finite.get ours q) places
still_todo ours rows next place there [] put isnt todo = tt
still_todo ours rows next place there (q ∷ places) put isnt todo = (
  put q ∙ ap (λ b. cond b there (finite.get rows q)) (differ place q isnt.0) ∙ todo.0,
  still_todo ours rows next place there places put isnt.1 todo.1,
)

pub mend_rows : (def : RelationDef) (theirs ours : Rows) → BothRows def theirs ours → (places : List (List ℕ)) (rows : Rows)
    → StillToDo theirs ours rows places
    → fold_items def rows (flat_map (changes_at def theirs ours) places) ≡ Ok theirs
mend_rows def theirs ours both [] rows still =
    ap (λ r. Ok r) (same_map nat_list_cmp_total (slice_cmp-IsAntisymmetric nat_cmp-IsAntisymmetric) rows theirs (λ q. still.done q tt))
mend_rows def theirs ours both (place ∷ places) rows still =
    let there = finite.get theirs place in
    let rest = flat_map (changes_at def theirs ours) places in
    let it = changes_placed def theirs ours place rows (row_of def theirs place both.are) (row_of def ours place both.were)
    (λ bag. tuples_of theirs ours place (both.fit bag))
    (may_go def theirs ours place both.tells) still.todo.0 in
    let later : StillToDo theirs ours it.next places = record {
      once = still.once.1;
      done = λ q isnt. it.put q ∙ elim (cases_Bool (same_place_as place q)) [
        | inl same ↦ ap (λ b. cond b there (finite.get rows q)) same ∙ ap (finite.get theirs) (sym (same_place q place same))
        | inr other ↦ ap (λ b. cond b there (finite.get rows q)) other ∙ still.done q (not_itself place q other, isnt)
      ];
      todo = still_todo ours rows it.next place there places it.put still.once.0 still.todo.1;
    } in
    fold_items-append def (changes_at def theirs ours place) rest rows
    ∙ ap (λ r. r >>= λ next. fold_items def next rest) it.is
    ∙ mend_rows def theirs ours both places it.next later

pub all_ours : (ours : Rows) (places : List (List ℕ)) → AllByRecursion (λ (q : List ℕ). finite.get ours q ≡ finite.get ours q) places
all_ours ours [] = tt
all_ours ours (q ∷ places) = (refl, all_ours ours places)

-- ---- a table

abbrev pub change_of : RelationDef → Item → Change
change_of def i = record { definition = def; op = op_of i }

-- the rows that a change of the table finds
abbrev Finds : Tables → RelationDef → Rows → Type 0
Finds tables def rows = (op : Op) → found_rows (finite.get tables def.oid) def op ≡ Ok rows

apply_found : (tables : Tables) (def : RelationDef) (i : Item) (rows next : Rows) → Finds tables def rows
    → rows_after def (op_of i) rows ≡ Ok next
    → apply tables (change_of def i) ≡ Ok (finite.insert tables def.oid (record { definition = def; rows = next }))
unfolding apply
apply_found tables def i rows next finds e =
    ap (λ r. r >>= λ found. rows_after def (op_of i) found
    >>= λ rows. Ok (finite.insert tables def.oid (record { definition = def; rows = rows }))) (finds (op_of i))
    ∙ ap (λ r. r >>= λ rows. Ok (finite.insert tables def.oid (record { definition = def; rows = rows }))) e

self : (x : ℕ) → eqb x x ≡ true
self x = grind (arith, nat_tests)

own_shape : (def : RelationDef) → same_shape def def ≡ true
own_shape def = (shapes_decide def def).1 refl

finds_own : (tables : Tables) (def : RelationDef) (rows : Rows)
    → finite.get tables def.oid ≡ Some (record { definition = def; rows = rows }) → Finds tables def rows
finds_own tables def rows at op =
    ap (λ there. found_rows there def op) at
    ∙ ap (λ b. cond (b || finite.len rows == 0) (Ok rows) (carried_for (record { definition = def; rows = rows }) def op))
    (own_shape def)

finds_first : (tables : Tables) (def : RelationDef) (rows : Rows) (there : Option Table) → finite.get tables def.oid ≡ there
    → AreFound def rows there → Finds tables def rows
finds_first tables def rows None at found op = ap (λ t. found_rows t def op) at ∙ ap (λ r. Ok r) (sym found)
finds_first tables def rows (Some table) at found op =
    ap (λ t. found_rows t def op) at
    ∙ ap (λ b. cond (b || finite.len table.rows == 0) (Ok table.rows) (carried_for table def op)) found.0
    ∙ ap (λ r. Ok r) (sym found.1)

-- a table with these rows, and no other table than before
pub record Made (def : RelationDef) (rows : Rows) (tables : Tables) (outcome : Result Tables StoreFault) : Type 0 where
  pub next : Tables
  pub is : outcome ≡ Ok next
  pub here : finite.get next def.oid ≡ Some (record { definition = def; rows = rows })
  pub others : AlikeTables def.oid next tables

abbrev pub changes_by : RelationDef → List Item → List Change
changes_by def items = map (change_of def) items

pub put_here : (tables : Tables) (def : RelationDef) (rows : Rows)
    → finite.get (finite.insert tables def.oid (record { definition = def; rows = rows })) def.oid
    ≡ Some (record { definition = def; rows = rows })
put_here tables def rows =
    put tables def.oid (record { definition = def; rows = rows }) def.oid
    ∙ ap (λ b. cond b (Some (record { definition = def; rows = rows })) (finite.get tables def.oid)) (self def.oid)

-- a first change, and those behind it
after_first : (def : RelationDef) (i : Item) (items : List Item) (tables : Tables) (rows wanted : Rows) → Finds tables def rows
    → fold_items def rows (i ∷ items) ≡ Ok wanted
    → ((next : Tables) (left : Rows) → finite.get next def.oid ≡ Some (record { definition = def; rows = left })
    → fold_items def left items ≡ Ok wanted → Made def wanted next (fold_changes next (changes_by def items)))
    → Made def wanted tables (fold_changes tables (changes_by def (i ∷ items)))
unfolding fold_changes
after_first def i items tables rows wanted finds e then =
    let it = bound (rows_after def (op_of i) rows) (λ next. fold_items def next items) wanted e in
    let table : Table = record { definition = def; rows = it.at } in
    let rest = then (finite.insert tables def.oid table) it.at (put_here tables def it.at) it.then in
    record {
      next = rest.next;
      is = ap (λ r. r >>= λ n. fold_changes n (changes_by def items)) (apply_found tables def i rows it.at finds it.first) ∙ rest.is;
      here = rest.here;
      others = λ o isnt. rest.others o isnt ∙ own_put def.oid tables tables def.oid table (λ x _. refl) (self def.oid) o isnt;
    }

pub fold_more : (def : RelationDef) (items : List Item) (tables : Tables) (rows wanted : Rows)
    → finite.get tables def.oid ≡ Some (record { definition = def; rows = rows }) → fold_items def rows items ≡ Ok wanted
    → Made def wanted tables (fold_changes tables (changes_by def items))
unfolding fold_changes
fold_more def [] tables rows wanted at e =
    record {
      next = tables;
      is = refl;
      here = at ∙ ap (λ rows. Some (record { definition = def; rows = rows })) (same_ok rows wanted e);
      others = λ o _. refl;
    }
fold_more def (i ∷ items) tables rows wanted at e =
    after_first def i items tables rows wanted (finds_own tables def rows at) e
    (λ next left at then. fold_more def items next left wanted at then)

fold_table : (def : RelationDef) (items : List Item) (tables : Tables) (rows wanted : Rows) → items ≢ [] → Finds tables def rows
    → fold_items def rows items ≡ Ok wanted
    → Made def wanted tables (fold_changes tables (changes_by def items))
fold_table def [] tables rows wanted some finds e = absurd (some refl)
fold_table def (i ∷ items) tables rows wanted some finds e =
    after_first def i items tables rows wanted finds e (λ next left at then. fold_more def items next left wanted at then)

rows_found : (def : RelationDef) (rows : Rows) (copy : Tables) (there : Option Table) → AreTables copy → finite.get copy def.oid ≡ there
    → AreFound def rows there → AreRows def rows
rows_found def rows copy None are at found = subst (AreRows def) (sym found) (no_rows def)
rows_found def rows copy (Some table) are at found =
    subst (AreRows def) (sym found.1) (of_shape table.definition def table.rows found.0 (are def.oid table at).each)

pub one_table : (copy server tables : Tables) (t : Mended) (is : IsMended copy server t) → AreTables copy → AreTables server
    → finite.get tables t.definition.oid ≡ finite.get copy t.definition.oid
    → Made t.definition is.theirs tables (fold_changes tables (changes_by t.definition t.changes))
one_table copy server tables t is were are at =
    let def = t.definition in
    let both : BothRows def is.theirs is.ours = record {
      are = (are def.oid (record { definition = def; rows = is.theirs }) is.wanted).each;
      were = rows_found def is.ours copy (finite.get copy def.oid) were refl is.found;
      fit = is.tuples;
      tells = is.tells;
    } in
    let still : StillToDo is.theirs is.ours is.ours is.places =
    record { once = is.once; done = is.others; todo = all_ours is.ours is.places } in
    let mended : fold_items def is.ours t.changes ≡ Ok is.theirs =
    ap (fold_items def is.ours) is.changes ∙ mend_rows def is.theirs is.ours both is.places is.ours still in
    fold_table def t.changes tables is.ours is.theirs is.some (finds_first tables def is.ours (finite.get copy def.oid) at is.found) mended

-- ---- what its changes are

all_append : {X : Type 0} (P : X → Type 0) (xs ys : List X) → AllByRecursion P xs → AllByRecursion P ys → AllByRecursion P (xs ++ ys)
all_append P [] ys a b = b
all_append P (x ∷ xs) ys a b = (a.0, all_append P xs ys a.1 b)

times_rows : (oid : ℕ) (n : ℕ) (i : Item) → ChangesRowOf oid i → AllByRecursion (ChangesRowOf oid) (times n i)
times_rows oid zero i is = tt
times_rows oid (suc n) i is = (is, times_rows oid n i is)

keyed_rows : (def : RelationDef) (theirs ours : Option Row) → AllByRecursion (ChangesRowOf def.oid) (keyed_changes def theirs ours)
keyed_rows def None None = tt
keyed_rows def (Some row) None = (refl, tt)
keyed_rows def (Some row) (Some old) = (refl, tt)
keyed_rows def None (Some old) = (refl, tt)

bag_rows : (def : RelationDef) (theirs ours : Option Row) → AllByRecursion (ChangesRowOf def.oid) (bag_changes def theirs ours)
bag_rows def None None = tt
bag_rows def (Some row) None = times_rows def.oid row.copies _ refl
bag_rows def (Some row) (Some old) =
    all_append (ChangesRowOf def.oid) (times (row.copies - old.copies) (item.Insert def.oid row.cells))
    (times (old.copies - row.copies) (item.Delete def.oid Full old.cells))
    (times_rows def.oid (row.copies - old.copies) _ refl) (times_rows def.oid (old.copies - row.copies) _ refl)
bag_rows def None (Some old) = times_rows def.oid old.copies _ refl

place_rows : (def : RelationDef) (theirs ours : Rows) (place : List ℕ)
    → AllByRecursion (ChangesRowOf def.oid) (changes_at def theirs ours place)
place_rows def theirs ours place =
    elim (keyed def) as (λ b.
    AllByRecursion (ChangesRowOf def.oid)
    (cond b (keyed_changes def (finite.get theirs place) (finite.get ours place))
    (bag_changes def (finite.get theirs place) (finite.get ours place)))) [
      | true ↦ keyed_rows def (finite.get theirs place) (finite.get ours place)
      | false ↦ bag_rows def (finite.get theirs place) (finite.get ours place)
    ]

pub all_rows : (def : RelationDef) (theirs ours : Rows) (places : List (List ℕ))
    → AllByRecursion (ChangesRowOf def.oid) (flat_map (changes_at def theirs ours) places)
all_rows def theirs ours [] = tt
all_rows def theirs ours (place ∷ places) =
    all_append (ChangesRowOf def.oid) (changes_at def theirs ours place) (flat_map (changes_at def theirs ours) places)
    (place_rows def theirs ours place) (all_rows def theirs ours places)

pub mended_changes : (copy server : Tables) (t : Mended) → IsMended copy server t → AllByRecursion (ChangesRowOf t.definition.oid) t.changes
mended_changes copy server t is =
    subst (AllByRecursion (ChangesRowOf t.definition.oid)) (sym is.changes) (all_rows t.definition is.theirs is.ours is.places)

pub is_repair : (copy server : Tables) (ts : List Mended) → AllByRecursion (IsMended copy server) ts
    → AllByRecursion (λ (t : Mended). AllByRecursion (ChangesRowOf t.definition.oid) t.changes) ts
is_repair copy server [] each = tt
is_repair copy server (t ∷ ts) each = (mended_changes copy server t each.0, is_repair copy server ts each.1)

one_change : (def : RelationDef) (i : Item) → ChangesRowOf def.oid i → changes_of i (def ∷ []) ≡ change_of def i ∷ []
one_change def (item.Relation other) is = absurd is
one_change def (item.Insert oid row) is = refl
one_change def (item.Update oid prior row) is = refl
one_change def (item.Delete oid kind row) is = refl
one_change def (item.Truncate options oids) is = absurd is

pub changed_survive : (def : RelationDef) (items : List Item) (rest : Work) → AllByRecursion (ChangesRowOf def.oid) items
    → surviving_changes (changed def items rest) ≡ changes_by def items ++ surviving_changes rest
changed_survive def [] rest are = refl
changed_survive def (i ∷ items) rest are =
    ap (λ first. first ++ surviving_changes (changed def items rest)) (one_change def i are.0)
    ∙ ap (λ more. change_of def i ∷ more) (changed_survive def items rest are.1)

-- ---- all tables that differ

abbrev oids_of : List Mended → List ℕ
oids_of ts = map (λ (t : Mended). t.definition.oid) ts

or_false : (a b : Bool) → (a || b) ≡ false → (a ≡ false) × (b ≡ false)
or_false true b e = absurd (cc)
or_false false b e = (refl, e)

tables_todo : (copy tables next : Tables) (oid : ℕ) (ts : List Mended) → is_among (oids_of ts) oid ≡ false → AlikeTables oid next tables
    → AllByRecursion (λ (t : Mended). finite.get tables t.definition.oid ≡ finite.get copy t.definition.oid) ts
    → AllByRecursion (λ (t : Mended). finite.get next t.definition.oid ≡ finite.get copy t.definition.oid) ts
tables_todo copy tables next oid [] isnt alike todo = tt
tables_todo copy tables next oid (t ∷ ts) isnt alike todo =
    let parts = or_false (eqb t.definition.oid oid) (is_among (oids_of ts) oid) isnt in
    (alike t.definition.oid parts.0 ∙ todo.0, tables_todo copy tables next oid ts parts.1 alike todo.1)

mend_tables : (copy server : Tables) → AreTables copy → AreTables server → (ts : List Mended) (tables : Tables) → AllDiffer (oids_of ts)
    → AllByRecursion (IsMended copy server) ts
    → AllByRecursion (λ (t : Mended). finite.get tables t.definition.oid ≡ finite.get copy t.definition.oid) ts
    → ((oid : ℕ) → is_among (oids_of ts) oid ≡ false → finite.get tables oid ≡ finite.get server oid)
    → fold_changes tables (surviving_changes (mended_work ts)) ≡ Ok server
unfolding fold_changes
mend_tables copy server were are [] tables once each todo done =
    ap (λ t. Ok t) (same_map nat_cmp_total nat_cmp-IsAntisymmetric tables server (λ oid. done oid refl))
mend_tables copy server were are (t ∷ ts) tables once each todo done =
    let def = t.definition in
    let it = one_table copy server tables t each.0 were are todo.0 in
    let rest = surviving_changes (mended_work ts) in
    let later : (oid : ℕ) → is_among (oids_of ts) oid ≡ false → finite.get it.next oid ≡ finite.get server oid = λ oid isnt.
    elim (eqb def.oid oid) as (λ b. eqb def.oid oid ≡ b → finite.get it.next oid ≡ finite.get server oid) [
      | true ↦ λ yes. let at : def.oid ≡ oid = grind (arith, nat_tests) in
          subst (λ x. finite.get it.next x ≡ finite.get server x) at (it.here ∙ sym each.0.wanted)
      | false ↦ λ no.
          let other : eqb oid def.oid ≡ false = grind (arith, nat_tests) in
          it.others oid other ∙ done oid (ap (λ b. b || is_among (oids_of ts) oid) no ∙ isnt)
    ] refl in
    ap (fold_changes tables) (changed_survive def t.changes (mended_work ts) (mended_changes copy server t each.0))
    ∙ fold-append (changes_by def t.changes) rest tables
    ∙ ap (λ r. r >>= λ n. fold_changes n rest) it.is
    ∙ mend_tables copy server were are ts it.next once.1 each.1 (tables_todo copy tables it.next def.oid ts once.0 it.others todo.1) later

same_each : (copy : Tables) (ts : List Mended)
    → AllByRecursion (λ (t : Mended). finite.get copy t.definition.oid ≡ finite.get copy t.definition.oid) ts
same_each copy [] = tt
same_each copy (t ∷ ts) = (refl, same_each copy ts)

pub repair_makes : RepairMakesTheServers
repair_makes r copy server were are is =
    mend_tables copy server were are r.tables copy is.mended.once is.mended.each (same_each copy r.tables) is.others

-- ---- some tables, where others may differ too

pub record MadeSome (server tables : Tables) (oids : List ℕ) (outcome : Result Tables StoreFault) : Type 0 where
  pub next : Tables
  pub is : outcome ≡ Ok next
  pub these : (oid : ℕ) → is_among oids oid ≡ true → finite.get next oid ≡ finite.get server oid
  pub others : (oid : ℕ) → is_among oids oid ≡ false → finite.get next oid ≡ finite.get tables oid

pub mend_some : (copy server : Tables) → AreTables copy → AreTables server → (ts : List Mended) (tables : Tables) → AllDiffer (oids_of ts)
    → AllByRecursion (IsMended copy server) ts
    → AllByRecursion (λ (t : Mended). finite.get tables t.definition.oid ≡ finite.get copy t.definition.oid) ts
    → MadeSome server tables (oids_of ts) (fold_changes tables (surviving_changes (mended_work ts)))
unfolding fold_changes
mend_some copy server were are [] tables once each todo =
    record { next = tables; is = refl; these = λ oid e. absurd (cc); others = λ oid _. refl }
mend_some copy server were are (t ∷ ts) tables once each todo =
    let def = t.definition in
    let it = one_table copy server tables t each.0 were are todo.0 in
    let rest = surviving_changes (mended_work ts) in
    let more = mend_some copy server were are ts it.next once.1 each.1
    (tables_todo copy tables it.next def.oid ts once.0 it.others todo.1) in
    record {
      next = more.next;
      is = ap (fold_changes tables) (changed_survive def t.changes (mended_work ts) (mended_changes copy server t each.0))
          ∙ fold-append (changes_by def t.changes) rest tables
          ∙ ap (λ r. r >>= λ n. fold_changes n rest) it.is
          ∙ more.is;
      these = λ oid. elim (is_among (oids_of ts) oid) as
          (λ b. is_among (oids_of ts) oid ≡ b → (eqb def.oid oid || b) ≡ true → finite.get more.next oid ≡ finite.get server oid) [
            | true ↦ λ among _. more.these oid among
            | false ↦ λ isnt yes.
                let at : def.oid ≡ oid = grind (arith, nat_tests) in
                more.others oid isnt ∙ subst (λ x. finite.get it.next x ≡ finite.get server x) at (it.here ∙ sym each.0.wanted)
          ] refl;
      others = λ oid isnt.
          let parts = or_false (eqb def.oid oid) (is_among (oids_of ts) oid) isnt in
          let no : eqb def.oid oid ≡ false = parts.0 in
          let other : eqb oid def.oid ≡ false = grind (arith, nat_tests) in
          more.others oid parts.1 ∙ it.others oid other;
    }

pub some_made : (r : Repair) (copy server : Tables) → AreTables copy → AreTables server → AreMended r copy server
    → MadeSome server copy (mended_oids r) (fold_changes copy (surviving_changes (mended_work r.tables)))
some_made r copy server were are is = mend_some copy server were are r.tables copy is.once is.each (same_each copy r.tables)

-- the same changes make the same of a table that was the same
one_same : (oid : ℕ) (tables other next after : Tables) (c : Change) → finite.get tables oid ≡ finite.get other oid
    → apply tables c ≡ Ok next → apply other c ≡ Ok after → finite.get next oid ≡ finite.get after oid
one_same oid tables other next after c same e f =
    let one = applied tables c next e in
    let two = applied other c after f in
    let k = c.definition.oid in
    elim (eqb oid k) as (λ b. eqb oid k ≡ b → finite.get next oid ≡ finite.get after oid) [
      | true ↦ λ yes.
          let at : oid ≡ k = grind (arith, nat_tests) in
          let there : finite.get tables k ≡ finite.get other k = subst (λ x. finite.get tables x ≡ finite.get other x) at same in
          let table : one.table ≡ two.table = same_ok one.table two.table (sym one.effected ∙ ap (λ t. effect t c) there ∙ two.effected) in
          ap (λ n. finite.get n oid) one.is ∙ put tables k one.table oid ∙ ap (λ b. cond b (Some one.table) (finite.get tables oid)) yes
          ∙ ap (λ t. Some t) table
          ∙ sym (ap (λ n. finite.get n oid) two.is ∙ put other k two.table oid
          ∙ ap (λ b. cond b (Some two.table) (finite.get other oid)) yes)
      | false ↦ λ no.
          ap (λ n. finite.get n oid) one.is ∙ put tables k one.table oid ∙ ap (λ b. cond b (Some one.table) (finite.get tables oid)) no
          ∙ same
          ∙ sym (ap (λ n. finite.get n oid) two.is ∙ put other k two.table oid
          ∙ ap (λ b. cond b (Some two.table) (finite.get other oid)) no)
    ] refl

pub fold_same : (oid : ℕ) (cs : List Change) (tables other next after : Tables) → finite.get tables oid ≡ finite.get other oid
    → fold_changes tables cs ≡ Ok next → fold_changes other cs ≡ Ok after
    → finite.get next oid ≡ finite.get after oid
unfolding fold_changes
fold_same oid [] tables other next after same e f =
    ap (λ n. finite.get n oid) (sym (same_ok tables next e)) ∙ same ∙ ap (λ n. finite.get n oid) (same_ok other after f)
fold_same oid (c ∷ cs) tables other next after same e f =
    let one = bound (apply tables c) (λ n. fold_changes n cs) next e in
    let two = bound (apply other c) (λ n. fold_changes n cs) after f in
    fold_same oid cs one.at two.at next after (one_same oid tables other one.at two.at c same one.first two.first) one.then two.then
