-- Tables of any content are given by a history, and a copy that has them is repaired.
use Rattle.std.proofs.Common.{◌≡◌, ◌≢◌, ◌<◌, ◌≤◌, ◌++◌, ℕ, List, [], ◌∷◌, Bool, true, false, cond}
use Rattle.std.proofs.Common.{eqb, nat_le, map, flat_map, Some, None, Ok, refl, sym, ap, subst, ◌∙◌}
use Rattle.std.proofs.Common.{inr, arith, append-nil}
use Rattle.std.specs.Prelude.{T, ◌&&◌}
use Rattle.std.specs.FinMap as finite
use Rattle.std.specs.FinMap.{same_map, nat_cmp-IsAntisymmetric, get-empty, get-entries}
use Rattle.std.specs.FinMap.{get-from_entries, entries_sorted, find, is_sorted}
use Rattle.std.specs.FinMap.Entries.{below_all}
use Rattle.std.specs.Ordering.{nat_cmp, is_lt}
use Rattle.std.specs.Cmp.{nat_cmp_total}
use Rattle.std.specs.Cmp.Lexicographic.{slice_cmp, nat_list_cmp_total}
use Rattle.std.specs.List.{AllByRecursion}
use Rattle.std.proofs.lemmas.Bool.Decides.{nat_tests}
use Rattle.std.proofs.lemmas.Cmp.{tied_itself}
use Rattle.pglogical.specs.declared.message.RelationDef.{RelationDef}
use Rattle.pgapply.specs.Value.{Row, Rows, Table, Tables, AreRows, AreTables, IsTable}
use Rattle.pgapply.specs.CarriedCopies.{copies_of, copies_at}
use Rattle.pgapply.specs.Apply.{fold_changes, ◌>>=◌}
use Rattle.pgapply.proofs.KeepsForm.{no_rows}
use Rattle.pgapply.proofs.Entries.{each_entry}
use Rattle.pgsub_core.specs.Server.Work.{Work, Nothing, IsWork, AllDiffer, surviving_changes}
use Rattle.pgsub_core.specs.Server.Work.{xids_of}
use Rattle.pgsub_core.specs.Server.History.{Transaction, all_changes, ended_by, tables_as_of}
use Rattle.pgsub_core.specs.Subscriber.Safe.{IsSafe}
use Rattle.pgsub_core.proofs.Changes.{fold-append, ended-none, ended-append}
use Rattle.pgadding.specs.Around.{IsAround}
use Rattle.pgadding.specs.Mended.{IsNotAmong, AreDistinct, changes_at}
use Rattle.pgadding.specs.Repair.{changed}
use Rattle.pgadding.specs.Given.{giving_changes, giving_work, giving, AnyTablesAreGiven}
use Rattle.pgadding.specs.Given.{AnyCopyIsRepaired}
use Rattle.pgadding.proofs.Histories.{ends_above}
use Rattle.pgadding.proofs.Kept.{emptied_table, truncated, point-changes, then_last}
use Rattle.pgadding.proofs.Steps.{put}
use Rattle.pgadding.proofs.MendedRows.{fold_items}
use Rattle.pgadding.proofs.MendedTables.{BothRows, StillToDo, all_ours, differ, mend_rows}
use Rattle.pgadding.proofs.MendedTables.{changes_by, changed_survive, all_rows, fold_more, put_here}
use Rattle.pgadding.proofs.RepairCommit.{changed_work, changed_xids}
use Rattle.pgadding.proofs.RepairDelivered.{repaired_copy}

-- ---- the identities of a table's rows

first : (a b : Bool) → T (a && b) → T a
first true b p = tt
first false b p = p

second : (a b : Bool) → T (a && b) → T b
second true b p = p
second false b p = absurd p

abbrev keys_of : List (List ℕ × Row) → List (List ℕ)
keys_of es = map (λ (e : List ℕ × Row). e.0) es

not_below : (place other : List ℕ) → T (is_lt (slice_cmp nat_cmp place other)) → other ≢ place
not_below place other lt e =
    let itself : T (is_lt (slice_cmp nat_cmp place place)) = subst (λ q. T (is_lt (slice_cmp nat_cmp place q))) e lt in
    subst (λ o. T (is_lt o)) (tied_itself nat_list_cmp_total place) itself

below_others : (place : List ℕ) (es : List (List ℕ × Row)) → T (below_all (slice_cmp nat_cmp) place es) → IsNotAmong place (keys_of es)
below_others place [] p = tt
below_others place (e ∷ es) p = (not_below place e.0 (first _ _ p), below_others place es (second _ _ p))

sorted_distinct : (es : List (List ℕ × Row)) → T (is_sorted (slice_cmp nat_cmp) es) → AreDistinct (keys_of es)
sorted_distinct [] p = tt
sorted_distinct (e ∷ es) p = (below_others e.0 es (first _ _ p), sorted_distinct es (second _ _ p))

found_none : (q : List ℕ) (es : List (List ℕ × Row)) → IsNotAmong q (keys_of es) → find (slice_cmp nat_cmp) q es ≡ None
found_none q [] isnt = refl
found_none q (e ∷ es) isnt =
    ap (λ b. cond b (Some e.1) (find (slice_cmp nat_cmp) q es)) (differ e.0 q (λ same. isnt.0 (sym same))) ∙ found_none q es isnt.1

no_row : (q : List ℕ) → finite.get {X = Row} {R = slice_cmp nat_cmp} finite.empty q ≡ None
no_row q = get-empty (slice_cmp nat_cmp) q

no_copies : (theirs : Rows) (place : List ℕ) → copies_at finite.empty place ≤ copies_at theirs place
no_copies theirs place = let none : copies_at finite.empty place ≡ 0 = ap copies_of (no_row place) in omega arith

-- all rows come
rows_given : (def : RelationDef) (rows : Rows) → AreRows def rows
    → fold_items def finite.empty (flat_map (changes_at def rows finite.empty) (finite.keys rows)) ≡ Ok rows
rows_given def rows are =
    let both : BothRows def rows finite.empty = record {
      are = are;
      were = no_rows def;
      fit = λ _ place row old _ e. absurd (let none = sym (no_row place) ∙ e in cc);
      tells = inr (inr (no_copies rows));
    } in
    let still : StillToDo rows finite.empty finite.empty (finite.keys rows) = record {
      once = sorted_distinct (finite.entries rows) (entries_sorted rows);
      done = λ q isnt. no_row q ∙ sym (get-entries rows q ∙ found_none q (finite.entries rows) isnt);
      todo = all_ours finite.empty (finite.keys rows);
    } in
    mend_rows def rows finite.empty both (finite.keys rows) finite.empty still

-- ---- a table

table_given : (def : RelationDef) (rows : Rows) (tables : Tables) (rest : Work) → AreRows def rows
    → fold_changes tables (surviving_changes (changed def (giving_changes def rows) rest))
    ≡ fold_changes (finite.insert tables def.oid (record { definition = def; rows = rows })) (surviving_changes rest)
unfolding fold_changes
table_given def rows tables rest are =
    let items = flat_map (changes_at def rows finite.empty) (finite.keys rows) in
    let bare : Tables = finite.insert tables def.oid (emptied_table def) in
    let wanted : Table = record { definition = def; rows = rows } in
    let it = fold_more def items bare finite.empty rows (put_here tables def finite.empty) (rows_given def rows are) in
    let same : it.next ≡ finite.insert tables def.oid wanted =
    same_map nat_cmp_total nat_cmp-IsAntisymmetric it.next (finite.insert tables def.oid wanted) (λ o.
    elim (eqb o def.oid) as (λ b. eqb o def.oid ≡ b → finite.get it.next o ≡ finite.get (finite.insert tables def.oid wanted) o) [
      | true ↦ λ yes.
          let at : def.oid ≡ o = grind (arith, nat_tests) in
          subst (λ x. finite.get it.next x ≡ finite.get (finite.insert tables def.oid wanted) x) at
          (it.here ∙ sym (put_here tables def rows))
      | false ↦ λ no.
          it.others o no
          ∙ put tables def.oid (emptied_table def) o ∙ ap (λ b. cond b (Some (emptied_table def)) (finite.get tables o)) no
          ∙ sym (put tables def.oid wanted o ∙ ap (λ b. cond b (Some wanted) (finite.get tables o)) no)
    ] refl) in
    ap (λ t. t >>= λ n. fold_changes n (surviving_changes (changed def items rest))) (truncated def tables)
    ∙ ap (fold_changes bare) (changed_survive def items rest (all_rows def rows finite.empty (finite.keys rows)))
    ∙ fold-append (changes_by def items) (surviving_changes rest) bare
    ∙ ap (λ t. t >>= λ n. fold_changes n (surviving_changes rest)) (it.is ∙ ap (λ n. Ok n) same)

-- ---- all tables

abbrev IsEntry : ℕ × Table → Type 0
IsEntry e = IsTable e.0 e.1

tables_given : (es : List (ℕ × Table)) (rest : Work) → AllByRecursion IsEntry es
    → fold_changes finite.empty (surviving_changes (giving_work es rest))
    ≡ fold_changes (finite.from_entries {R = nat_cmp} es) (surviving_changes rest)
tables_given [] rest are = refl
tables_given (e ∷ es) rest are =
    let def = e.1.definition in
    tables_given es (changed def (giving_changes def e.1.rows) rest) are.1
    ∙ table_given def e.1.rows (finite.from_entries es) rest are.0.each
    ∙ ap (λ oid. fold_changes (finite.insert (finite.from_entries es) oid e.1) (surviving_changes rest)) are.0.same_oid

all_entries : (tables : Tables) → AreTables tables → AllByRecursion IsEntry (finite.entries tables)
all_entries tables are = each_entry nat_cmp_total nat_cmp-IsAntisymmetric IsTable tables are

given : (tables : Tables) → AreTables tables → fold_changes finite.empty (surviving_changes (giving tables).work) ≡ Ok tables
unfolding fold_changes
given tables are =
    tables_given (finite.entries tables) Nothing (all_entries tables are)
    ∙ ap (λ t. Ok t) (same_map nat_cmp_total nat_cmp-IsAntisymmetric (finite.from_entries (finite.entries tables)) tables
    (λ q. get-from_entries nat_cmp_total (finite.entries tables) q ∙ sym (get-entries tables q)))

table_work : (def : RelationDef) (rows : Rows) (rest : Work) → IsWork rest → IsWork (changed def (giving_changes def rows) rest)
table_work def rows rest is = (
  tt,
  refl,
  changed_work def (flat_map (changes_at def rows finite.empty) (finite.keys rows)) rest
      (all_rows def rows finite.empty (finite.keys rows)) is,
)

all_work : (es : List (ℕ × Table)) (rest : Work) → IsWork rest → IsWork (giving_work es rest)
all_work [] rest is = is
all_work (e ∷ es) rest is =
    all_work es (changed e.1.definition (giving_changes e.1.definition e.1.rows) rest) (table_work e.1.definition e.1.rows rest is)

all_xids : (es : List (ℕ × Table)) (rest : Work) → xids_of (giving_work es rest) ≡ xids_of rest
all_xids [] rest = refl
all_xids (e ∷ es) rest =
    all_xids es (changed e.1.definition (giving_changes e.1.definition e.1.rows) rest)
    ∙ changed_xids e.1.definition (giving_changes e.1.definition e.1.rows) rest

given_work : (tables : Tables) → IsWork (giving tables).work
given_work tables = all_work (finite.entries tables) Nothing tt

given_xids : (tables : Tables) → AllDiffer ((giving tables).xid ∷ xids_of (giving tables).work)
given_xids tables = subst (λ xs. AllDiffer ((giving tables).xid ∷ xs)) (sym (all_xids (finite.entries tables) Nothing)) (refl, tt)

-- by a position from 1 on it is done
given_by : (tables : Tables) (p : ℕ) → 1 ≤ p → ended_by p (giving tables ∷ []) ≡ giving tables ∷ []
given_by tables p le = let yes : nat_le 1 p ≡ true = grind (arith, nat_tests) in ap (λ b. cond b (giving tables ∷ []) []) yes

append_none : (tables : Tables) → all_changes (giving tables ∷ []) ≡ surviving_changes (giving tables).work
append_none tables = append-nil (surviving_changes (giving tables).work)

pub any_tables : AnyTablesAreGiven
unfolding tables_as_of
any_tables tables p are le = (
  (omega arith, omega arith, given_work tables, given_xids tables, tt),
  ap (λ ts. fold_changes finite.empty (all_changes ts)) (given_by tables p le) ∙ ap (fold_changes finite.empty) (append_none tables)
      ∙ given tables are,
)

-- ---- a copy that has them

later_ends : (p point : ℕ) (ts : List Transaction) → p < point → AllByRecursion (λ (t : Transaction). point < t.end) ts
    → AllByRecursion (λ (t : Transaction). p < t.end) ts
later_ends p point [] lt h = tt
later_ends p point (t ∷ ts) lt h = ((let late : point < t.end = h.0 in omega arith), later_ends p point ts lt h.1)

pub any_copy : AnyCopyIsRepaired
unfolding tables_as_of
any_copy v r before below above copy server p old new sessions all_complete is ours theirs differs position confirmed sent ran le =
    let other = giving old.tables ∷ [] in
    let some : 1 ≤ old.position = is.some in
    let low : old.position < r.point = is.low in
    let around : IsAround r.point other below above = record {
      history = (omega arith, omega arith, given_work old.tables, given_xids old.tables, is.first);
      some = is.around.some;
      stored = (omega arith, tt);
      seen = is.around.seen;
      unseen = is.around.unseen;
    } in
    let made : fold_changes finite.empty (all_changes other) ≡ Ok old.tables =
    ap (fold_changes finite.empty) (append_none old.tables) ∙ given old.tables is.tables in
    let late : AllByRecursion (λ (t : Transaction). r.point < t.end) above =
    ends_above r.point 0 before below above is.around.unseen is.around.history in
    let start : IsSafe (other ++ (below ++ above)) old.tables old.position old.confirmed = record {
      same = ap (λ ts. fold_changes finite.empty (all_changes ts))
          (ended-append old.position other (below ++ above)
          ∙ ap (λ ts. ended_by old.position other ++ ts)
          (ended-append old.position below above
          ∙ ap (λ ts. ts ++ ended_by old.position above) (ended-none old.position below is.missing)
          ∙ ended-none old.position above (later_ends old.position r.point above low late))
          ∙ ap (λ ts. ts ++ []) (given_by old.tables old.position some)) ∙ made;
      stored = ((λ _ _. some), is.nothing);
      below = is.behind;
    } in
    repaired_copy v r other before below above p old new sessions all_complete (record {
      around = record { server = is.around; copy = around };
      copy = copy;
      server = server;
      ours = ap (fold_changes finite.empty) (point-changes r.point other below above around)
          ∙ then_last (all_changes other) (all_changes below) old.tables made ∙ ours;
      theirs = theirs;
      differs = differs;
    }) low is.unconfirmed start position confirmed sent ran le
