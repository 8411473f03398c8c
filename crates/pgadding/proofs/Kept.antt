-- The rows that the history with the rows gives.
use Rattle.std.proofs.Common.{◌≡◌, ◌≤◌, ◌<◌, ◌++◌, ℕ, List, [], ◌∷◌, true, false, cond, nat_le, eqb}
use Rattle.std.proofs.Common.{Option, Some, None, Result, Ok, refl, sym, ap, subst, ◌∙◌, arith}
use Rattle.std.proofs.Common.{append_assoc, append-nil, ◌||◌, ◌==◌}
use Rattle.std.specs.FinMap as map
use Rattle.std.specs.FinMap.{same_map, nat_cmp-IsAntisymmetric}
use Rattle.std.specs.Cmp.{nat_cmp_total}
use Rattle.std.specs.List.{AllByRecursion}
use Rattle.std.proofs.lemmas.Bool.Decides.{nat_tests}
use Rattle.pglogical.specs.declared.message.RelationDef.{RelationDef}
use Rattle.pgrel.specs.Identity.{same_shape}
use Rattle.pgapply.specs.declared.op.Op.TheVariants as op
use Rattle.pgapply.specs.declared.fault.StoreFault.{StoreFault}
use Rattle.pgapply.specs.Value.{Table, Tables, Rows}
use Rattle.pgapply.specs.Apply.{Change, apply, fold_changes, found_rows, rows_after, ◌>>=◌}
use Rattle.pgsub_core.specs.Server.Work.{surviving_changes}
use Rattle.pgsub_core.specs.Server.History.{Transaction, all_changes, ended_by, tables_as_of}
use Rattle.pgsub_core.proofs.Changes.{fold-append, changes-append, ended-append, ended-none}
use Rattle.pgadding.specs.LeftOut.{transaction_without}
use Rattle.pgadding.specs.Addition.{OwnChange, Inserted, Updated, Deleted, Emptied, Addition}
use Rattle.pgadding.specs.Addition.{made_of, owned}
use Rattle.pgadding.specs.Addition.{rows_work, rows_transaction}
use Rattle.pgadding.specs.Around.{IsAround, with_rows}
use Rattle.pgadding.specs.Rows.{OtherRowsAreTheServers, AreRowsOf, RowsAreTheServers}
use Rattle.pgadding.proofs.LeftItems.{other_changes}
use Rattle.pgadding.proofs.LeftWork.{surviving-without, others-append}
use Rattle.pgadding.proofs.Following.{AreSeen, all_without}
use Rattle.pgadding.proofs.Histories.{all_seen, ends_above}
use Rattle.pgadding.proofs.Steps.{AlikeTables, bound, Bound, fold_without, fold_alike, AllOwn}
use Rattle.pgadding.proofs.Steps.{own_fold, Own, own_too, own_put, put}

-- ---- the changes

pub changes-without : (point oid : ℕ) (ts : List Transaction) → AreSeen point ts
    → all_changes (all_without oid ts) ≡ other_changes oid (all_changes ts)
changes-without point oid [] h = refl
changes-without point oid (t ∷ ts) h =
    ap (λ cs. cs ++ all_changes (all_without oid ts)) (surviving-without oid t.work h.0.work)
    ∙ ap (λ cs. other_changes oid (surviving_changes t.work) ++ cs) (changes-without point oid ts h.1)
    ∙ sym (others-append oid (surviving_changes t.work) (all_changes ts))

ended-without : (p oid : ℕ) (ts : List Transaction) → ended_by p (all_without oid ts) ≡ all_without oid (ended_by p ts)
ended-without p oid [] = refl
ended-without p oid (t ∷ ts) =
    elim (nat_le t.end p) as
    (λ b. cond b (transaction_without oid t ∷ ended_by p (all_without oid ts)) (ended_by p (all_without oid ts))
    ≡ all_without oid (cond b (t ∷ ended_by p ts) (ended_by p ts))) [
      | true ↦ ap (λ rest. transaction_without oid t ∷ rest) (ended-without p oid ts)
      | false ↦ ended-without p oid ts
    ]

seen_by : (point p : ℕ) (ts : List Transaction) → AreSeen point ts → AreSeen point (ended_by p ts)
seen_by point p [] h = tt
seen_by point p (t ∷ ts) h =
    elim (nat_le t.end p) as (λ b. AreSeen point (cond b (t ∷ ended_by p ts) (ended_by p ts))) [
      | true ↦ (h.0, seen_by point p ts h.1)
      | false ↦ seen_by point p ts h.1
    ]

pub three : (p : ℕ) (xs ys zs : List Transaction)
    → all_changes (ended_by p (xs ++ (ys ++ zs))) ≡ all_changes (ended_by p xs)
    ++ (all_changes (ended_by p ys) ++ all_changes (ended_by p zs))
three p xs ys zs =
    ap all_changes (ended-append p xs (ys ++ zs)) ∙ changes-append (ended_by p xs) (ended_by p (ys ++ zs))
    ∙ ap (λ cs. all_changes (ended_by p xs) ++ cs) (ap all_changes (ended-append p ys zs) ∙ changes-append (ended_by p ys) (ended_by p zs))

-- those of the rows' transaction, where it ends by p
abbrev pub rows_changes : Addition → ℕ → List Change
rows_changes a p = cond (nat_le a.point p) (surviving_changes (rows_work a)) []

behind-rows : (a : Addition) (p : ℕ) (above : List Transaction)
    → all_changes (ended_by p (rows_transaction a ∷ above)) ≡ rows_changes a p ++ all_changes (ended_by p above)
behind-rows a p above =
    elim (nat_le a.point p) as
    (λ b. all_changes (cond b (rows_transaction a ∷ ended_by p above) (ended_by p above)) ≡ cond b (surviving_changes (rows_work a)) []
    ++ all_changes (ended_by p above)) [ true ↦ refl | false ↦ refl ]

pub copy-changes : (a : Addition) (p : ℕ) (before below above : List Transaction) → AreSeen a.point below
    → all_changes (ended_by p (with_rows a before below above))
    ≡ all_changes (ended_by p before)
    ++ (other_changes a.definition.oid (all_changes (ended_by p below)) ++ (rows_changes a p ++ all_changes (ended_by p above)))
copy-changes a p before below above seen =
    let oid = a.definition.oid in
    three p before (all_without oid below) (rows_transaction a ∷ above)
    ∙ ap (λ cs. all_changes (ended_by p before) ++ (cs ++ all_changes (ended_by p (rows_transaction a ∷ above))))
    (ap all_changes (ended-without p oid below) ∙ changes-without a.point oid (ended_by p below) (seen_by a.point p below seen))
    ∙ ap (λ cs. all_changes (ended_by p before) ++ (other_changes oid (all_changes (ended_by p below)) ++ cs)) (behind-rows a p above)

self : (x : ℕ) → eqb x x ≡ true
self x = grind (arith, nat_tests)

owned_own : (def : RelationDef) (owns : List OwnChange) → AllOwn def.oid (surviving_changes (owned def owns))
owned_own def [] = tt
owned_own def (Inserted row ∷ owns) = (self def.oid, owned_own def owns)
owned_own def (Updated prior row ∷ owns) = (self def.oid, owned_own def owns)
owned_own def (Deleted kind row ∷ owns) = (self def.oid, owned_own def owns)
owned_own def (Emptied options ∷ owns) = (self def.oid, owned_own def owns)

rows_own : (a : Addition) → AllOwn a.definition.oid (surviving_changes (rows_work a))
rows_own a = (self a.definition.oid, owned_own a.definition (made_of a))

rows_changes_own : (a : Addition) (p : ℕ) → AllOwn a.definition.oid (rows_changes a p)
rows_changes_own a p = elim (nat_le a.point p) as (λ b. AllOwn a.definition.oid (cond b (surviving_changes (rows_work a)) []))
    [ true ↦ rows_own a | false ↦ tt ]

-- ---- the other tables

-- a list of changes and its second part
pub in_two : (a b : List Change) (tables next : Tables) → fold_changes tables (a ++ b) ≡ Ok next
    → Bound (fold_changes tables a) (λ n. fold_changes n b) next
in_two a b tables next e = bound (fold_changes tables a) (λ n. fold_changes n b) next (sym (fold-append a b tables) ∙ e)

pub same_ok : (x y : Tables) (r : Result Tables StoreFault) → r ≡ Ok x → r ≡ Ok y → x ≡ y
same_ok x y r e f = cc

others_kept : (oid : ℕ) (first both own last : List Change) (tables copy : Tables) → AllOwn oid own
    → fold_changes map.empty (first ++ (both ++ last)) ≡ Ok tables
    → fold_changes map.empty (first ++ (other_changes oid both ++ (own ++ last))) ≡ Ok copy
    → AlikeTables oid tables copy
others_kept oid first both own last tables copy is e f =
    let e1 = in_two first (both ++ last) map.empty tables e in
    let f1 = in_two first (other_changes oid both ++ (own ++ last)) map.empty copy f in
    let same : e1.at ≡ f1.at = same_ok e1.at f1.at (fold_changes map.empty first) e1.first f1.first in
    let e2 = in_two both last e1.at tables e1.then in
    let f2 = in_two (other_changes oid both) (own ++ last) f1.at copy f1.then in
    let without = fold_without oid both e1.at f1.at e2.at (λ o _. ap (λ n. map.get n o) same) e2.first in
    let there : without.other ≡ f2.at = same_ok without.other f2.at (fold_changes f1.at (other_changes oid both)) without.is f2.first in
    let f3 = in_two own last f2.at copy f2.then in
    let owned = own_fold oid own f2.at without.other f3.at is (λ o _. ap (λ n. map.get n o) (sym there)) f3.first in
    fold_alike oid last e2.at f3.at tables copy (λ o isnt. without.alike o isnt ∙ sym (owned o isnt)) e2.then f3.then

pub other_rows : OtherRowsAreTheServers
unfolding tables_as_of
other_rows a before below above p tables copy is e f oid isnt =
    sym (others_kept a.definition.oid (all_changes (ended_by p before)) (all_changes (ended_by p below)) (rows_changes a p)
    (all_changes (ended_by p above)) tables copy (rows_changes_own a p)
    (ap (fold_changes map.empty) (sym (three p before below above)) ∙ e)
    (ap (fold_changes map.empty) (sym (copy-changes a p before below above (all_seen a.point before below above is))) ∙ f) oid isnt)

-- ---- the table itself

-- a truncation finds rows or none, and leaves none
abbrev pub emptied_table : RelationDef → Table
emptied_table def = record { definition = def; rows = map.empty }

found_some : (there : Option Table) (def : RelationDef) → (rows : Rows) × (found_rows there def op.Truncate ≡ Ok rows)
found_some None def = (map.empty, refl)
found_some (Some table) def =
    elim (same_shape table.definition def || map.len table.rows == 0) as
    (λ b. (rows : Rows) × (cond {A = Result Rows StoreFault} b (Ok table.rows) (Ok map.empty) ≡ Ok rows)) [
      | true ↦ (table.rows, refl)
      | false ↦ (map.empty, refl)
    ]

pub truncated : (def : RelationDef) (tables : Tables)
    → apply tables (record { definition = def; op = op.Truncate }) ≡ Ok (map.insert tables def.oid (emptied_table def))
unfolding apply rows_after
truncated def tables =
    let found = found_some (map.get tables def.oid) def in
    ap (λ r. r >>= λ rows. rows_after def op.Truncate rows
    >>= λ left. Ok (map.insert tables def.oid (record { definition = def; rows = left }))) found.1

abbrev no_tables : Tables
no_tables = map.empty

-- over any tables the rows' transaction makes of its table what it makes of an empty store
rows_too : (a : Addition) (alone tables : Tables) → fold_changes no_tables (surviving_changes (rows_work a)) ≡ Ok alone
    → Own a.definition.oid alone tables (fold_changes tables (surviving_changes (rows_work a)))
unfolding fold_changes
rows_too a alone tables e =
    let def = a.definition in
    let oid = def.oid in
    let more = surviving_changes (owned def (made_of a)) in
    let first : fold_changes (map.insert no_tables oid (emptied_table def)) more ≡ Ok alone =
    ap (λ r. r >>= λ n. fold_changes n more) (sym (truncated def no_tables)) ∙ e in
    let here : map.get (map.insert no_tables oid (emptied_table def)) oid ≡ map.get (map.insert tables oid (emptied_table def)) oid =
    put no_tables oid (emptied_table def) oid ∙ ap (λ b. cond b (Some (emptied_table def)) (map.get no_tables oid)) (self oid)
    ∙ ap (λ b. cond b (Some (emptied_table def)) (map.get tables oid)) (sym (self oid)) ∙ sym (put tables oid (emptied_table def) oid) in
    let rest = own_too oid more (map.insert no_tables oid (emptied_table def)) alone (map.insert tables oid (emptied_table def))
    (owned_own def (made_of a)) here first in
    record {
      next = rest.next;
      is = ap (λ r. r >>= λ n. fold_changes n more) (truncated def tables) ∙ rest.is;
      same = rest.same;
      others = λ o isnt. rest.others o isnt ∙ own_put oid tables tables oid (emptied_table def) (λ x _. refl) (self oid) o isnt;
    }

-- the server's rows at the point, from what is passed on
pub rows_made : (a : Addition) (first both : List Change) (tables : Tables) → fold_changes map.empty (first ++ both) ≡ Ok tables
    → AreRowsOf a tables
    → fold_changes map.empty (first ++ (other_changes a.definition.oid both ++ surviving_changes (rows_work a))) ≡ Ok tables
rows_made a first both tables e is =
    let oid = a.definition.oid in
    let rows = surviving_changes (rows_work a) in
    let e1 = in_two first both map.empty tables e in
    let without = fold_without oid both e1.at e1.at tables (λ o _. refl) e1.then in
    let own = rows_too a is.alone without.other is.taken in
    let same : own.next ≡ tables = same_map nat_cmp_total nat_cmp-IsAntisymmetric own.next tables (λ o.
    elim (eqb o oid) as (λ b. eqb o oid ≡ b → map.get own.next o ≡ map.get tables o) [
      | true ↦ λ yes. let at : oid ≡ o = grind (arith, nat_tests) in
          subst (λ x. map.get own.next x ≡ map.get tables x) at (sym own.same ∙ is.same)
      | false ↦ λ isnt. own.others o isnt ∙ sym (without.alike o isnt)
    ] refl) in
    fold-append first (other_changes oid both ++ rows) map.empty
    ∙ ap (λ r. r >>= λ n. fold_changes n (other_changes oid both ++ rows)) e1.first
    ∙ fold-append (other_changes oid both) rows e1.at
    ∙ ap (λ r. r >>= λ n. fold_changes n rows) without.is
    ∙ own.is ∙ ap (λ n. Ok n) same

-- ---- at the point and behind it

pub ended_whole : (point p : ℕ) (ts : List Transaction) → point ≤ p → AllByRecursion (λ (t : Transaction). t.end < point) ts
    → ended_by p ts ≡ ts
ended_whole point p [] le h = refl
ended_whole point p (t ∷ ts) le h =
    let early : t.end < point = h.0 in
    let yes : nat_le t.end p ≡ true = grind (arith, nat_tests) in
    ap (λ b. cond b (t ∷ ended_by p ts) (ended_by p ts)) yes ∙ ap (λ rest. t ∷ rest) (ended_whole point p ts le h.1)

pub server-changes : (point p : ℕ) (before below above : List Transaction) → IsAround point before below above → point ≤ p
    → all_changes (ended_by p (before ++ (below ++ above))) ≡ all_changes before ++ (all_changes below ++ all_changes (ended_by p above))
server-changes point p before below above is le =
    three p before below above
    ∙ ap (λ ts. all_changes ts ++ (all_changes (ended_by p below) ++ all_changes (ended_by p above)))
    (ended_whole point p before le is.stored)
    ∙ ap (λ ts. all_changes before ++ (all_changes ts ++ all_changes (ended_by p above))) (ended_whole point p below le is.seen)

pub point-changes : (point : ℕ) (before below above : List Transaction) → IsAround point before below above
    → all_changes (ended_by point (before ++ (below ++ above))) ≡ all_changes before ++ all_changes below
point-changes point before below above is =
    server-changes point point before below above is (omega arith)
    ∙ ap (λ ts. all_changes before ++ (all_changes below ++ all_changes ts))
    (ended-none point above (ends_above point 0 before below above is.unseen is.history))
    ∙ ap (λ cs. all_changes before ++ cs) (append-nil (all_changes below))

pub copy-behind : (a : Addition) (p : ℕ) (before below above : List Transaction) → IsAround a.point before below above → a.point ≤ p
    → all_changes (ended_by p (with_rows a before below above))
    ≡ all_changes before ++ (other_changes a.definition.oid (all_changes below)
    ++ (surviving_changes (rows_work a) ++ all_changes (ended_by p above)))
copy-behind a p before below above is le =
    let oid = a.definition.oid in
    let last = all_changes (ended_by p above) in
    let there : nat_le a.point p ≡ true = grind (arith, nat_tests) in
    copy-changes a p before below above (all_seen a.point before below above is)
    ∙ ap (λ ts. all_changes ts ++ (other_changes oid (all_changes (ended_by p below)) ++ (rows_changes a p ++ last)))
    (ended_whole a.point p before le is.stored)
    ∙ ap (λ ts. all_changes before ++ (other_changes oid (all_changes ts) ++ (rows_changes a p ++ last)))
    (ended_whole a.point p below le is.seen)
    ∙ ap (λ b. all_changes before ++ (other_changes oid (all_changes below) ++ (cond b (surviving_changes (rows_work a)) [] ++ last))) there

-- behind changes that make these tables
pub then_last : (all last : List Change) (tables : Tables) → fold_changes map.empty all ≡ Ok tables
    → fold_changes map.empty (all ++ last) ≡ fold_changes tables last
then_last all last tables e = fold-append all last map.empty ∙ ap (λ r. r >>= λ n. fold_changes n last) e

pub rows_kept : RowsAreTheServers
unfolding tables_as_of
rows_kept a before below above p tables is e rows le =
    let first = all_changes before in
    let both = all_changes below in
    let others = other_changes a.definition.oid both in
    let made = surviving_changes (rows_work a) in
    let last = all_changes (ended_by p above) in
    let at_point : fold_changes map.empty (first ++ both) ≡ Ok tables =
    ap (fold_changes map.empty) (sym (point-changes a.point before below above is)) ∙ e in
    ap (fold_changes map.empty)
    (copy-behind a p before below above is le ∙ ap (λ cs. first ++ cs) (sym (append_assoc others made last))
    ∙ sym (append_assoc first (others ++ made) last))
    ∙ then_last (first ++ (others ++ made)) last tables (rows_made a first both tables at_point rows)
    ∙ sym (ap (fold_changes map.empty) (server-changes a.point p before below above is le ∙ sym (append_assoc first both last))
    ∙ then_last (first ++ both) last tables at_point)
