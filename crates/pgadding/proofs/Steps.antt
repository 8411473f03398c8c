-- Changes of some tables leave the others alone.
use Rattle.std.proofs.Common.{◌≡◌, ℕ, List, [], ◌∷◌, true, false, cond, not, eqb, Option, Some}
use Rattle.std.proofs.Common.{Result, Ok, Err, refl, sym, ap, subst, ◌∙◌, arith}
use Rattle.std.specs.FinMap as map
use Rattle.std.specs.FinMap.{get-insert}
use Rattle.std.specs.Cmp.{nat_cmp_total, unsigned_tied}
use Rattle.std.specs.List.{AllByRecursion}
use Rattle.std.proofs.lemmas.Bool.Decides.{nat_tests}
use Rattle.pgapply.specs.declared.fault.StoreFault.{StoreFault}
use Rattle.pgapply.specs.Value.{Table, Tables, Rows}
use Rattle.pgapply.specs.Apply.{Change, apply, fold_changes, found_rows, rows_after, ◌>>=◌}
use Rattle.pgadding.proofs.LeftItems.{other_changes}

-- ---- what a step has

pub record Bound {A B : Type 0} (r : Result A StoreFault) (f : A → Result B StoreFault) (y : B) : Type 0 where
  pub at : A
  pub first : r ≡ Ok at
  pub then : f at ≡ Ok y

pub bound : {A B : Type 0} (r : Result A StoreFault) (f : A → Result B StoreFault) (y : B) → (r >>= f) ≡ Ok y → Bound r f y
bound (Ok x) f y e = record { at = x; first = refl; then = e }
bound (Err fault) f y e = absurd (cc)

same_ok : {A : Type 0} (x y : A) → ◌≡◌ {A = Result A StoreFault} (Ok x) (Ok y) → x ≡ y
same_ok x y e = cc

-- ---- one change makes its table from what was there

pub effect : Option Table → Change → Result Table StoreFault
effect there change = found_rows there change.definition change.op >>= λ found. rows_after change.definition change.op found
    >>= λ rows. Ok (record { definition = change.definition; rows = rows })

put_after : (change : Change) (tables : Tables) (r : Result Rows StoreFault)
    → (r >>= λ rows. Ok (map.insert tables change.definition.oid (record { definition = change.definition; rows = rows })))
    ≡ ((r >>= λ rows. Ok (record { definition = change.definition; rows = rows }))
    >>= λ table. Ok (map.insert tables change.definition.oid table))
put_after change tables (Ok rows) = refl
put_after change tables (Err fault) = refl

found_after : (change : Change) (tables : Tables) (r : Result Rows StoreFault)
    → (r >>= λ found. rows_after change.definition change.op found
    >>= λ rows. Ok (map.insert tables change.definition.oid (record { definition = change.definition; rows = rows })))
    ≡ ((r >>= λ found. rows_after change.definition change.op found >>= λ rows. Ok (record { definition = change.definition; rows = rows }))
    >>= λ table. Ok (map.insert tables change.definition.oid table))
found_after change tables (Ok found) = put_after change tables (rows_after change.definition change.op found)
found_after change tables (Err fault) = refl

apply-effect : (tables : Tables) (change : Change)
    → apply tables change ≡ (effect (map.get tables change.definition.oid) change
    >>= λ table. Ok (map.insert tables change.definition.oid table))
unfolding apply effect
apply-effect tables change = found_after change tables (found_rows (map.get tables change.definition.oid) change.definition change.op)

pub record Applied (tables : Tables) (change : Change) (next : Tables) : Type 0 where
  pub table : Table
  pub effected : effect (map.get tables change.definition.oid) change ≡ Ok table
  pub is : next ≡ map.insert tables change.definition.oid table

pub applied : (tables : Tables) (change : Change) (next : Tables) → apply tables change ≡ Ok next → Applied tables change next
applied tables change next e =
    let it = bound (effect (map.get tables change.definition.oid) change) (λ table. Ok (map.insert tables change.definition.oid table)) next
    (sym (apply-effect tables change) ∙ e) in
    record { table = it.at; effected = it.first; is = sym (same_ok _ next it.then) }

-- the same where the same was there
pub applied_too : (tables other : Tables) (change : Change) (next : Tables) (it : Applied tables change next)
    → map.get tables change.definition.oid ≡ map.get other change.definition.oid
    → apply other change ≡ Ok (map.insert other change.definition.oid it.table)
applied_too tables other change next it same =
    apply-effect other change
    ∙ ap (λ r. r >>= λ table. Ok (map.insert other change.definition.oid table))
    (ap (λ there. effect there change) (sym same) ∙ it.effected)

-- ---- which tables differ

pub put : (tables : Tables) (k : ℕ) (table : Table) (o : ℕ)
    → map.get (map.insert tables k table) o ≡ cond (eqb o k) (Some table) (map.get tables o)
put tables k table o = get-insert nat_cmp_total tables k table o ∙ ap (λ b. cond b (Some table) (map.get tables o)) (unsigned_tied o k)

abbrev pub AlikeTables : ℕ → Tables → Tables → Type 0
AlikeTables oid tables other = (o : ℕ) → eqb o oid ≡ false → map.get tables o ≡ map.get other o

pub own_put : (oid : ℕ) (tables other : Tables) (k : ℕ) (table : Table) → AlikeTables oid tables other → eqb k oid ≡ true
    → AlikeTables oid (map.insert tables k table) other
own_put oid tables other k table alike own o isnt =
    let differ : eqb o k ≡ false = grind (arith, nat_tests) in
    put tables k table o ∙ ap (λ b. cond b (Some table) (map.get tables o)) differ ∙ alike o isnt

both_put : (oid : ℕ) (tables other : Tables) (k : ℕ) (table : Table) → AlikeTables oid tables other
    → AlikeTables oid (map.insert tables k table) (map.insert other k table)
both_put oid tables other k table alike o isnt =
    put tables k table o ∙ ap (λ x. cond (eqb o k) (Some table) x) (alike o isnt) ∙ sym (put other k table o)

pub record Too (oid : ℕ) (next : Tables) (outcome : Result Tables StoreFault) : Type 0 where
  pub other : Tables
  pub is : outcome ≡ Ok other
  pub alike : AlikeTables oid next other

-- a change of another table
other_step : (oid : ℕ) (tables other : Tables) (change : Change) (next : Tables) → AlikeTables oid tables other
    → eqb change.definition.oid oid ≡ false → apply tables change ≡ Ok next
    → Too oid next (apply other change)
other_step oid tables other change next alike isnt e =
    let it = applied tables change next e in
    record {
      other = map.insert other change.definition.oid it.table;
      is = applied_too tables other change next it (alike change.definition.oid isnt);
      alike = subst (λ n. AlikeTables oid n (map.insert other change.definition.oid it.table)) (sym it.is)
          (both_put oid tables other change.definition.oid it.table alike);
    }

-- a change of the table itself
pub own_step : (oid : ℕ) (tables other : Tables) (change : Change) (next : Tables) → AlikeTables oid tables other
    → eqb change.definition.oid oid ≡ true → apply tables change ≡ Ok next
    → AlikeTables oid next other
own_step oid tables other change next alike own e =
    let it = applied tables change next e in
    subst (λ n. AlikeTables oid n other) (sym it.is) (own_put oid tables other change.definition.oid it.table alike own)

-- ---- lists of changes

-- without the table's changes the others are made alike
pub fold_without : (oid : ℕ) (cs : List Change) (tables other next : Tables) → AlikeTables oid tables other
    → fold_changes tables cs ≡ Ok next → Too oid next (fold_changes other (other_changes oid cs))
unfolding fold_changes
fold_without oid [] tables other next alike e =
    record { other = other; is = refl; alike = subst (λ n. AlikeTables oid n other) (same_ok tables next e) alike }
fold_without oid (c ∷ cs) tables other next alike e =
    let it = bound (apply tables c) (λ n. fold_changes n cs) next e in
    elim (eqb c.definition.oid oid) as
    (λ b. eqb c.definition.oid oid ≡ b
    → Too oid next (fold_changes other (cond (not b) (c ∷ other_changes oid cs) (other_changes oid cs)))) [
      | true ↦ λ own. fold_without oid cs it.at other next (own_step oid tables other c it.at alike own it.first) it.then
      | false ↦ λ isnt.
          let step = other_step oid tables other c it.at alike isnt it.first in
          let rest = fold_without oid cs it.at step.other next step.alike it.then in
          record {
            other = rest.other;
            is = ap (λ r. r >>= λ n. fold_changes n (other_changes oid cs)) step.is ∙ rest.is;
            alike = rest.alike;
          }
    ] refl

both_step : (oid : ℕ) (tables other : Tables) (change : Change) (next after : Tables) → AlikeTables oid tables other
    → apply tables change ≡ Ok next → apply other change ≡ Ok after → AlikeTables oid next after
both_step oid tables other change next after alike e f =
    elim (eqb change.definition.oid oid) as (λ b. eqb change.definition.oid oid ≡ b → AlikeTables oid next after) [
      | true ↦ λ own o isnt. own_step oid tables other change next alike own e o isnt
          ∙ sym (own_step oid other other change after (λ x _. refl) own f o isnt)
      | false ↦ λ differ.
          let it = other_step oid tables other change next alike differ e in
          subst (AlikeTables oid next) (same_ok it.other after (sym it.is ∙ f)) it.alike
    ] refl

-- the same changes
pub fold_alike : (oid : ℕ) (cs : List Change) (tables other next after : Tables) → AlikeTables oid tables other
    → fold_changes tables cs ≡ Ok next → fold_changes other cs ≡ Ok after → AlikeTables oid next after
unfolding fold_changes
fold_alike oid [] tables other next after alike e f =
    subst (λ n. AlikeTables oid n after) (same_ok tables next e) (subst (AlikeTables oid tables) (same_ok other after f) alike)
fold_alike oid (c ∷ cs) tables other next after alike e f =
    let it = bound (apply tables c) (λ n. fold_changes n cs) next e in
    let too = bound (apply other c) (λ n. fold_changes n cs) after f in
    fold_alike oid cs it.at too.at next after (both_step oid tables other c it.at too.at alike it.first too.first) it.then too.then

abbrev pub AllOwn : ℕ → List Change → Type 0
AllOwn oid cs = AllByRecursion (λ (c : Change). eqb c.definition.oid oid ≡ true) cs

-- changes of the table alone
pub own_fold : (oid : ℕ) (cs : List Change) (tables other next : Tables) → AllOwn oid cs → AlikeTables oid tables other
    → fold_changes tables cs ≡ Ok next → AlikeTables oid next other
unfolding fold_changes
own_fold oid [] tables other next own alike e = subst (λ n. AlikeTables oid n other) (same_ok tables next e) alike
own_fold oid (c ∷ cs) tables other next own alike e =
    let it = bound (apply tables c) (λ n. fold_changes n cs) next e in
    own_fold oid cs it.at other next own.1 (own_step oid tables other c it.at alike own.0 it.first) it.then

-- make the same of it over any other tables
pub record Own (oid : ℕ) (alone tables : Tables) (outcome : Result Tables StoreFault) : Type 0 where
  pub next : Tables
  pub is : outcome ≡ Ok next
  pub same : map.get alone oid ≡ map.get next oid
  pub others : AlikeTables oid next tables

pub own_too : (oid : ℕ) (cs : List Change) (first alone tables : Tables) → AllOwn oid cs → map.get first oid ≡ map.get tables oid
    → fold_changes first cs ≡ Ok alone → Own oid alone tables (fold_changes tables cs)
unfolding fold_changes
own_too oid [] first alone tables own same e =
    record {
      next = tables;
      is = refl;
      same = subst (λ n. map.get n oid ≡ map.get tables oid) (same_ok first alone e) same;
      others = λ o _. refl;
    }
own_too oid (c ∷ cs) first alone tables own same e =
    let it = bound (apply first c) (λ n. fold_changes n cs) alone e in
    let step = applied first c it.at it.first in
    let k = c.definition.oid in
    let at : k ≡ oid = grind (arith, nat_tests, own.0) in
    let there : map.get first k ≡ map.get tables k = subst (λ x. map.get first x ≡ map.get tables x) (sym at) same in
    let makes : apply tables c ≡ Ok (map.insert tables k step.table) = applied_too first tables c it.at step there in
    let now : map.get it.at oid ≡ map.get (map.insert tables k step.table) oid =
    ap (λ n. map.get n oid) step.is ∙ put first k step.table oid ∙ ap (λ x. cond (eqb oid k) (Some step.table) x) same
    ∙ sym (put tables k step.table oid) in
    let rest = own_too oid cs it.at alone (map.insert tables k step.table) own.1 now it.then in
    record {
      next = rest.next;
      is = ap (λ r. r >>= λ n. fold_changes n cs) makes ∙ rest.is;
      same = rest.same;
      others = λ o isnt. rest.others o isnt ∙ own_put oid tables tables k step.table (λ x _. refl) own.0 o isnt;
    }
