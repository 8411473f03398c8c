-- What a seek and one step of its cursor tell of the table.
use Rattle.std.proofs.Common.{◌≡◌, ℕ, ℤ, true, false, List, [], ◌∷◌, Option, Some, None, is_some}
use Rattle.std.proofs.Common.{IsTrue, refl, sym, ap, subst, subst₂, ◌∙◌, ◌≤◌, ◌<ℤ◌, ◌≤ℤ◌, map}
use Rattle.std.proofs.Common.{arith}
use Rattle.std.specs.Prelude.{MatchOption, IsSome}
use Rattle.std.proofs.lemmas.Int.{ints}
use Rattle.std.specs.FinMap.{get, nat_cmp-IsAntisymmetric, slice_cmp-IsAntisymmetric}
use Rattle.std.proofs.lemmas.Bool.{true_from_ne_false, both_ways}
use Rattle.std.proofs.lemmas.Cmp.{nat_list_cmp_total}
use Rattle.sqlite_value.specs.Order.{Row}
use Rattle.sqlite_value.specs.Keys.{plain}
use Rattle.sqlite_trees.specs.declared.store.Direction.TheVariants.{Forward}
use Rattle.sqlite_trees.specs.Tree.{Trees, order_of, rowid, sought, from_key}
use Rattle.sqlite_rules.specs.Edit.{id_in}
use Rattle.sqlite_trees.specs.Objects.{catalog_tree, IsListed}
use Rattle.sqlite_trees.specs.View.{View, doubt, IsOrdered, Advances, with_cursor, KeepsCommitted}
use Rattle.sqlite_trees.specs.View.{OnlyWrites}
use Rattle.sqlite_exec.specs.Calls.{OnlyReads}
use Rattle.sqlite.specs.Effect.{Database}
use Rattle.sqlite.specs.Store.{Ghosts}
use Rattle.sqlite.specs.State.{HasCleanDisk, Savepoint}
use Rattle.sqlite_trees.proofs.ListLemmas.{all_weaker}
use Rattle.std.specs.List.{AllByRecursion}
use Rattle.pgtables.specs.Kept.{AreHeld, copies_in, key_in, IsKept}
use Rattle.pgtables.proofs.Maps.{row_got, row_missing}
use Rattle.pgtables.proofs.HeldRows.{the_map}
use Rattle.pgrows.specs.Rows.{AreBehind, AreBelow, AreLow, IsAt, IsBehind, IsFree, IsGood, IsSaved}
use Rattle.pgrows.specs.Rows.{IsStored, IsUnder, Keeps, database, key_of, saved_in, shown_mark}
use Rattle.pgrows.specs.Rows.{state}
use Rattle.pgrows.proofs.SetUp.{index_shape, indexed, entries_rise}
use Rattle.pgrows.proofs.Seek.{none_left, first_other, first_there}

pub matched : (r : Option ℤ) (A B : Type 0) (P Q : ℤ → Type 0) → (A → B) → ((x : ℤ) → P x → Q x) → MatchOption r A P → MatchOption r B Q
matched None A B P Q f h m = f m
matched (Some x) A B P Q f h m = h x m

pub some_of : (r : Option ℤ) (A : Type 0) (P : ℤ → Type 0) → is_some r ≡ true → MatchOption r A P → (x : ℤ) × P x
some_of None A P is m = absurd (let e = is in cc)
some_of (Some x) A P is m = (x, m)

pub none_of : (r : Option ℤ) (A : Type 0) (P : ℤ → Type 0) → is_some r ≡ false → MatchOption r A P → A
none_of None A P is m = m
none_of (Some x) A P is m = absurd (let e = is in cc)

module _ {old mid : View} (good : IsGood old) (listed : IsListed (old.trees catalog_tree) old.shape old.reals)
    (ordered : IsOrdered old.shape old.trees) (o : ℕ) (i : List ℕ) (key : Row) (key_is : key ≡ key_of o i)
    (placed : mid ≡ with_cursor old 0 (sought (order_of (old.shape 2)) Forward key (old.trees 2))) where
  left : mid.cursors 0 ≡ Some (from_key plain (key_of o i) (old.trees 2))
  left = ap (λ (v : View). v.cursors 0) placed ∙ ap (λ s. Some (from_key (order_of s) key (old.trees 2))) (index_shape good listed ordered)
      ∙ ap (λ k. Some (from_key plain k (old.trees 2))) key_is

  pub given : (rows : List Row) → mid.cursors 0 ≡ Some rows → from_key plain (key_of o i) (old.trees 2) ≡ rows
  given rows h = let both : Some (from_key plain (key_of o i) (old.trees 2)) ≡ Some rows = sym left ∙ h in
      let e : from_key plain (key_of o i) (old.trees 2) ≡ rows = cc in e

  pub ended : (row : Row) (new : View) → Advances mid new 0 row false → IsFree o i (old.trees 1)
  ended row new h = none_left o i (old.trees 1) (old.trees 2) good.kept.held (indexed good listed ordered)
      (entries_rise good listed ordered) (given [] h.0)

  pub met : (row : Row) (new : View) → Advances mid new 0 row true → (r : Option ℤ)
      → MatchOption r ((id : ℤ) → ¬ IsAt o i row id) (IsAt o i row) → MatchOption r (IsFree o i (old.trees 1)) (IsStored o i (old.trees 1))
  met row new h r = matched r _ _ _ _
      (first_other o i (old.trees 1) (old.trees 2) good.kept.held (indexed good listed ordered) (entries_rise good listed ordered) row h.0
      (given (row ∷ h.0) h.1))
      (first_there o i (old.trees 1) (old.trees 2) good.kept.held (indexed good listed ordered) (entries_rise good listed ordered) row h.0
      (given (row ∷ h.0) h.1))

-- ---- the map

pub free_is : (o : ℕ) (i : List ℕ) (rows : List Row) → IsFree o i rows → get (the_map rows) (o ∷ i) ≡ None
free_is o i rows free = row_missing nat_list_cmp_total (slice_cmp-IsAntisymmetric nat_cmp-IsAntisymmetric) key_in copies_in rows (o ∷ i)
    free

pub stored_is : (o : ℕ) (i : List ℕ) (rows : List Row) (id : ℤ) → AreHeld rows → (s : IsStored o i rows id)
    → get (the_map rows) (o ∷ i) ≡ Some s.0
stored_is o i rows id held s =
    row_got nat_list_cmp_total (slice_cmp-IsAntisymmetric nat_cmp-IsAntisymmetric) key_in copies_in rows _ held.keyed s.1

pub stored_some : (o : ℕ) (i : List ℕ) (rows : List Row) (id : ℤ) → AreHeld rows → IsStored o i rows id
    → IsSome (get (the_map rows) (o ∷ i))
stored_some o i rows id held s = subst IsSome (sym (stored_is o i rows id held s)) refl

-- ---- views that differ in cursors or in trees alone

pub reads_good : (old new : View) → OnlyReads old new → IsGood old → IsGood new
reads_good old new same good = rw same (record { unbroken = good.unbroken; kept = good.kept })

pub reads_behind : (old new : View) (last : Option ℤ) → OnlyReads old new → IsBehind old last → IsBehind new last
reads_behind old new last same behind = rw same (record { numbered = behind.numbered; committed = behind.committed; marks = behind.marks })

pub reads_under : (old new : View) (last : Option ℤ) → OnlyReads old new → IsUnder old last → IsUnder new last
reads_under old new last same under =
    let c : new.committed ≡ old.committed = ap (λ (v : View). v.committed) same in
    let t : new.trees ≡ old.trees = ap (λ (v : View). v.trees) same in
    record {
      good = reads_good old new same under.good;
      below = subst₂ (λ c (db : Trees). AreLow last c (db 1)) (sym c) (sym t) under.below;
      behind = reads_behind old new last same under.behind;
    }

pub writes_behind : (old new : View) (last : Option ℤ) → OnlyWrites old new → IsBehind old last → IsBehind new last
writes_behind old new last same behind =
    let c : new.committed ≡ old.committed = ap (λ (v : View). v.committed) same in
    let m : saved_in new ≡ saved_in old = ap saved_in same in
    record {
      numbered = subst IsTrue (sym (ap (λ (v : View). v.is_numbered) same)) behind.numbered;
      committed = subst (λ c. IsSaved last c c) (sym c) behind.committed;
      marks = subst₂ (λ c ms. AllByRecursion (λ (p : Savepoint). IsSaved last c p.db.trees) ms) (sym c) (sym m) behind.marks;
    }

-- a change of the trees that keeps them a store's, over what may be gone back to
pub wrote_under : (old new : View) (last : Option ℤ) → OnlyWrites old new → IsGood old → IsBehind old last → IsKept (database new.trees)
    → AreLow last old.committed (new.trees 1) → IsUnder new last
wrote_under old new last same good behind kept below =
    let c : new.committed ≡ old.committed = ap (λ (v : View). v.committed) same in
    record {
      good = record { unbroken = ap (λ (v : View). v.is_broken) same ∙ good.unbroken; kept = kept };
      below = subst (λ c. AreLow last c (new.trees 1)) (sym c) below;
      behind = writes_behind old new last same behind;
    }

-- the same, where the trees were read before
pub wrote_on : (a b c : View) (last : Option ℤ) → OnlyReads a b → IsUnder a last → OnlyWrites b c → IsKept (database c.trees)
    → AreLow last b.committed (c.trees 1) → IsUnder c last
wrote_on a b c last same under wrote kept below =
    wrote_under b c last wrote (reads_good a b same under.good) (reads_behind a b last same under.behind) kept below

pub low_still : (last : Option ℤ) (committed : Trees) (old new : List Row) → new ≡ old → AreLow last committed old
    → AreLow last committed new
low_still last committed old new same = subst (AreLow last committed) (sym same)

below_more : (rows : List Row) (last id : ℤ) → AreBelow last rows → last <ℤ id → AreBelow id rows
below_more rows last id below above = all_weaker _ (λ r. id_in (rowid r) ≤ℤ id) (λ r h. omega (arith, ints)) rows below

saved_more : (c db : Trees) (n m : ℤ) → n <ℤ m → IsSaved (Some n) c db → IsSaved (Some m) c db
saved_more c db n m above s = record { kept = s.kept; below = below_more (db 1) n m s.below above }

-- a higher rowid is above what may be gone back to
pub behind_more : (v : View) (n m : ℤ) → n <ℤ m → IsBehind v (Some n) → IsBehind v (Some m)
behind_more v n m above behind = record {
  numbered = behind.numbered;
  committed = saved_more v.committed v.committed n m above behind.committed;
  marks = all_weaker _ (λ (p : Savepoint). IsSaved (Some m) v.committed p.db.trees) (λ p s. saved_more v.committed p.db.trees n m above s)
      (saved_in v) behind.marks;
}

-- a row came with a higher rowid
pub grew_on : (a b c : View) (n m : ℤ) → n <ℤ m → OnlyReads a b → IsUnder a (Some n) → OnlyWrites b c → IsKept (database c.trees)
    → AreBelow m (c.trees 1) → IsUnder c (Some m)
grew_on a b c n m above same under wrote kept below =
    wrote_under b c (Some m) wrote (reads_good a b same under.good) (behind_more b n m above (reads_behind a b (Some n) same under.behind))
    kept below

-- what was found in trees that were only read
pub free_before : (a b : View) (o : ℕ) (i : List ℕ) → OnlyReads a b → IsFree o i (b.trees 1) → IsFree o i (a.trees 1)
free_before a b o i same = subst (λ (db : Trees). IsFree o i (db 1)) (ap (λ (v : View). v.trees) same)

pub stored_before : (a b : View) (o : ℕ) (i : List ℕ) (id : ℤ) → OnlyReads a b → IsStored o i (b.trees 1) id → IsStored o i (a.trees 1) id
stored_before a b o i id same = subst (λ (db : Trees). IsStored o i (db 1) id) (ap (λ (v : View). v.trees) same)

pub free_after : (a b : View) (o : ℕ) (i : List ℕ) → OnlyReads a b → IsFree o i (a.trees 1) → IsFree o i (b.trees 1)
free_after a b o i same = subst (λ (db : Trees). IsFree o i (db 1)) (sym (ap (λ (v : View). v.trees) same))

pub stored_after : (a b : View) (o : ℕ) (i : List ℕ) (id : ℤ) → OnlyReads a b → IsStored o i (a.trees 1) id → IsStored o i (b.trees 1) id
stored_after a b o i id same = subst (λ (db : Trees). IsStored o i (db 1) id) (sym (ap (λ (v : View). v.trees) same))

pub opened : (a b : View) → OnlyReads a b → IsTrue a.is_open → IsTrue b.is_open
opened a b same up = subst IsTrue (sym (ap (λ (v : View). v.is_open) same)) up

saved_known : (c db : Trees) (n : ℤ) → AreBelow n (c 1) → IsSaved None c db → IsSaved (Some n) c db
saved_known c db n below s = record { kept = s.kept; below = subst (AreBelow n) (sym s.below) below }

-- the last rowid of the table, before any row has come or gone
pub known_under : (v : View) (n : ℤ) → IsUnder v None → AreBelow n (v.trees 1) → IsUnder v (Some n)
known_under v n under below =
    let committed : AreBelow n (v.committed 1) = subst (AreBelow n) under.below below in
    record {
      good = under.good;
      below = below;
      behind = record {
        numbered = under.behind.numbered;
        committed = saved_known v.committed v.committed n committed under.behind.committed;
        marks = all_weaker _ (λ (p : Savepoint). IsSaved (Some n) v.committed p.db.trees)
            (λ p s. saved_known v.committed p.db.trees n committed s) (saved_in v) under.behind.marks;
      };
    }

pub open_of : (v : View) → (v.is_open ≡ false → IsTrue v.is_broken) → v.is_broken ≡ false → IsTrue v.is_open
open_of v shut unbroken = true_from_ne_false _ (λ h. both_ways _ unbroken (shut h))

module _ {S : Type 0} (g : Ghosts S) (old new : S) where
  pub keeps_reads : OnlyReads (g.view old) (g.view new) → Keeps g old new
  keeps_reads same = record {
    commit = record {
      was_open = λ h. subst IsTrue (ap (λ (v : View). v.is_open) same) h;
      committed = λ h. ap database (ap (λ (v : View). v.committed) same);
    };
    marks = λ h. ap saved_in same;
    numbered = ap (λ (v : View). v.is_numbered) same;
  }

  pub keeps_writes : OnlyWrites (g.view old) (g.view new) → Keeps g old new
  keeps_writes same = record {
    commit = record {
      was_open = λ h. subst IsTrue (ap (λ (v : View). v.is_open) same) h;
      committed = λ h. ap database (ap (λ (v : View). v.committed) same);
    };
    marks = λ h. ap saved_in same;
    numbered = ap (λ (v : View). v.is_numbered) same;
  }

  pub keeps_failed : KeepsCommitted (g.view old) (g.view new) → Keeps g old new
  keeps_failed k = record {
    commit = record { was_open = k.was_open; committed = λ h. ap database (k.committed h) };
    marks = λ h. ap (map shown_mark) (k.marks h);
    numbered = k.numbered;
  }

pub keeps_then : {S : Type 0} (g : Ghosts S) (a b c : S) → Keeps g a b → Keeps g b c → Keeps g a c
keeps_then g a b c one two = record {
  commit = record {
    was_open = λ h. one.commit.was_open (two.commit.was_open h);
    committed = λ h. two.commit.committed h ∙ one.commit.committed (two.commit.was_open h);
  };
  marks = λ h. two.marks h ∙ one.marks (two.commit.was_open h);
  numbered = two.numbered ∙ one.numbered;
}

-- what may be gone back to stands after a call, also after one that failed
pub behind_kept : {S : Type 0} (g : Ghosts S) (old new : S) (last : Option ℤ) → doubt (g.view old).is_clean ≤ doubt (g.view new).is_clean
    → (HasCleanDisk (state g new) → Keeps g old new) → AreBehind g old last → AreBehind g new last
behind_kept g old new last doubts keeps behind clean up =
    let k = keeps clean in
    let b = behind (omega (arith, doubts)) (k.commit.was_open up) in
    let c : (g.view new).committed ≡ (g.view old).committed = ap (λ (d : Database). d.trees) (k.commit.committed up) in
    record {
      numbered = subst IsTrue (sym k.numbered) b.numbered;
      committed = subst (λ c. IsSaved last c c) (sym c) b.committed;
      marks = subst₂ (λ c ms. AllByRecursion (λ (p : Savepoint). IsSaved last c p.db.trees) ms) (sym c) (sym (k.marks up)) b.marks;
    }
