-- Marks, rollbacks and commits keep what holds between calls.
use Rattle.std.proofs.Common.{◌≡◌, ◌≢◌, ◌⊎◌, inl, inr, ℕ, zero, suc, ℤ, ◌<◌, ◌-◌, ◌++◌, false, List}
use Rattle.std.proofs.Common.{[], ◌∷◌, map, length, take, get_or, Option, Some, None, IsTrue, refl}
use Rattle.std.proofs.Common.{sym, ap, subst, subst₂, ◌∙◌, arith}
use Rattle.std.specs.List.{AllByRecursion}
use Rattle.std.proofs.lemmas.List.{map-append}
use Rattle.sqlite.specs.State.{Savepoint}
use Rattle.sqlite.specs.Store.{Ghosts}
use Rattle.sqlite_trees.specs.Tree.{Trees}
use Rattle.sqlite_trees.specs.View.{Commits, GoesBack, IsClean, IsRolledBack, Marks, Releases}
use Rattle.sqlite_trees.specs.View.{Snapshot, View, newest, snapshot}
use Rattle.sqlite_trees.proofs.ListLemmas.{all-get_or}
use Rattle.pgtables.specs.Kept.{IsKept}
use Rattle.pgrows.specs.Rows as said
use Rattle.pgrows.specs.Rows.{AreLow, GoesOn, IsBehind, IsGood, IsSaved, IsUnder, database, mark_of}
use Rattle.pgrows.specs.Rows.{saved_in, shown_mark, state}

-- ---- lists of marks

all_pushed : {X : Type 0} (P : X → Type 0) (xs : List X) (x : X) → AllByRecursion P xs → P x → AllByRecursion P (xs ++ x ∷ [])
all_pushed P [] x all last = (last, tt)
all_pushed P (y ∷ xs) x all last = (all.0, all_pushed P xs x all.1 last)

all_taken : {X : Type 0} (P : X → Type 0) (n : ℕ) (xs : List X) → AllByRecursion P xs → AllByRecursion P (take n xs)
all_taken P zero xs all = tt
all_taken P (suc n) [] all = tt
all_taken P (suc n) (x ∷ xs) all = (all.0, all_taken P n xs all.1)

map_taken : {X Y : Type 0} (f : X → Y) (n : ℕ) (xs : List X) → map f (take n xs) ≡ take n (map f xs)
map_taken f zero xs = refl
map_taken f (suc n) [] = refl
map_taken f (suc n) (x ∷ xs) = ap (λ l. f x ∷ l) (map_taken f n xs)

map_long : {X Y : Type 0} (f : X → Y) (xs : List X) → length (map f xs) ≡ length xs
map_long f [] = refl
map_long f (x ∷ xs) = ap suc (map_long f xs)

all_unmapped : {X Y : Type 0} (P : Y → Type 0) (f : X → Y) (xs : List X) → AllByRecursion P (map f xs) → AllByRecursion (λ x. P (f x)) xs
all_unmapped P f [] all = tt
all_unmapped P f (x ∷ xs) all = (all.0, all_unmapped P f xs all.1)

none_pushed : {X : Type 0} (older : List X) (x : X) → [] ≡ older ++ x ∷ [] → ⊥
none_pushed [] x e = absurd (cc)
none_pushed (y ∷ older) x e = absurd (cc)

some_long : {X : Type 0} (xs : List X) → xs ≢ [] → length xs - 1 < length xs
some_long [] some = absurd (some refl)
some_long (x ∷ xs) some = omega arith

-- the newest mark is the last of those that are shown
newest_is : (ms : List Snapshot) (d : Snapshot) (older : List Savepoint) (mark : Savepoint) → map shown_mark ms ≡ older ++ mark ∷ []
    → shown_mark (get_or ms (length ms - 1) d) ≡ mark
newest_is [] d older mark h = absurd (none_pushed older mark h)
newest_is (m ∷ []) d [] mark h = cc
newest_is (m ∷ []) d (x ∷ older) mark h =
    absurd (none_pushed older mark (let e : ◌≡◌ {A = List Savepoint} [] (older ++ mark ∷ []) = cc in e))
newest_is (m ∷ n ∷ ms) d [] mark h = absurd (cc)
newest_is (m ∷ n ∷ ms) d (x ∷ older) mark h =
    let later : map shown_mark (n ∷ ms) ≡ older ++ mark ∷ [] = cc in
    let at : length (m ∷ n ∷ ms) - 1 ≡ suc (length (n ∷ ms) - 1) = omega arith in
    ap (λ k. shown_mark (get_or (m ∷ n ∷ ms) k d)) at ∙ newest_is (n ∷ ms) d older mark later

-- ---- views

low_self : (last : Option ℤ) (c db : Trees) → AreLow last c (db 1) → AreLow last db (db 1)
low_self None c db h = refl
low_self (Some n) c db h = h

pub marked_under : (old new : View) (last : Option ℤ) → Marks old new → IsUnder old last → IsUnder new last
marked_under old new last marks under =
    let here : IsSaved last old.committed old.trees = record { kept = under.good.kept; below = under.below } in
    let all = all_pushed (λ (p : Savepoint). IsSaved last old.committed p.db.trees) (saved_in old) (shown_mark (snapshot old))
    under.behind.marks here in
    let marked : View = record old { marks = old.marks ++ snapshot old ∷ [] } in
    let it : IsUnder marked last = record {
      good = record { unbroken = under.good.unbroken; kept = under.good.kept };
      below = under.below;
      behind = record {
        numbered = under.behind.numbered;
        committed = under.behind.committed;
        marks = subst (AllByRecursion (λ (p : Savepoint). IsSaved last old.committed p.db.trees))
            (sym (map-append shown_mark old.marks (snapshot old ∷ []))) all;
      };
    } in
    subst (λ v. IsUnder v last) (sym marks.is) it

pub released_under : (old new : View) (last : Option ℤ) → Releases old new → IsUnder old last → IsUnder new last
released_under old new last is under =
    let n = length old.marks - 1 in
    let all = all_taken (λ (p : Savepoint). IsSaved last old.committed p.db.trees) n (saved_in old) under.behind.marks in
    let released : View = record old { marks = take n old.marks } in
    let it : IsUnder released last = record {
      good = record { unbroken = under.good.unbroken; kept = under.good.kept };
      below = under.below;
      behind = record {
        numbered = under.behind.numbered;
        committed = under.behind.committed;
        marks = subst (AllByRecursion (λ (p : Savepoint). IsSaved last old.committed p.db.trees)) (sym (map_taken shown_mark n old.marks))
            all;
      };
    } in
    subst (λ v. IsUnder v last) (sym is) it

pub went_back_under : (old new : View) (last : Option ℤ) → old.marks ≢ [] → GoesBack old new → IsBehind old last → IsUnder new last
went_back_under old new last some back behind =
    let saved : IsSaved last old.committed (newest old).trees =
    all-get_or (λ (m : Snapshot). IsSaved last old.committed m.trees) old.marks (length old.marks - 1) (snapshot old)
    (all_unmapped (λ (p : Savepoint). IsSaved last old.committed p.db.trees) shown_mark old.marks behind.marks)
    (some_long old.marks some) in
    let gone : View = record old
    { trees = (newest old).trees; shape = (newest old).shape; reals = (newest old).reals; cursors = new.cursors; is_broken = false } in
    let it : IsUnder gone last = record {
      good = record { unbroken = refl; kept = saved.kept };
      below = saved.below;
      behind = record { numbered = behind.numbered; committed = behind.committed; marks = behind.marks };
    } in
    subst (λ v. IsUnder v last) (sym back.is) it

pub rolled_under : (old new : View) (last : Option ℤ) → IsClean new → IsTrue new.is_open → IsRolledBack old new → IsTrue new.is_numbered
    → IsSaved last old.committed old.committed → IsUnder new last
rolled_under old new last clean up back numbered saved =
    let undone = back.undone up in
    let kept = back.kept clean in
    let committed : new.committed ≡ old.committed = kept.committed up in
    let marks : new.marks ≡ [] = kept.marks up in
    record {
      good = record { unbroken = undone.1; kept = subst (λ db. IsKept (database db)) (sym undone.0) saved.kept };
      below = subst₂ (λ c (db : Trees). AreLow last c (db 1)) (sym committed) (sym undone.0) saved.below;
      behind = record {
        numbered = numbered;
        committed = subst (λ c. IsSaved last c c) (sym committed) saved;
        marks = subst (λ ms. AllByRecursion (λ (p : Savepoint). IsSaved last new.committed p.db.trees) (map shown_mark ms)) (sym marks) tt;
      };
    }

pub committed_under : (old new : View) (last : Option ℤ) → Commits old new → IsUnder old last → IsUnder new last
committed_under old new last commits under =
    let low = low_self last old.committed old.trees under.below in
    let done : View = record old
    { committed = old.trees; committed_shape = old.shape; committed_reals = old.reals; marks = []; cursors = new.cursors } in
    let it : IsUnder done last = record {
      good = record { unbroken = under.good.unbroken; kept = under.good.kept };
      below = low;
      behind = record { numbered = under.behind.numbered; committed = record { kept = under.good.kept; below = low }; marks = tt };
    } in
    subst (λ v. IsUnder v last) (sym commits.is) it

-- ---- what a caller sees

module _ {S : Type 0} (g : Ghosts S) (old new : S) where
  pub shows_marked : IsTrue (g.view old).is_open → Marks (g.view old) (g.view new) → said.Marks (state g old) (state g new)
  shows_marked up marks = record {
    was_open = up;
    is_open = ap (λ (v : View). v.is_open) marks.is ∙ up;
    now_is = ap (λ (v : View). database v.trees) marks.is;
    committed_is = ap (λ (v : View). database v.committed) marks.is;
    marks_are = ap saved_in marks.is ∙ map-append shown_mark (g.view old).marks (snapshot (g.view old) ∷ []);
  }

  pub shows_released : IsTrue (g.view old).is_open → Releases (g.view old) (g.view new) → said.Drops (state g old) (state g new)
  shows_released up is = record {
    was_open = up;
    is_open = ap (λ (v : View). v.is_open) is ∙ up;
    now_is = ap (λ (v : View). database v.trees) is;
    committed_is = ap (λ (v : View). database v.committed) is;
    marks_are = ap saved_in is ∙ map_taken shown_mark (length (g.view old).marks - 1) (g.view old).marks
        ∙ ap (λ n. take (n - 1) (saved_in (g.view old))) (sym (map_long shown_mark (g.view old).marks));
  }

  pub shows_back : GoesBack (g.view old) (g.view new) → said.GoesBack (state g old) (state g new)
  shows_back back older mark is = record {
    was_open = back.was_open;
    is_open = ap (λ (v : View). v.is_open) back.is ∙ back.was_open;
    now_is = ap (λ (v : View). database v.trees) back.is
        ∙ ap (λ (p : Savepoint). p.db) (newest_is (g.view old).marks (snapshot (g.view old)) older mark is);
    committed_is = ap (λ (v : View). database v.committed) back.is;
    marks_are = ap saved_in back.is;
  }

-- marks that are shown are there
pub some_marks : (v : View) → saved_in v ≢ [] → v.marks ≢ []
some_marks v some none = some (ap (map shown_mark) none)

pub some_shown : (v : View) (older : List Savepoint) (mark : Savepoint) → saved_in v ≡ older ++ mark ∷ [] → v.marks ≢ []
some_shown v older mark is none = none_pushed older mark (ap (map shown_mark) (sym none) ∙ is)

list_cases : {X : Type 0} (xs : List X) → (xs ≡ []) ⊎ (xs ≢ [])
list_cases [] = inl refl
list_cases (x ∷ xs) = inr (λ e. cc)

-- who goes back was open
pub back_open : (old new : View) → (old.marks ≢ [] → GoesBack old new) → (old.marks ≡ [] → new ≡ old) → IsTrue new.is_open
    → IsTrue old.is_open
back_open old new back same up = elim (list_cases old.marks) [
  | inl none ↦ subst IsTrue (ap (λ (v : View). v.is_open) (same none)) up
  | inr some ↦ (back some).was_open
]
