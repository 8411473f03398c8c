-- A cursor over the rows of `held`, of which each is given once, and the row of an entry.
use Rattle.std.proofs.Common.{◌≡◌, ◌+◌, ◌⊎◌, inl, inr, ℕ, ℤ, true}
use Rattle.std.proofs.Common.{false, List, [], ◌∷◌, ◌++◌, length}
use Rattle.std.proofs.Common.{refl, sym, ap, subst, ◌∙◌, arith, append_assoc, append-nil}
use Rattle.std.proofs.lemmas.List.{length-append}
use Rattle.sqlite_value.specs.declared.value.Value.TheVariants.{Int}
use Rattle.sqlite_value.specs.declared.keys.Order.{Order}
use Rattle.sqlite_value.specs.Order.{Row, column}
use Rattle.sqlite_trees.specs.Tree.{Trees, from_key, has_rowid}
use Rattle.sqlite_trees.specs.View.{View, Advances, Finds, with_cursor}
use Rattle.sqlite_sql.specs.Catalog.{entry_of}
use Rattle.sqlite_rules.specs.Lists.{Has}
use Rattle.sqlite_rules.proofs.ListLemmas.{has_filtered, has_right}
use Rattle.sqlite_exec.specs.Calls.{OnlyReads}
use Rattle.sqlite_exec.specs.Loops.{left_of}
use Rattle.sqlite_exec.proofs.CheckLemmas as lemma
use Rattle.pgtables.specs.Kept.{Copies, held_row}
use Rattle.pgverify.specs.Seen.{HasGiven, IsHeldRow}

pub begins : (old new : View) (o : Order) (row : Row) → row ≡ [] → new ≡ with_cursor old 1 (from_key o row (old.trees 1))
    → HasGiven new row 0
begins old new o row none is = record {
  given = [];
  all = subst (λ (v : View). left_of v 1 ≡ v.trees 1) (sym is)
      (lemma.placed old 1 _ ∙ ap (λ r. from_key o r (old.trees 1)) none ∙ lemma.from_no_key o (old.trees 1));
  many = refl;
  last = inl none;
}

module _ (old new : View) (row was : Row) (count : ℕ) (given : HasGiven old was count) where
  pub gives : Advances old new 1 row true → HasGiven new row (count + 1)
  gives step =
      let trees : new.trees ≡ old.trees = ap (λ (v : View). v.trees) step.2 in
      let split : given.given ++ row ∷ left_of new 1 ≡ new.trees 1 =
      ap (λ l. given.given ++ l) (sym (lemma.stepped old new 1 row step)) ∙ given.all ∙ sym (ap (λ (t : Trees). t 1) trees) in
      record {
        given = given.given ++ row ∷ [];
        all = append_assoc given.given (row ∷ []) (left_of new 1) ∙ split;
        many = length-append given.given (row ∷ []) ∙ ap (λ n. n + 1) given.many;
        last = inr (subst (λ l. Has l row) split (has_right given.given (row ∷ left_of new 1) row (inl refl)));
      }

  pub stays : (none : Row) → none ≡ [] → Advances old new 1 row false → HasGiven new none count
  stays none is step = subst (λ v. HasGiven v none count) (sym step.1)
      (record { given = given.given; all = given.all; many = given.many; last = inl is })

  pub gave_all : Advances old new 1 row false → count ≡ length (old.trees 1)
  gave_all step =
      let all : given.given ≡ old.trees 1 =
      sym (append-nil given.given) ∙ ap (λ l. given.given ++ l) (sym (lemma.ended old new 1 row step)) ∙ given.all in
      sym given.many ∙ ap length all

-- the other cursor moves
pub still_given : (old new : View) (row : Row) (count : ℕ) (left : List Row) → new ≡ with_cursor old 0 left → HasGiven old row count
    → HasGiven new row count
still_given old new row count left is given = subst (λ v. HasGiven v row count) (sym is)
    (record { given = given.given; all = given.all; many = given.many; last = given.last })

-- a row of the form isn't empty
pub there : {C : Type 0} (accepts : C → ℕ → List ℕ → Copies → Type 0) (check : C) (rows : List Row) (row : Row)
    → IsHeldRow accepts check row → (row ≡ []) ⊎ Has rows row → Has rows row
there accepts check rows row held (inl none) = let is : [] ≡ held_row (Int held.id) held.oid held.ident held.kept = sym none ∙ held.is in cc
there accepts check rows row held (inr has) = has

pub found_there : (rows : List Row) (id : ℤ) (row : Row) → Finds rows id row true → Has rows row
found_there rows id row found = (has_filtered (has_rowid id) rows row (subst (λ l. Has l row) (sym found) (inl refl))).0

-- ---- an entry and its row, column by column

three : (e : Row) → length e ≡ 3 → e ≡ column e 0 ∷ column e 1 ∷ column e 2 ∷ []
three [] len = absurd (omega (arith, len))
three (a ∷ []) len = absurd (omega (arith, len))
three (a ∷ b ∷ []) len = absurd (omega (arith, len))
three (a ∷ b ∷ c ∷ []) len = refl
three (a ∷ b ∷ c ∷ d ∷ e) len = absurd (omega (arith, len))

pub entry_is : (e r : Row) → length e ≡ 3 → column e 2 ≡ column r 0 → column e 0 ≡ column r 1 → column e 1 ≡ column r 2
    → e ≡ entry_of (1 ∷ 2 ∷ []) r
entry_is e r len id oid ident = three e len ∙ (λ i. oid i ∷ ident i ∷ id i ∷ [])

-- ---- beside the other cursor

pub placed_reads : (old new : View) (cursor : ℕ) (es : List Row) → new ≡ with_cursor old cursor es → OnlyReads old new
placed_reads old new cursor es is = is ∙ ap (λ (v : View). let w : View = record old { cursors = v.cursors } in w) (sym is)

-- what a seek with no key leaves for cursor 0
pub sought_all : (old new : View) (o : Order) (key : Row) (es : List Row) → key ≡ [] → new ≡ with_cursor old 0 (from_key o key es)
    → es ≡ left_of new 0
sought_all old new o key es none is = sym
    (ap (λ (v : View). left_of v 0) is ∙ lemma.placed old 0 _ ∙ ap (λ r. from_key o r es) none ∙ lemma.from_no_key o es)
