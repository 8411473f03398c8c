-- What a seek from an identity on tells of the relation's next row.
use Rattle.std.proofs.Common.{◌≡◌, inl, inr, ℕ, Bool, true, false, not, List, [], ◌∷◌, Some}
use Rattle.std.proofs.Common.{Option, IfSome, refl, sym, ap, subst, ◌∙◌, true≢false}
use Rattle.std.specs.Prelude.{MatchBool, IsSome}
use Rattle.std.specs.Ordering.{is_lt}
use Rattle.std.specs.FinMap.{get}
use Rattle.std.proofs.lemmas.Bool.{not-true}
use Rattle.std.proofs.lemmas.Cmp.{nat_list_cmp_total}
use Rattle.sqlite_value.specs.declared.value.Value.TheVariants.{Blob}
use Rattle.sqlite_value.specs.Order.{Row, column, bytes}
use Rattle.sqlite_value.specs.Keys.{plain, prefix_cmp}
use Rattle.sqlite_trees.specs.declared.store.Direction.TheVariants.{Forward}
use Rattle.sqlite_trees.specs.Tree.{Trees, IsIndex, from_key, order_of, sought}
use Rattle.sqlite_trees.specs.Objects.{catalog_tree, IsListed}
use Rattle.sqlite_trees.specs.View.{View, Advances, IsOrdered, with_cursor}
use Rattle.sqlite_sql.specs.Catalog.{IsIndexOf}
use Rattle.sqlite_rules.specs.Lists.{Has}
use Rattle.sqlite_rules.proofs.ListLemmas.{has_kept}
use Rattle.pgtables.specs.Kept.{AreHeld, Copies, copies_in, key_in, number_in, tables_in}
use Rattle.pgtables.specs.Shown.{FitsCopies}
use Rattle.pgtables.proofs.Maps.{cases_Option, row_got}
use Rattle.pgtables.proofs.HeldRows.{the_map}
use Rattle.pgrows.specs.Dump.{key_at, row_at}
use Rattle.pgrows.specs.Gap.{IsReached}
use Rattle.pgrows.specs.Rows.{IsGood, key_of}
use Rattle.pgrows.specs.Stored.{IsWithin}
use Rattle.pgrows.specs.Walk.{EachFits, EndsAt, HasNoRow, HasRow, IsNextEntry}
use Rattle.pgrows.proofs.SetUp.{indexed, entries_rise}
use Rattle.pgrows.proofs.Seek.{entry, passes, left_is, compared, first_in}
use Rattle.pgrows.proofs.Ordered.{R, same_key, entry_row, row_entry, copies_are}
use Rattle.pgrows.proofs.Found.{given}
use Rattle.pgrows.proofs.Gaps.{inside, some_row, itself, later}

module _ (db : Trees) (held : AreHeld (db 1)) (indexed : IsIndexOf (1 ∷ 2 ∷ []) (db 1) (db 2)) (up : IsIndex plain (db 2)) (o : ℕ)
    (from : List ℕ) where
  -- the entry of each such row is left
  from_left : (r : Row) → Has (db 1) r → (j : List ℕ) → key_in r ≡ o ∷ j → is_lt (R j from) ≡ false
      → Has (from_key plain (key_of o from) (db 2)) (entry r)
  from_left r h j is over =
      let at : is_lt (R (key_in r) (o ∷ from)) ≡ false = ap (λ k. is_lt (R k (o ∷ from))) is ∙ ap is_lt (inside o j from) ∙ over in
      subst (λ l. Has l (entry r)) (sym (left_is o from (db 1) (db 2) held indexed up))
      (has_kept (passes o from (db 1) (db 2) held indexed up) (db 2) (entry r) (row_entry db held indexed up r h)
      (ap not (ap is_lt (compared o from (db 1) (db 2) held indexed up r h) ∙ at)))

  pub none_from : from_key plain (key_of o from) (db 2) ≡ [] → EndsAt o from (tables_in db).rows
  none_from none j over = elim (cases_Option (get (the_map (db 1)) (o ∷ j))) [
    | inl gone ↦ gone
    | inr there ↦
        let r = some_row db held indexed up o from j (subst IsSome (sym there.1) refl) in
        absurd (subst (λ l. Has l (entry r.0)) none (from_left r.0 r.1 j r.2 over))
  ]

  module _ (first : Row) (more : List Row) (left : from_key plain (key_of o from) (db 2) ≡ first ∷ more) where
    -- no such row is before the first entry
    reached : (r : Row) → Has (db 1) r → (j : List ℕ) → key_in r ≡ o ∷ j → is_lt (R j from) ≡ false → IsReached o j first
    reached r h j is over = elim (subst (λ l. Has l (entry r)) left (from_left r h j is over)) [
      | inl same ↦ itself db held indexed up o from first more left r h j is (sym same)
      | inr behind ↦ later db held indexed up o from first more left r h j is behind
    ]

    pub other_from : ¬ IsWithin o first → EndsAt o from (tables_in db).rows
    other_from other j over = elim (cases_Option (get (the_map (db 1)) (o ∷ j))) [
      | inl gone ↦ gone
      | inr there ↦
          let r = some_row db held indexed up o from j (subst IsSome (sym there.1) refl) in
          absurd (other (reached r.0 r.1 j r.2 over).oid_is)
    ]

    pub next_from : IsWithin o first → IsNextEntry o from db first
    next_from within =
        let there = first_in o from (db 1) (db 2) held indexed up first more left in
        let s = entry_row db held indexed up first there.0 in
        let key : key_in s.0 ≡ o ∷ bytes (column first 1) =
        sym (ap key_at s.2) ∙ ap (λ v. number_in v ∷ bytes (column first 1)) within in
        let ident_is : column first 1 ≡ Blob (bytes (column first 1)) =
        let at : column first 1 ≡ Blob (bytes (column s.0 2)) = ap (λ e. column e 1) s.2 ∙ ap (λ x. column x 2) (held.formed s.0 s.1) in
        at ∙ ap (λ e. Blob (bytes (column e 1))) (sym s.2) in
        record {
          listed = there.0;
          ident_is = ident_is;
          row = record {
            not_below = sym (ap is_lt (inside o (bytes (column first 1)) from))
                ∙ ap (λ k. is_lt (R k (o ∷ from))) (sym key)
                ∙ ap is_lt (sym (compared o from (db 1) (db 2) held indexed up s.0 s.1))
                ∙ ap (λ e. is_lt (prefix_cmp plain e (key_of o from))) (sym s.2) ∙ not-true _ there.1;
            there = ap (get (the_map (db 1))) (sym key)
                ∙ row_got nat_list_cmp_total same_key key_in copies_in (db 1) s.0 held.keyed s.1
                ∙ ap Some (sym (copies_are db held indexed up s.0 s.1) ∙ ap (λ e. copies_in (row_at (db 1) e)) (sym s.2));
            first = λ j over below. elim (cases_Option (get (the_map (db 1)) (o ∷ j))) [
              | inl gone ↦ gone
              | inr has ↦
                  let r = some_row db held indexed up o from j (subst IsSome (sym has.1) refl) in
                  let it = reached r.0 r.1 j r.2 over in
                  let same : bytes (column first 1) ≡ it.ident = ap bytes it.ident_is in
                  absurd (true≢false (sym below ∙ ap (λ k. is_lt (R j k)) same ∙ it.not_above))
            ];
          };
        }

-- ---- what a seek and one step of its cursor tell

module _ {old mid : View} (good : IsGood old) (listed : IsListed (old.trees catalog_tree) old.shape old.reals)
    (ordered : IsOrdered old.shape old.trees) (o : ℕ) (i : List ℕ) (key : Row) (key_is : key ≡ key_of o i)
    (placed : mid ≡ with_cursor old 0 (sought (order_of (old.shape 2)) Forward key (old.trees 2))) where
  pub no_entry : (row : Row) (new : View) → Advances mid new 0 row false → EndsAt o i (tables_in old.trees).rows
  no_entry row new h = none_from old.trees good.kept.held (indexed good listed ordered) (entries_rise good listed ordered) o i
      (given good listed ordered o i key key_is placed [] h.0)

  pub an_entry : (row : Row) (new : View) → Advances mid new 0 row true → (within : Bool) → (within ≡ true → IsWithin o row)
      → (IsWithin o row → within ≡ true)
      → MatchBool within (IsNextEntry o i old.trees row) (EndsAt o i (tables_in old.trees).rows)
  an_entry row new h true is back =
      next_from old.trees good.kept.held (indexed good listed ordered) (entries_rise good listed ordered) o i row h.0
      (given good listed ordered o i key key_is placed (row ∷ h.0) h.1) (is refl)
  an_entry row new h false is back =
      other_from old.trees good.kept.held (indexed good listed ordered) (entries_rise good listed ordered) o i row h.0
      (given good listed ordered o i key key_is placed (row ∷ h.0) h.1) (λ within. true≢false (sym (back within)))

-- the row of such an entry fits
pub fits_next : (o : ℕ) (from : List ℕ) (db : Trees) (e : Row) → IsNextEntry o from db e → EachFits o (tables_in db)
    → FitsCopies (copies_in (row_at (db 1) e))
fits_next o from db e next fit =
    subst (λ (k : Option Copies). IfSome k FitsCopies) next.row.there (fit (bytes (column e 1)))

-- ---- whether the relation has a row at all

not_below_none : (p : List ℕ) → is_lt (R p []) ≡ false
not_below_none [] = refl
not_below_none (x ∷ p) = refl

pub any_row : (o : ℕ) (db : Trees) (e : Row) (met : Bool)
    → MatchBool met (IsNextEntry o [] db e) (EndsAt o [] (tables_in db).rows)
    → MatchBool met (HasRow o (tables_in db).rows) (HasNoRow o (tables_in db).rows)
any_row o db e true next = (bytes (column e 1), subst IsSome (sym next.row.there) refl)
any_row o db e false ends = λ ident. ends ident (not_below_none ident)
