-- Rows that can't be carried over have too many copies at one identity.
use Rattle.std.proofs.Common.{◌≡◌, ◌≤◌, ◌<◌, ◌+◌, ℕ, List, [], ◌∷◌, Bool, true, false, Option, Some}
use Rattle.std.proofs.Common.{None, Result, Ok, Err, refl, sym, ap, subst, ◌∙◌, inl, inr, arith}
use Rattle.std.specs.Prelude.{◌⊎◌, if◌then◌else◌, nat_lt, ◌&&◌}
use Rattle.std.specs.List.{AllByRecursion}
use Rattle.std.specs.Ordering.{nat_cmp, eq_by_cmp, is_eq}
use Rattle.std.specs.Cmp.Lexicographic.{slice_cmp, nat_list_cmp_total}
use Rattle.std.specs.FinMap as map
use Rattle.std.specs.FinMap.{get-empty}
use Rattle.std.proofs.lemmas.Bool.{and_parts}
use Rattle.std.proofs.lemmas.Bool.Decides.{nat_tests}
use Rattle.std.proofs.lemmas.Cmp.{tied_itself}
use Rattle.pglogical.specs.declared.message.RelationDef.{RelationDef}
use Rattle.pgrel.specs.Identity.{keyed, same_shape}
use Rattle.pgapply.specs.declared.op.Op.{Op}
use Rattle.pgapply.specs.declared.fault.StoreFault.{StoreFault}
use Rattle.pgapply.specs.declared.fault.StoreFault.TheVariants.{Clash, TooManyCopies}
use Rattle.pgapply.specs.Value.{Row, Rows, Table, IsRow, AreRows, identity_key, most_copies}
use Rattle.pgapply.specs.Apply.{◌>>=◌, joined, moved, carry_row, carry_rows, found_rows}
use Rattle.pgapply.specs.Apply.{is_truncate}
use Rattle.pgapply.specs.CarriedCopies.{copies_of, copies_at, copies_to, Exceeds}
use Rattle.pgapply.proofs.KeepsForm.{no_rows, all_rows, carry_row_keeps}
use Rattle.pgapply.proofs.ChangedShapes.{found_changed, carried_whole}
use Rattle.pgapply.proofs.AddingUp.{joined_adds}

same_err : {A : Type 0} (j k : StoreFault) → ◌≡◌ {A = Result A StoreFault} (Err j) (Err k) → j ≡ k
same_err j k e = cc

refuses : {A : Type 0} (b : Bool) (k f : StoreFault) (y : Result A StoreFault) → (if b then Err k else y) ≡ Err f
    → ((b ≡ true) × (f ≡ k)) ⊎ ((b ≡ false) × (y ≡ Err f))
refuses true k f y e = inl (refl, sym (same_err k f e))
refuses false k f y e = inr (refl, e)

no_err : {A : Type 0} (a : A) (f : StoreFault) → ◌≡◌ {A = Result A StoreFault} (Ok a) (Err f) → ⊥
no_err a f e = cc

more_exceeds : (def : RelationDef) (f : StoreFault) (n m : ℕ) → n ≤ m → Exceeds def f n → Exceeds def f m
more_exceeds def f n m le (inl clash) = let less = clash.2 in inl (clash.0, clash.1, omega arith)
more_exceeds def f n m le (inr many) = let less = many.2 in inr (many.0, many.1, omega arith)

above : (m n : ℕ) → nat_lt m n ≡ true → m < n
above m n e = grind (arith, nat_tests)

two_above : (m n : ℕ) → 1 ≤ m → 1 ≤ n → 1 < m + n
two_above m n a b = omega arith

joined_exceeds : (def : RelationDef) (row : Row) (rows : Rows) (f : StoreFault) (there : Option Row)
    → ((other : Row) → there ≡ Some other → 1 ≤ other.copies) → 1 ≤ row.copies → joined def row rows there ≡ Err f
    → Exceeds def f (copies_of there + row.copies)
joined_exceeds def row rows f None each some e = elim (refuses (keyed def && nat_lt 1 row.copies) Clash f _ e) [
  | inl clash ↦
      let parts = and_parts (keyed def) (nat_lt 1 row.copies) clash.0 in
      let less = above 1 row.copies parts.1 in
      inl (clash.1, parts.0, omega (arith, less))
  | inr ok ↦ absurd (no_err _ f ok.1)
]
joined_exceeds def row rows f (Some other) each some e = elim (refuses (keyed def) Clash f _ e) [
  | inl clash ↦ inl (clash.1, clash.0, two_above other.copies row.copies (each other refl) some)
  | inr bag ↦ elim (refuses (nat_lt most_copies (other.copies + row.copies)) TooManyCopies f _ bag.1) [
    | inl many ↦ inr (many.1, bag.0, above most_copies (other.copies + row.copies) many.0)
    | inr ok ↦ absurd (no_err _ f ok.1)
  ]
]

carry_exceeds : (old new : RelationDef) (entries : List (List ℕ × Row)) (rows : Rows) (f : StoreFault)
    → AllByRecursion (λ (e : List ℕ × Row). IsRow old e.0 e.1) entries → AreRows new rows → carry_rows old new entries rows ≡ Err f
    → (place : List ℕ) × Exceeds new f (copies_at rows place + copies_to old new place entries)
unfolding carry_rows
carry_exceeds old new [] rows f each h e = absurd (no_err rows f e)
carry_exceeds old new (entry ∷ more) rows f each h e =
    go (carry_row old new entry.1 rows) refl e
    (λ next is. carry_exceeds old new more next f each.1 (carry_row_keeps old new entry.0 entry.1 rows next each.0 h is))
  where
    go : (r : Result Rows StoreFault) → carry_row old new entry.1 rows ≡ r → (r >>= carry_rows old new more) ≡ Err f
        → ((next : Rows) → carry_row old new entry.1 rows ≡ Ok next → carry_rows old new more next ≡ Err f
        → (place : List ℕ) × Exceeds new f (copies_at next place + copies_to old new place more))
        → (place : List ℕ) × Exceeds new f (copies_at rows place + copies_to old new place (entry ∷ more))
    go (Ok next) is e rest =
        let later = rest next is e in
        let here = joined_adds new (moved old new entry.1) rows next _ refl is later.0 in
        (later.0, more_exceeds new f _ _ (omega (arith, here)) later.1)
    go (Err k) is e rest =
        let key = identity_key new (moved old new entry.1).cells in
        let here = joined_exceeds new (moved old new entry.1) rows k (map.get rows key) (λ other at. (h key other at).some) each.0.some
        is in
        let tied : eq_by_cmp (slice_cmp nat_cmp) key key ≡ true = ap is_eq (tied_itself nat_list_cmp_total key) in
        let counted : (if eq_by_cmp (slice_cmp nat_cmp) key key then entry.1.copies else 0) ≡ entry.1.copies =
        ap (λ b. if b then entry.1.copies else 0) tied in (
          key,
          subst (λ k. Exceeds new k (copies_at rows key + copies_to old new key (entry ∷ more))) (same_err k f e)
              (more_exceeds new k (copies_at rows key + entry.1.copies) _ (omega (arith, counted)) here),
        )

pub carrying_has_causes : (table : Table) (new : RelationDef) (op : Op) (f : StoreFault) → AreRows table.definition table.rows
    → same_shape table.definition new ≡ false → is_truncate op ≡ false → found_rows (Some table) new op ≡ Err f
    → (place : List ℕ) × Exceeds new f (copies_to table.definition new place (map.entries table.rows))
carrying_has_causes table new op f h other stays e =
    let carried = sym (found_changed table new op other ∙ carried_whole table new op stays) ∙ e in
    let it = carry_exceeds table.definition new (map.entries table.rows) map.empty f (all_rows table.definition table.rows h) (no_rows new)
    carried in
    let none : copies_at map.empty it.0 ≡ 0 = ap copies_of (get-empty (slice_cmp nat_cmp) it.0) in
    (it.0, more_exceeds new f _ _ (omega (arith, none)) it.1)
