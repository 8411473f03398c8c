-- Taking the rows of a relation out one by one takes them all.
use Rattle.std.proofs.Common.{◌≡◌, ℕ, Bool, true, false, not, List, [], ◌∷◌, Option, None, refl}
use Rattle.std.proofs.Common.{sym, ap, ◌∙◌, eqb-true, eq-eqb, true≢false, cond, nat_cmp}
use Rattle.std.specs.Ordering.{eq_by_cmp}
use Rattle.std.specs.Cmp.Lexicographic.{slice_cmp}
use Rattle.std.specs.FinMap.{FinMap, get, remove, retain_keys, get-remove, get-retain_keys}
use Rattle.std.specs.FinMap.{same_map, nat_cmp-IsAntisymmetric, slice_cmp-IsAntisymmetric}
use Rattle.std.proofs.lemmas.Bool.{false_from_ne_true}
use Rattle.std.proofs.lemmas.Cmp.{nat_list_cmp_total}
use Rattle.sqlite_value.specs.Order.{column}
use Rattle.sqlite_trees.specs.Tree.{Trees}
use Rattle.pgtables.specs.Kept.{AreHeld, Copies, Tables, copies_in, is_of, key_in, number_in}
use Rattle.pgtables.specs.Kept.{tables_in, without_row, without_rows}
use Rattle.pgtables.proofs.Edits.{edited_rows, removed}
use Rattle.pgtables.proofs.Maps.{equal}
use Rattle.pgtables.proofs.HeldRows.{Formed, form_of}
use Rattle.pgrows.specs.Rows.{HasNone}

abbrev other : ℕ → List ℕ → Bool
other o k = not (is_of o k)

-- ---- a row of the relation less makes no difference to the rest

own_key : (o : ℕ) (i : List ℕ) → other o (o ∷ i) ≡ false
own_key o i = ap not (eq-eqb o o refl)

skipped : (b p : Bool) (x : Option Copies) → (b ≡ true → p ≡ false) → cond p (cond b None x) None ≡ cond p x None
skipped true true x h = absurd (true≢false (h refl))
skipped true false x h = refl
skipped false p x h = refl

less_one : (o : ℕ) (i : List ℕ) (m : FinMap (slice_cmp nat_cmp) Copies) → retain_keys (remove m (o ∷ i)) (other o) ≡ retain_keys m (other o)
less_one o i m = same_map nat_list_cmp_total (slice_cmp-IsAntisymmetric nat_cmp-IsAntisymmetric) _ _ (λ q.
    get-retain_keys (remove m (o ∷ i)) (other o) q (λ x tie. ap (other o) (sym (slice_cmp-IsAntisymmetric nat_cmp-IsAntisymmetric q x tie)))
    ∙ ap (λ x. cond (other o q) x None) (get-remove nat_list_cmp_total m (o ∷ i) q)
    ∙ skipped (eq_by_cmp (slice_cmp nat_cmp) q (o ∷ i)) (other o q) (get m q)
    (λ tie. ap (other o) (slice_cmp-IsAntisymmetric nat_cmp-IsAntisymmetric q (o ∷ i) (equal _ tie)) ∙ own_key o i)
    ∙ sym (get-retain_keys m (other o) q (λ x tie. ap (other o) (sym (slice_cmp-IsAntisymmetric nat_cmp-IsAntisymmetric q x tie)))))

pub one_less : (o : ℕ) (i : List ℕ) (t : Tables) → without_rows o (without_row o i t) ≡ without_rows o t
one_less o i t = ap (λ m. let u : Tables = record t { rows = m } in u) (less_one o i t.rows)

-- ---- where none is left, nothing goes

pub none_of_it : (o : ℕ) (db : Trees) → AreHeld (db 1) → HasNone o (db 1) → tables_in db ≡ without_rows o (tables_in db)
none_of_it o db held none =
    let rows = db 1 in
    let it = removed nat_list_cmp_total (slice_cmp-IsAntisymmetric nat_cmp-IsAntisymmetric) key_in copies_in Formed rows rows [] (other o)
    (form_of _ held)
    (edited_rows rows [] [] refl)
    (λ x h l. ap not (false_from_ne_true _ (λ is. none x h (sym (eqb-true o (number_in (column x 1)) is)))))
    (λ x h keeps id has. absurd has) in
    ap (λ m. let u : Tables = record (tables_in db) { rows = m } in u) it.1
