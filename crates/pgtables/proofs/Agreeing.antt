-- Rows of held that agree on the key, and rowids that differ.
use Rattle.std.proofs.Common.{◌≡◌, ◌≢◌, inl, inr, ℕ, ℤ, pos, Bool, true, false, List, [], ◌∷◌, Some}
use Rattle.std.proofs.Common.{refl, ap, ◌∙◌, true≢false}
use Rattle.std.specs.Ordering.{is_eq, is_ne, int_cmp}
use Rattle.std.proofs.lemmas.Bool.{cases_Bool}
use Rattle.sqlite.specs.declared.types.Value.{Value}
use Rattle.sqlite.specs.declared.types.Value.TheVariants.{Int}
use Rattle.sqlite.specs.Ops.{binary, is_true, from_truth}
use Rattle.std.proofs.Common.{Ordering, Less, Equal, Greater}
use Rattle.sqlite_value.proofs.OrderLemmas.{value_cmp-Int}
use Rattle.sqlite_value.specs.Keys.{plain, first_key}
use Rattle.sqlite_schema.specs.Rules.{agree, differ}
use Rattle.pgtables.specs.Kept.{Copies, held_row}
use Rattle.pgtables.proofs.Edits.{ints_equal, same_int, int_equal, blob_equal}

pub truth_back : (b : Bool) → is_true (from_truth (Some b)) ≡ b
truth_back true = refl
truth_back false = refl

untied : (o : Ordering) → is_eq o ≡ false → is_ne o ≡ true
untied Less e = refl
untied Equal e = absurd (true≢false e)
untied Greater e = refl

pub ints_differ : (m n : ℤ) → m ≢ n → differ (Int m) (Int n) ≡ true
unfolding binary
ints_differ m n apart =
    let other : is_eq (int_cmp m n) ≡ false = elim (cases_Bool (is_eq (int_cmp m n))) [
      | inl same ↦ absurd (apart (same_int m n (ints_equal m n ∙ same)))
      | inr other ↦ other
    ] in
    truth_back _ ∙ ap is_ne (value_cmp-Int m n) ∙ untied _ other

module _ (id id' : Value) (o o' : ℕ) (i i' : List ℕ) (k k' : Copies) where
  pub agree_same : ◌≡◌ {A = List ℕ} (o ∷ i) (o' ∷ i')
      → agree plain (1 ∷ 2 ∷ []) (held_row id o i k) (1 ∷ 2 ∷ []) (held_row id' o' i' k') ≡ true
  unfolding first_key
  agree_same e = let oid : o ≡ o' = cc in let ident : i ≡ i' = cc in rw (oid, ident, int_equal (pos o'), blob_equal i')
