-- Calls on a ledger, one after the other.
use Rattle.std.proofs.Common.{◌∙◌, ℕ, List, Bool, refl}
use Rattle.pgledger.specs.Entries.{Entry}
use Rattle.pgledger.specs.Ledgers.{Rests, Syncs}

module _ {L : Type 0} (begins : L → ℕ) (is_wanting is_hearing : L → Bool) (outlasts : L → ℕ → Type 0) (reopens : L → ℕ → L → Type 0) where
  pub rests_same : (a : L) → Rests begins is_wanting is_hearing outlasts reopens a a
  rests_same a = record { begins_is = refl; wanting_is = refl; hearing_is = refl; outlasts_more = λ p h. h; reopens_less = λ p other h. h }

  pub rests_then : (a b c : L) → Rests begins is_wanting is_hearing outlasts reopens a b
      → Rests begins is_wanting is_hearing outlasts reopens b c
      → Rests begins is_wanting is_hearing outlasts reopens a c
  rests_then a b c one two = record {
    begins_is = two.begins_is ∙ one.begins_is;
    wanting_is = two.wanting_is ∙ one.wanting_is;
    hearing_is = two.hearing_is ∙ one.hearing_is;
    outlasts_more = λ p h. two.outlasts_more p (one.outlasts_more p h);
    reopens_less = λ p other h. one.reopens_less p other (two.reopens_less p other h);
  }

  -- what outlasts a crash does so after another call
  pub syncs_then : (keeps : L → List Entry → Type 0) (a b c : L) → Syncs keeps begins outlasts a b
      → Rests begins is_wanting is_hearing outlasts reopens b c → Syncs keeps begins outlasts a c
  syncs_then keeps a b c syncs rests es kept = rests.outlasts_more _ (syncs es kept)
