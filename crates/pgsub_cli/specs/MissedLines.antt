-- The line that tells how many changes found no row.
use Rattle.std.specs.Prelude.{◌≡◌, ◌⊎◌, ◌++◌, ◌<◌, ◌≤◌, ℕ, List, Some, None, codes, decimal}
use Rattle.pglsn.specs.Texts.{lsn_text}
use Rattle.pgapply.specs.declared.misses.Miss.{Miss}
use Rattle.pgapply.specs.declared.misses.Misses.{Misses}

abbrev pub missed_line : ℕ → Miss → List ℕ
missed_line count first =
    codes "pgsub: rows not found: "
    ++ (decimal count ++ (codes ", first in relation " ++ (decimal first.oid ++ (codes " at " ++ (lsn_text first.end ++ codes "\n")))))

module _ {E : Type 0} (takes : E → List ℕ → E → Type 0) (failed : E → Type 0) where
  -- So many are told, or as many as before where the line couldn't be made or written.
  abbrev pub TellsMissed : ℕ → Miss → ℕ → ℕ → E → E → Type 0
  TellsMissed count first told told' old new =
      ((told' ≡ count) × takes old (missed_line count first) new) ⊎ ((told' ≡ told) × ((new ≡ old) ⊎ failed old))

  -- Where more were counted than are told, they are told, and else nothing is.
  pub record HearsMissed (misses : Misses) (told told' : ℕ) (old new : E) : Type 0 where
    pub more : (first : Miss) → misses.first ≡ Some first → told < misses.count → TellsMissed misses.count first told told' old new
    pub no_more : misses.count ≤ told → (told' ≡ told) × (new ≡ old)
    pub none : misses.first ≡ None → (told' ≡ told) × (new ≡ old)
