-- Calls one after the other.
use Rattle.std.proofs.Common.{refl, ◌∙◌, inl, arith}
use Rattle.sqlite.specs.State.{HasCleanDisk, Survives}
use Rattle.sqlite.specs.Store.{Ghosts}
use Rattle.sqlite.proofs.StateLemmas.{survives_then}
use Rattle.pgrows.specs.Rows.{Keeps, state}
use Rattle.pgencoded.specs.Acts.{Goes}

pub goes_none : {S : Type 0} (g : Ghosts S) (a : S) → Goes g a a
goes_none g a = record {
  keeps = λ clean. record {
    commit = record { was_open = λ still. still; committed = λ still. refl };
    marks = λ still. refl;
    numbered = refl;
  };
  survives = record {
    clean = omega arith;
    shield = λ h. h;
    counts = omega arith;
    limit = refl;
    closes = λ clean h. inl h;
    crash = λ clean db h. inl h;
  };
}

module _ {S : Type 0} (g : Ghosts S) (a b c : S) where
  pub goes_then : Goes g a b → (HasCleanDisk (state g c) → Keeps g b c) → Survives (state g b) (state g c) (λ _. ⊥) → Goes g a c
  goes_then one keeps survives = record {
    keeps = λ clean.
        let first = one.keeps (omega (arith, survives.clean)) in
        let second = keeps clean in
        record {
          commit = record {
            was_open = λ still. first.commit.was_open (second.commit.was_open still);
            committed = λ still. second.commit.committed still ∙ first.commit.committed (second.commit.was_open still);
          };
          marks = λ still. second.marks still ∙ first.marks (second.commit.was_open still);
          numbered = second.numbered ∙ first.numbered;
        };
    survives = survives_then (state g a) (state g b) (state g c) _ _ (λ _. ⊥) (λ _ db none. none) (λ _ db none. none) one.survives survives;
  }
