use Rattle.std.proofs.Common.{◌<◌, ℕ, List, [], length, refl, arith}
use Rattle.pgembed.specs.Passed.{IsPassed}
use Rattle.pgembed.proofs.passing.pass_text.Goals as goal

none_below : (n : ℕ) → n < 0 → ⊥
none_below n h = omega (arith, h)

nothing_passed : (room : List ℕ) → IsPassed [] room room 0 0
nothing_passed room = record {
  length_is = refl;
  fits = λ h. (refl, refl);
  short = λ h. absurd (none_below (length room) h);
}

pub returns-in_default : goal.returns-in_default
returns-in_default g c = ([], 0, nothing_passed c.args.room.now)
