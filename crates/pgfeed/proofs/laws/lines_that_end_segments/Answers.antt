use Rattle.std.proofs.Common.{◌≡◌, ℕ, List, ap, refl, arith, get_or}
use Rattle.pgfeed.specs.Cutting.Widths.{closing_length, padded_length}
use Rattle.pgfeed.specs.Texts.{closing_object}
use Rattle.pgfeed.proofs.laws.lines_that_end_segments.Goals as goal

-- an l is no e
other_letter : (a b : ℕ) → a ≡ b → a ≡ 108 → b ≡ 101 → ⊥
other_letter a b same l e = absurd (omega arith)

pub returns-clause-size : goal.returns-clause-size
returns-clause-size c = λ last small. padded_length 256 (closing_object last) (closing_length last small)

pub returns-clause-apart : goal.returns-clause-apart
returns-clause-apart c = λ last at mark rest begins. other_letter _ _ (ap (λ (text : List ℕ). get_or text 2 0) begins.line) refl refl
