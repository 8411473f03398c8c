use Rattle.std.proofs.Common.{◌≡◌, ℕ, List, Result, Ok, Err, ap, ◌∙◌}
use Rattle.std.specs.Prelude.{IfOk}
use Rattle.pgfeed.specs.Texts.{segment_head}
use Rattle.pgfeed.proofs.segments.create_in.Goals as goal

-- the same names
same_head : (base : ℕ) (a b p q x y : List ℕ) → a ≡ b → p ≡ q → x ≡ y → segment_head base a p x ≡ segment_head base b q y
same_head base a b p q x y system database slot =
    ap (λ n. segment_head base n p x) system ∙ ap (λ n. segment_head base b n x) database ∙ ap (λ n. segment_head base b q n) slot

if_ok : {T E : Type 0} {P Q : T → Type 0} (r : Result T E) → ((x : T) → P x → Q x) → IfOk r P → IfOk r Q
if_ok (Ok x) more it = more x it
if_ok (Err e) more it = tt

pub returns-clause-told : goal.returns-clause-told
returns-clause-told g c =
    if_ok c.create.result
    (λ segment told. told ∙ same_head c.args.base _ _ _ _ _ _ c.as_str-system.ensures.value c.as_str-database.ensures.value
    c.as_str.ensures.value) c.create.ensures.told
