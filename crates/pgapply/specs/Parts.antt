-- The changes of a commit that come part after part.

-- Calls lead from one state to another, one after the other, and none makes a state honest.
pub record AreSteps {P : Type 0} (leads : P → P → Type 0) (is_honest : P → Type 0) : Type 0 where
  pub none : (p : P) → leads p p
  pub more : (p q r : P) → leads p q → leads q r → leads p r
  pub honest : (p q : P) → leads p q → is_honest q → is_honest p
