-- What a call of an open handle leaves.
use Rattle.std.proofs.Common.{◌≡◌, Option, Some, None, IfSome, is_some, ap, sym, ◌∙◌, subst}
use Rattle.pgsub_c.specs.Held.{Calls}

pub of_some : {X : Type 0} (P : X → Type 0) {o : Option X} (x : X) → o ≡ Some x → P x → IfSome o P
of_some {X} P x is h = subst (λ (o : Option X). IfSome o P) (sym is) h

abbrev is_full : {X : Type 0} → Option X → Type 0
is_full None = ⊥
is_full (Some x) = Unit {0}

some_none : {X : Type 0} (x : X) → Some x ≡ None → ⊥
some_none x e = subst is_full e tt

pub called : {X : Type 0} (does : X → X → Type 0) (told : Type 0) {old new : Option X} (x y : X) → old ≡ Some x → new ≡ Some y → does x y
    → Calls does told old new
called does told {old} {new} x y was is h = record {
  stays_open = ap is_some is ∙ sym (ap is_some was);
  done = of_some (λ a. IfSome new (does a)) x was (of_some (does x) y is h);
  refused = λ none. absurd (some_none x (sym was ∙ none));
}
