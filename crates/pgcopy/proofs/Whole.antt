-- When a text is whole lines so far.
use Rattle.std.proofs.Common.{◌≡◌, ℕ, List, [], ◌∷◌, Bool, true, false, not, cond, Some, None, refl}
use Rattle.std.proofs.Common.{sym, ap, ◌∙◌, length, arith}
use Rattle.std.specs.Prelude.{◌==◌, IsTrue}
use Rattle.std.proofs.lemmas.Bool.Decides.{nat_tests}
use Rattle.pgcopy.specs.declared.fault.Reason.{Reason}
use Rattle.pgcopy.specs.Reading.{Open, Marked, ends, reading}
use Rattle.pgcopy.specs.Copied.{Copied, reading_with, reading_behind}

end_after : (state : Copied) → state.fault ≡ None → (marked : _) → state.marked ≡ marked
    → (reading_behind state []).end ≡ (cond marked (ends (Marked [])) (ends (Open state.held))).end
unfolding reading_behind reading
end_after state none marked m =
    ap (λ fault. (reading_with fault state []).end) none ∙ ap (λ b. (cond b (ends (Marked [])) (ends (Open state.held))).end) m

-- what a test tells of it
abbrev pub Tells : Copied → Bool → Type 0
Tells state b = (IsTrue b → (reading_behind state []).end ≡ Open []) × ((reading_behind state []).end ≡ Open [] → IsTrue b)

pub fault_tells : (state : Copied) (reason : Reason) → state.fault ≡ Some reason → Tells state false
unfolding reading_behind
fault_tells state reason some = (λ is. absurd (cc), λ e. let at = sym (ap (λ fault. (reading_with fault state []).end) some) ∙ e in cc)

pub marker_tells : (state : Copied) → state.fault ≡ None → state.marked ≡ true → Tells state (not state.marked)
marker_tells state none marked =
    (λ is. absurd (let no = ap not (sym marked) ∙ is in cc), λ e. let at = sym (end_after state none true marked) ∙ e in cc)

none_left : (held : List ℕ) → (length held == 0) ≡ true → held ≡ []
none_left [] e = refl
none_left (byte ∷ held) e = absurd (grind (arith, nat_tests))

held_tells : (held : List ℕ) (b : Bool) → b ≡ (length held == 0) → ((b ≡ true) → held ≡ []) × (held ≡ [] → b ≡ true)
held_tells held b e = (λ is. none_left held (sym e ∙ is), λ none. e ∙ ap (λ (it : List ℕ). length it == 0) none)

pub rest_tells : (state : Copied) (b : Bool) → state.fault ≡ None → state.marked ≡ false → b ≡ (length state.held == 0) → Tells state b
rest_tells state b none going e =
    let by = end_after state none false going in
    let held = held_tells state.held b e in
    (λ is. by ∙ ap Open (held.0 is), λ whole. held.1 (let at = sym by ∙ whole in cc))
