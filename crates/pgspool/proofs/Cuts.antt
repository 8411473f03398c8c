-- What a cut leaves.
use Rattle.std.proofs.Common.{◌≡◌, ◌≢◌, ◌+◌, ℕ, true, false, List, [], ◌∷◌, ◌++◌, length, drop, eqb}
use Rattle.std.proofs.Common.{cond, refl, sym, ap, subst, ◌∙◌, arith}
use Rattle.std.proofs.lemmas.List.Sums.{sum_by-append}
use Rattle.std.proofs.lemmas.Bool.Decides.{nat_tests}
use Rattle.pgspool.specs.Labels.{LabelledItem, cut, cost, costs}
use Rattle.pgspool.specs.Laws.{LacksLabel, IsFrontOf, cut_away, CutIsLongestFront}
use Rattle.pgspool.specs.Laws.{CutTwiceIsCutOnce, CutsCommute, CostsNeverGrow, CostsAddUp}

other_label : (x label : ℕ) → eqb x label ≡ false → x ≢ label
other_label x label e = grind (arith, nat_tests)

no_label : (x label : ℕ) → x ≢ label → eqb x label ≡ false
no_label x label h = grind (arith, nat_tests)

pub cut-cons_other : (label : ℕ) (x : LabelledItem) (xs : List LabelledItem) → eqb x.0 label ≡ false → cut label (x ∷ xs) ≡ x ∷ cut label xs
cut-cons_other label x xs e = ap (λ b. cond b [] (x ∷ cut label xs)) e

pub cut-cons_same : (label : ℕ) (x : LabelledItem) (xs : List LabelledItem) → eqb x.0 label ≡ true → cut label (x ∷ xs) ≡ []
cut-cons_same label x xs e = ap (λ b. cond b [] (x ∷ cut label xs)) e

pub cut-append-cut_away : (label : ℕ) (held : List LabelledItem) → cut label held ++ drop (length (cut label held)) held ≡ held
cut-append-cut_away label [] = refl
cut-append-cut_away label (x ∷ xs) =
    elim (eqb x.0 label) as (λ b. cond b [] (x ∷ cut label xs) ++ drop (length (cond b [] (x ∷ cut label xs))) (x ∷ xs) ≡ x ∷ xs) [
      | true ↦ refl
      | false ↦ ap (λ l. x ∷ l) (cut-append-cut_away label xs)
    ]

pub LacksLabel-cut : (label : ℕ) (held : List LabelledItem) → LacksLabel label (cut label held)
LacksLabel-cut label [] = tt
LacksLabel-cut label (x ∷ xs) =
    elim (eqb x.0 label) as (λ b. eqb x.0 label ≡ b → LacksLabel label (cond b [] (x ∷ cut label xs))) [
      | true ↦ λ e. tt
      | false ↦ λ e. (other_label x.0 label e, LacksLabel-cut label xs)
    ] refl

pub longest : (label : ℕ) (held other rest : List LabelledItem) → other ++ rest ≡ held → LacksLabel label other
    → IsFrontOf other (cut label held)
longest label held [] rest e lacks = (cut label held, refl)
longest label [] (o ∷ os) rest e lacks = absurd (cc)
longest label (x ∷ xs) (o ∷ os) rest e lacks =
    let first : o ≡ x = cc in
    let others : os ++ rest ≡ xs = cc in
    let more : IsFrontOf os (cut label xs) = longest label xs os rest others lacks.1 in
    let kept : cut label (x ∷ xs) ≡ x ∷ cut label xs =
    cut-cons_other label x xs (no_label x.0 label (subst (λ (l : LabelledItem). l.0 ≢ label) first lacks.0)) in
    (more.0, (λ i. first i ∷ more.1 i) ∙ sym kept)

pub cut-lacks : (label : ℕ) (held : List LabelledItem) → LacksLabel label held → cut label held ≡ held
cut-lacks label [] h = refl
cut-lacks label (x ∷ xs) h = cut-cons_other label x xs (no_label x.0 label h.0) ∙ ap (λ l. x ∷ l) (cut-lacks label xs h.1)

pub cut_is_longest_front : CutIsLongestFront
cut_is_longest_front label held = record {
  is_front = (cut_away label held, cut-append-cut_away label held);
  lacks = LacksLabel-cut label held;
  longest = λ other front lacks. longest label held other front.0 front.1 lacks;
}

pub cut-cut : CutTwiceIsCutOnce
cut-cut label held = cut-lacks label (cut label held) (LacksLabel-cut label held)

pub cuts_commute : CutsCommute
cuts_commute first second [] = refl
cuts_commute first second (x ∷ xs) =
    elim (eqb x.0 first) as (λ a. eqb x.0 first ≡ a → cut first (cut second (x ∷ xs)) ≡ cut second (cut first (x ∷ xs))) [
      | true ↦ λ a. elim (eqb x.0 second) as (λ b. eqb x.0 second ≡ b
          → cut first (cut second (x ∷ xs)) ≡ cut second (cut first (x ∷ xs))) [
            | true ↦ λ b. ap (cut first) (cut-cons_same second x xs b) ∙ sym (ap (cut second) (cut-cons_same first x xs a))
            | false ↦ λ b. ap (cut first) (cut-cons_other second x xs b) ∙ cut-cons_same first x (cut second xs) a
                ∙ sym (ap (cut second) (cut-cons_same first x xs a))
          ] refl
      | false ↦ λ a. elim (eqb x.0 second) as (λ b. eqb x.0 second ≡ b
          → cut first (cut second (x ∷ xs)) ≡ cut second (cut first (x ∷ xs))) [
            | true ↦ λ b. ap (cut first) (cut-cons_same second x xs b)
                ∙ sym (ap (cut second) (cut-cons_other first x xs a) ∙ cut-cons_same second x (cut first xs) b)
            | false ↦ λ b. ap (cut first) (cut-cons_other second x xs b) ∙ cut-cons_other first x (cut second xs) a
                ∙ ap (λ l. x ∷ l) (cuts_commute first second xs)
                ∙ sym (ap (cut second) (cut-cons_other first x xs a) ∙ cut-cons_other second x (cut first xs) b)
          ] refl
    ] refl

pub costs-append : (front rest : List LabelledItem) → costs (front ++ rest) ≡ costs front + costs rest
costs-append front rest = sum_by-append (λ (l : LabelledItem). cost l.1) front rest

pub costs_add_up : CostsAddUp
costs_add_up label held =
    (cut-append-cut_away label held, sym (costs-append (cut label held) (cut_away label held)) ∙ ap costs (cut-append-cut_away label held))

pub costs_never_grow : CostsNeverGrow
costs_never_grow label held = let sum : costs (cut label held) + costs (cut_away label held) ≡ costs held = (costs_add_up label held).1 in
    omega arith
