-- How far the sessions are, part after part.
use Rattle.std.proofs.Common.{◌≡◌, ◌++◌, ◌∙◌, List, [], ◌∷◌, ℕ, Bool, true, false, cond, refl, sym}
use Rattle.std.proofs.Common.{ap}
use Rattle.std.proofs.Common.{append_assoc}
use Rattle.pgsub_core.specs.Subscriber.SubscriberValue.{SubscriberValue}
use Rattle.pgfollow.specs.Live.{Step}
use Rattle.pgfollow.specs.Told.{sessions_from, session_start}

-- Those that have ended; and of the one under way the subscriber at its start, and its bytes.
pub record Sofar (C : Type 0) : Type 0 where
  pub ended : List (List ℕ)
  pub from : SubscriberValue C
  pub begun : List ℕ

abbrev pub with_by : {C : Type 0} → Bool → Sofar C → Step C → Sofar C
with_by ends s step =
    cond ends (record { ended = s.ended ++ (s.begun ++ step.part) ∷ []; from = step.after; begun = [] })
    (record { ended = s.ended; from = s.from; begun = s.begun ++ step.part })

abbrev pub with_parts : {C : Type 0} → Sofar C → List (Step C) → Sofar C
with_parts s [] = s
with_parts s (step ∷ steps) = with_parts (with_by step.ends s step) steps

abbrev pub GoesOn : {C : Type 0} → Sofar C → List (Step C) → List ℕ → List (List ℕ) → Type 0
GoesOn s steps bytes front = (later : List (List ℕ)) × ((with_parts s steps).ended ++ bytes ∷ [] ≡ front ++ later)

-- behind the sessions that have ended come others
pub go_on : {C : Type 0} (steps : List (Step C)) (s : Sofar C) (bytes : List ℕ) → GoesOn s steps bytes s.ended
go_on [] s bytes = (bytes ∷ [], refl)
go_on {C} (step ∷ steps) s bytes = by_end step.ends (λ ends. go_on steps (with_by ends s step) bytes)
  where
    by_end : (ends : Bool) → ((any : Bool) → GoesOn (with_by any s step) steps bytes (with_by any s step).ended)
        → GoesOn (with_by ends s step) steps bytes s.ended
    by_end true rest =
        let later : GoesOn (with_by true s step) steps bytes (with_by true s step).ended = rest true in
        ((s.begun ++ step.part) ∷ later.0, later.1 ∙ append_assoc s.ended ((s.begun ++ step.part) ∷ []) later.0)
    by_end false rest = rest false

abbrev pub AreSame : {C : Type 0} → Sofar C → List (Step C) → List ℕ → List (List ℕ) → Type 0
AreSame s steps pending sessions = sessions ≡ (with_parts s steps).ended ++ ((with_parts s steps).begun ++ pending) ∷ []

pub same_sessions : {C : Type 0} (steps : List (Step C)) (s : Sofar C) (pending : List ℕ)
    → AreSame s steps pending (s.ended ++ sessions_from s.begun steps pending)
same_sessions [] s pending = refl
same_sessions {C} (step ∷ steps) s pending = by_end step.ends (λ ends. same_sessions steps (with_by ends s step) pending)
  where
    by_end : (ends : Bool)
        → ((any : Bool)
        → AreSame (with_by any s step) steps pending ((with_by any s step).ended ++ sessions_from (with_by any s step).begun steps pending))
        → AreSame (with_by ends s step) steps pending (s.ended
        ++ cond ends ((s.begun ++ step.part) ∷ sessions_from [] steps pending) (sessions_from (s.begun ++ step.part) steps pending))
    by_end true rest = sym (append_assoc s.ended ((s.begun ++ step.part) ∷ []) (sessions_from [] steps pending)) ∙ rest true
    by_end false rest = rest false

pub same_from : {C : Type 0} (steps : List (Step C)) (s : Sofar C) → (with_parts s steps).from ≡ session_start s.from steps
same_from [] s = refl
same_from {C} (step ∷ steps) s = by_end step.ends (λ ends. same_from steps (with_by ends s step))
  where
    by_end : (ends : Bool)
        → ((any : Bool) → (with_parts (with_by any s step) steps).from ≡ session_start (with_by any s step).from steps)
        → (with_parts (with_by ends s step) steps).from ≡ session_start (cond ends step.after s.from) steps
    by_end true rest = rest true
    by_end false rest = rest false

pub same_last : (a b : List (List ℕ)) (x y : List ℕ) → a ++ x ∷ [] ≡ b ++ y ∷ [] → (a ≡ b) × (x ≡ y)
same_last [] [] x y e = (refl, cc)
same_last [] (c ∷ []) x y e = absurd (cc)
same_last [] (c ∷ d ∷ b) x y e = absurd (cc)
same_last (c ∷ []) [] x y e = absurd (cc)
same_last (c ∷ d ∷ a) [] x y e = absurd (cc)
same_last (c ∷ a) (d ∷ b) x y e =
    let rest = same_last a b x y (cc) in
    let first : c ≡ d = cc in
    (ap (λ (l : List (List ℕ)). c ∷ l) rest.0 ∙ ap (λ (l : List ℕ). l ∷ b) first, rest.1)
