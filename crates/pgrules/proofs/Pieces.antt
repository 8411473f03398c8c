-- The bytes of pieces.
use Rattle.std.proofs.Common.{◌≡◌, ◌<◌, ◌+◌, ℕ, List, [], ◌∷◌, ◌++◌, length, get_or, take, drop}
use Rattle.std.proofs.Common.{sym, ap, ◌∙◌, append-nil}
use Rattle.std.specs.List.{flat_map}
use Rattle.std.proofs.lemmas.Grind.{flat_map-append}
use Rattle.std.proofs.lemmas.List.{take_more, take-append-drop}

abbrev pub joined : List (List ℕ) → List ℕ
joined pieces = flat_map (λ (piece : List ℕ). piece) pieces

pub joined_more : (pieces : List (List ℕ)) (i : ℕ) (piece : List ℕ) → i < length pieces → get_or pieces i piece ≡ piece
    → joined (take (i + 1) pieces) ≡ joined (take i pieces) ++ piece
joined_more pieces i piece within at =
    ap joined (take_more pieces i piece within ∙ ap (λ (p : List ℕ). take i pieces ++ p ∷ []) at)
    ∙ flat_map-append (λ (p : List ℕ). p) (take i pieces) (piece ∷ [])
    ∙ ap (λ (bytes : List ℕ). joined (take i pieces) ++ bytes) (append-nil piece)

pub joined_all : (pieces : List (List ℕ)) (n : ℕ) → joined (take n pieces) ++ joined (drop n pieces) ≡ joined pieces
joined_all pieces n = sym (flat_map-append (λ (p : List ℕ). p) (take n pieces) (drop n pieces)) ∙ ap joined (take-append-drop n pieces)
