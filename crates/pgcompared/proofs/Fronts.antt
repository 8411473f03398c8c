-- A frame that lies whole in a piece.
use Rattle.std.proofs.Common.{◌≡◌, ◌≤◌, ◌-◌, ◌+◌, ◌∙◌, ℕ, List, ◌∷◌, ◌++◌, sym, ap, arith}
use Rattle.std.proofs.Common.{length, take, drop}
use Rattle.std.specs.Int.{to_be_bytes, from_be_bytes, w32}
use Rattle.std.proofs.lemmas.List.{length-take-le, take-append-drop, take_at}
use Rattle.std.proofs.lemmas.Nat.{be_bytes_4}
use Rattle.pgwire.proofs.Headers.{IsBytes, IsBytes-take}
use Rattle.pgwire.specs.Frames.{CopyData, frame}

pub number_front : (bytes first others : List ℕ) (n : ℕ) → IsBytes bytes → 4 ≤ length bytes → first ≡ take 4 bytes → others ≡ drop 4 bytes
    → n ≡ from_be_bytes w32 first → bytes ≡ to_be_bytes w32 n ++ others
number_front bytes first others n fits le front back is =
    let same : to_be_bytes w32 n ≡ take 4 bytes =
    be_bytes_4 (take 4 bytes) n (length-take-le 4 bytes le) (IsBytes-take 4 bytes fits) (is ∙ ap (from_be_bytes w32) front) in
    sym (take-append-drop 4 bytes) ∙ ap (λ xs. xs ++ drop 4 bytes) (sym same) ∙ ap (λ xs. to_be_bytes w32 n ++ xs) (sym back)

module _ (piece rest others payload : List ℕ) (n : ℕ) (tag : piece ≡ 100 ∷ rest) (front : rest ≡ to_be_bytes w32 n ++ others)
    (some : 4 ≤ n) (le : n - 4 ≤ length others) (same : payload ≡ take (n - 4) others) where
  pub payload_len : n ≡ length payload + 4
  payload_len =
      let len : length payload ≡ n - 4 = ap (λ (xs : List ℕ). length xs) same ∙ length-take-le (n - 4) others le in
      omega (arith, len, some)

  abbrev whole : List ℕ
  whole = 100 ∷ (to_be_bytes w32 n ++ payload)

  piece_is : piece ≡ whole ++ drop (n - 4) others
  piece_is =
      tag ∙ ap (λ xs. 100 ∷ xs) front
      ∙ ap (λ xs. 100 ∷ (to_be_bytes w32 n ++ xs))
      (sym (take-append-drop (n - 4) others) ∙ ap (λ xs. xs ++ drop (n - 4) others) (sym same))

  pub front_is : take (length payload + 5) piece ≡ frame (CopyData payload)
  front_is =
      let len : length whole ≡ length payload + 5 = omega arith in
      ap (λ (xs : List ℕ). take (length payload + 5) xs) piece_is ∙ take_at whole (drop (n - 4) others) (length payload + 5) len
      ∙ ap (λ k. 100 ∷ (to_be_bytes w32 k ++ payload)) payload_len

  pub front_short : length payload + 5 ≤ length piece
  front_short =
      let all : length piece ≡ length others + 5 = ap (λ (xs : List ℕ). length xs) (tag ∙ ap (λ xs. 100 ∷ xs) front) ∙ omega arith in
      omega (arith, all, le, payload_len)
