-- Bytes that are written in several calls.
use Rattle.std.proofs.Common.{◌≡◌, ◌∙◌, ◌++◌, ℕ, List, [], Option, take, drop, refl, sym, ap}
use Rattle.std.proofs.Common.{append_assoc, take-append-drop}
use Rattle.std.proofs.KnownBytes.{Appends-nil, Appends-trans}
use Rattle.std.specs.Io.KnownBytes.{Appends}

-- before the first call
pub none_written : (a : Option (List ℕ)) (bytes : List ℕ) → (front : List ℕ) × (bytes ≡ front ++ bytes) × Appends a a front
none_written a bytes = ([], refl, Appends-nil a)

-- one call more
pub part_written : (a b c : Option (List ℕ)) (bytes rest rest' front : List ℕ) (count : ℕ) → bytes ≡ front ++ rest → Appends a b front
    → Appends b c (take count rest) → rest' ≡ drop count rest
    → (x : List ℕ) × (bytes ≡ x ++ rest') × Appends a c x
part_written a b c bytes rest rest' front count is before one same = (
  front ++ take count rest,
  is ∙ ap (λ bs. front ++ bs) (sym (take-append-drop count rest)) ∙ sym (append_assoc front (take count rest) (drop count rest))
      ∙ ap (λ bs. (front ++ take count rest) ++ bs) (sym same),
  Appends-trans a b c front (take count rest) before one,
)
