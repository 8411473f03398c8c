-- Parts of a file beside a write.
use Rattle.std.proofs.Common.{◌≡◌, ◌≢◌, ◌⊎◌, inl, inr, ◌<◌, ◌≤◌, ◌+◌, ◌*◌, ◌^◌, ℕ, List, length}
use Rattle.std.proofs.Common.{drop}
use Rattle.std.proofs.Common.{slice_index, sym, ◌∙◌, ap, refl, arith, rules, ext_get_or}
use Rattle.std.proofs.Common.{get_or-take, get_or-drop}
use Rattle.std.proofs.Common.{Option, Some, set, ◌++◌, ◌∷◌, [], zero, suc, subst}
use Rattle.std.proofs.lemmas.List.{places}
use Rattle.std.proofs.lemmas.Option.{none-some}
use Rattle.std.proofs.lemmas.Bool.{cases_order}
use Rattle.std.specs.List.{slice_get}
use Rattle.sqlite_disk.specs.Disk.{Holds, Torn}
use Rattle.sqlite_disk.specs.Digest.{digest}
use Rattle.pgspill.specs.declared.piece.Owner.{Owner}
use Rattle.pgspill.specs.declared.piece.Piece.{Piece}
use Rattle.pgspill.specs.Pieces.{part, block_part, bytes_of, IsPiece, KeepsPieces}

part_at : (file : List ℕ) (at n i : ℕ) → i < n → slice_index (part file at n) i ≡ slice_index file (at + i)
part_at file at n i h = get_or-take n (drop at file) i 0 h ∙ get_or-drop at file i 0

pub part_length : (file : List ℕ) (at n : ℕ) → at + n ≤ length file → length (part file at n) ≡ n
part_length file at n h = search (rules, places)

same_parts : (f g : List ℕ) (a n : ℕ) → a + n ≤ length f → a + n ≤ length g
    → ((i : ℕ) → i < n → slice_index f (a + i) ≡ slice_index g (a + i)) → part f a n ≡ part g a n
same_parts f g a n in_f in_g same =
    let whole = part_length f a n in_f in
    ext_get_or 0 _ _ (whole ∙ sym (part_length g a n in_g)) λ i h.
    let low : i < n = omega arith in
    part_at f a n i low ∙ same i low ∙ sym (part_at g a n i low)

-- a part beside a write stays
pub part_stays : (old new : List ℕ) (at n a m : ℕ) → Torn at n old new → (a + m ≤ at) ⊎ (at + n ≤ a) → a + m ≤ length old
    → part new a m ≡ part old a m
part_stays old new at n a m t (inl low) within =
    same_parts new old a m (omega arith) within λ i h. t.below (a + i) (omega arith) (omega arith)
part_stays old new at n a m t (inr high) within =
    same_parts new old a m (omega arith) within λ i h. t.above (a + i) (omega arith) (omega arith)

-- what the file holds is that part of it
pub held_is_part : (file bytes : List ℕ) (at n : ℕ) → Holds file at bytes → length bytes ≡ n → part file at n ≡ bytes
held_is_part file bytes at n h whole =
    let len = part_length file at n (omega arith) in
    ext_get_or 0 _ _ (len ∙ sym whole) λ i low.
    part_at file at n i (omega arith) ∙ h.each i (omega arith)

-- ---- who has a block

pub get_set_other : {X : Type 0} (xs : List X) (i j : ℕ) (y : X) → (j ≡ i → ⊥) → slice_get (set xs i y) j ≡ slice_get xs j
get_set_other [] i j y other = refl
get_set_other (x ∷ xs) zero zero y other = absurd (other refl)
get_set_other (x ∷ xs) zero (suc j) y other = refl
get_set_other (x ∷ xs) (suc i) zero y other = refl
get_set_other (x ∷ xs) (suc i) (suc j) y other = get_set_other xs i j y (λ e. other (ap suc e))

pub get_set_same : {X : Type 0} (xs : List X) (i : ℕ) (y : X) → i < length xs → slice_get (set xs i y) i ≡ Some y
get_set_same [] i y within = absurd (omega arith)
get_set_same (x ∷ xs) zero y within = refl
get_set_same (x ∷ xs) (suc i) y within = get_set_same xs i y (omega arith)

pub get_push : {X : Type 0} (xs : List X) (y x : X) (i : ℕ) → slice_get xs i ≡ Some x → slice_get (xs ++ y ∷ []) i ≡ Some x
get_push [] y x i there = absurd (none-some x there)
get_push (z ∷ xs) y x zero there = there
get_push (z ∷ xs) y x (suc i) there = get_push xs y x i there

-- ---- a write to a block that nobody has

-- other blocks lie beside it
beside : (a b n m : ℕ) → (a ≡ b → ⊥) → n ≤ 65536 → m ≤ 65536 → (a * 65536 + m ≤ b * 65536) ⊎ (b * 65536 + n ≤ a * 65536)
beside a b n m other fits fits' = elim (cases_order a b) [
  | inl same ↦ absurd (other same)
  | inr (inl below) ↦ inl (omega arith)
  | inr (inr above) ↦ inr (omega arith)
]

pub keeps_beside : (key : ℕ) (file file' : List ℕ) (owners owners' : List (Option Owner)) (block n : ℕ)
    → Torn (block * 65536) n file file' → n ≤ 65536
    → ((owner : Owner) → slice_get owners block ≢ Some (Some owner))
    → ((i : ℕ) (owner : Owner) → (i ≡ block → ⊥) → slice_get owners i ≡ Some (Some owner) → slice_get owners' i ≡ Some (Some owner))
    → KeepsPieces key file owners file' owners'
keeps_beside key file file' owners owners' block n torn fits free others owner p is =
    let other : p.block ≡ block → ⊥ = λ e. free owner (subst (λ b. slice_get owners b ≡ Some (Some owner)) e is.owned) in
    let written : block_part file' p.block p.written ≡ block_part file p.block p.written =
    part_stays file file' (block * 65536) n (p.block * 65536) p.written torn
    (beside p.block block n p.written other fits is.fits) is.within in
    let kept : bytes_of file' p ≡ bytes_of file p =
    part_stays file file' (block * 65536) n (p.block * 65536) p.kept torn
    (beside p.block block n p.kept other fits (omega arith)) (omega arith) in
    record {
      is_piece = record {
        owned = others p.block owner other is.owned;
        some = is.some;
        kept = is.kept;
        fits = is.fits;
        within = omega arith;
        low = is.low;
        tested = is.tested ∙ ap (digest key) (sym written);
      };
      same = kept;
    }

-- the same, where the write was of the file as it was
pub put_keeps : (key : ℕ) (file mid file' : List ℕ) (owners owners' : List (Option Owner)) (block at n : ℕ)
    → Torn at n mid file' → mid ≡ file → at ≡ block * 65536 → n ≤ 65536
    → ((owner : Owner) → slice_get owners block ≢ Some (Some owner))
    → ((i : ℕ) (owner : Owner) → (i ≡ block → ⊥) → slice_get owners i ≡ Some (Some owner) → slice_get owners' i ≡ Some (Some owner))
    → KeepsPieces key file owners file' owners'
put_keeps key file mid file' owners owners' block at n torn same is fits free others =
    keeps_beside key file file' owners owners' block n
    (subst (λ f. Torn (block * 65536) n f file') same (subst (λ a. Torn a n mid file') is torn)) fits free others

-- what was written is a piece
pub put_piece : (key : ℕ) (file bytes : List ℕ) (owners : List (Option Owner)) (owner : Owner) (block at sum : ℕ) → Holds file at bytes
    → at ≡ block * 65536 → at + 65536 < 2 ^ 64 → 0 < length bytes → length bytes ≤ 65536 → block < length owners
    → sum ≡ digest key bytes
    → (p : Piece) → p ≡ record { block = block; kept = length bytes; written = length bytes; digest = sum }
    → IsPiece key file (set owners block (Some owner)) owner p × (bytes_of file p ≡ bytes)
put_piece key file bytes owners owner block at sum holds is low some fits within tells p made =
    let there : Holds file (block * 65536) bytes = subst (λ a. Holds file a bytes) is holds in
    let all : block_part file block (length bytes) ≡ bytes = held_is_part file bytes (block * 65536) (length bytes) there refl in
    rw made (
      record {
        owned = get_set_same owners block (Some owner) within;
        some = some;
        kept = omega arith;
        fits = fits;
        within = there.within;
        low = omega arith;
        tested = tells ∙ ap (digest key) (sym all);
      },
      all,
    )
