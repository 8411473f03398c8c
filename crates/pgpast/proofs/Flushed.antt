-- What a status confirms as flushed, in its bytes.
use Rattle.std.proofs.Common.{◌≡◌, ◌<◌, ◌^◌, ◌∙◌, ℕ, List, ◌++◌, refl, sym, ap, take, drop}
use Rattle.std.specs.Int.{to_be_bytes, from_be_bytes, w64}
use Rattle.std.proofs.lemmas.Nat.{from_be_bytes-to_be_bytes_8}
use Rattle.pgwire.specs.declared.status.Status.{Status}
use Rattle.pgwire.specs.Statuses.{status_frame}

-- the bytes of the second LSN
in_frame : (s : Status) (more : List ℕ) → take 8 (drop 8 (drop 6 (status_frame s ++ more))) ≡ to_be_bytes w64 s.flushed
in_frame s more = refl

in_front : (n m : ℕ) (last : List ℕ) → take 8 (drop 8 (to_be_bytes w64 n ++ (to_be_bytes w64 m ++ last))) ≡ to_be_bytes w64 m
in_front n m last = refl

pub flushed_is : (bytes lsns rest last more : List ℕ) (n m : ℕ) (s : Status) → m < 2 ^ 64 → s.flushed < 2 ^ 64
    → bytes ≡ status_frame s ++ more → lsns ≡ drop 6 bytes → lsns ≡ to_be_bytes w64 n ++ rest → rest ≡ to_be_bytes w64 m ++ last
    → m ≡ s.flushed
flushed_is bytes lsns rest last more n m s small low is at front next =
    let ours : take 8 (drop 8 lsns) ≡ to_be_bytes w64 m =
    ap (λ (xs : List ℕ). take 8 (drop 8 xs)) (front ∙ ap (λ (xs : List ℕ). to_be_bytes w64 n ++ xs) next) ∙ in_front n m last in
    let its : take 8 (drop 8 lsns) ≡ to_be_bytes w64 s.flushed =
    ap (λ (xs : List ℕ). take 8 (drop 8 xs)) (at ∙ ap (λ (xs : List ℕ). drop 6 xs) is) ∙ in_frame s more in
    sym (from_be_bytes-to_be_bytes_8 m small) ∙ ap (from_be_bytes w64) (sym ours ∙ its) ∙ from_be_bytes-to_be_bytes_8 s.flushed low
