-- What stands in the blocks of a file, and whose they are.
use Rattle.std.specs.Prelude.{◌≡◌, ◌<◌, ◌≤◌, ◌+◌, ◌*◌, ◌^◌, ℕ, List, length, take, drop, Option}
use Rattle.std.specs.Prelude.{Some}
use Rattle.std.specs.List.{slice_get}
use Rattle.sqlite_disk.specs.Digest.{digest}
use Rattle.pgspill.specs.declared.piece.Owner.{Owner}
use Rattle.pgspill.specs.declared.piece.Piece.{Piece}

-- so many bytes of a file from an offset on
abbrev pub part : List ℕ → ℕ → ℕ → List ℕ
part file at n = take n (drop at file)

-- so many bytes of a block
abbrev pub block_part : List ℕ → ℕ → ℕ → List ℕ
block_part file block n = part file (block * 65536) n

-- The block is this owner's, has all that was written to it, and some of that is left.
pub record IsPiece (key : ℕ) (file : List ℕ) (owners : List (Option Owner)) (owner : Owner) (p : Piece) : Type 0 where
  pub owned : slice_get owners p.block ≡ Some (Some owner)
  pub some : 0 < p.kept
  pub kept : p.kept ≤ p.written
  pub fits : p.written ≤ 65536
  pub within : p.block * 65536 + p.written ≤ length file
  pub low : p.block * 65536 + 65536 < 2 ^ 64
  pub tested : p.digest ≡ digest key (block_part file p.block p.written)

-- The bytes of a piece that are left.
abbrev pub bytes_of : List ℕ → Piece → List ℕ
bytes_of file p = block_part file p.block p.kept

-- An owner's piece stays, with its bytes.
pub record StaysPiece (key : ℕ) (file file' : List ℕ) (owners' : List (Option Owner)) (owner : Owner) (p : Piece) : Type 0 where
  pub is_piece : IsPiece key file' owners' owner p
  pub same : bytes_of file' p ≡ bytes_of file p

-- Each piece of each owner stays.
abbrev pub KeepsPieces : ℕ → List ℕ → List (Option Owner) → List ℕ → List (Option Owner) → Type 0
KeepsPieces key file owners file' owners' =
    (owner : Owner) (p : Piece) → IsPiece key file owners owner p → StaysPiece key file file' owners' owner p
