-- Strands: the bytes of a transaction, first those in blocks, then those in memory.
use Rattle.std.specs.Prelude.{◌≡◌, ◌≤◌, ℕ, List, ◌++◌, length, drop, Option, Some}
use Rattle.std.specs.List.{slice_get, flat_map}
use Rattle.pgspill.specs.declared.piece.Owner.{Owner}
use Rattle.pgspill.specs.declared.piece.Piece.{Piece}
use Rattle.pgspill.specs.declared.strand.Strand.{Strand}
use Rattle.pgspill.specs.Pieces.{IsPiece, StaysPiece, bytes_of}

-- the bytes in blocks
abbrev pub spilled_bytes : List ℕ → List Piece → List ℕ
spilled_bytes file ps = flat_map (bytes_of file) ps

-- the pieces of a transaction, by their places
abbrev pub ArePieces : ℕ → List ℕ → List (Option Owner) → ℕ → List Piece → Type 0
ArePieces key file owners xid ps =
    (i : ℕ) (p : Piece) → slice_get ps i ≡ Some p → IsPiece key file owners (record { xid = xid; place = i }) p

-- all bytes, of a file in which the pieces stand
abbrev pub strand_bytes : List ℕ → Strand → List ℕ
strand_bytes file s = spilled_bytes file s.pieces.items ++ drop s.start s.tail.items

pub record IsStrand (key : ℕ) (file : List ℕ) (owners : List (Option Owner)) (s : Strand) : Type 0 where
  pub pieces : ArePieces key file owners s.xid s.pieces.items
  pub spilled : s.spilled ≡ length (spilled_bytes file s.pieces.items)
  pub start : s.start ≤ length s.tail.items

-- the pieces of other transactions stay, with their bytes
abbrev pub KeepsOthers : ℕ → ℕ → List ℕ → List (Option Owner) → List ℕ → List (Option Owner) → Type 0
KeepsOthers xid key file owners file' owners' =
    (owner : Owner) (p : Piece) → (owner.xid ≡ xid → ⊥) → IsPiece key file owners owner p → StaysPiece key file file' owners' owner p
