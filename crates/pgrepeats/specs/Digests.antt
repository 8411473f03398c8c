-- The digest of a list of changes.
use Rattle.std.specs.Prelude.{ℕ, List, [], ◌∷◌, ◌++◌, ◌+◌, ◌-◌, ◌^◌, min, length}
use Rattle.std.specs.Int.{to_le_bytes, w32, w64}
use Rattle.pgcrc.specs.Crc.{crc32}
use Rattle.pgrepeats.specs.declared.digest.Change.{Change}
use Rattle.pgrepeats.specs.declared.digest.Digest.{Digest}

-- the change with this encoding
abbrev pub change_of : List ℕ → Change
change_of bytes = record { len = length bytes; crc = crc32 bytes }

abbrev pub no_changes : Digest
no_changes = record { changes = 0; crc = 0 }

-- what the CRC of one change more is taken of
abbrev pub block : ℕ → Change → List ℕ
block crc c = to_le_bytes w32 crc ++ to_le_bytes w32 c.crc ++ to_le_bytes w64 c.len

abbrev pub with_change : Digest → Change → Digest
with_change d c = record { changes = min (d.changes + 1) (2 ^ 64 - 1); crc = crc32 (block d.crc c) }

abbrev pub with_changes : Digest → List Change → Digest
with_changes d [] = d
with_changes d (c ∷ cs) = with_changes (with_change d c) cs

abbrev pub digest_of : List Change → Digest
digest_of cs = with_changes no_changes cs
