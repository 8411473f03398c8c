-- The bytes of a file in which commits are noted: a head, and a ring of records. Numbers are
-- big-endian.
use Rattle.std.specs.Prelude.{◌≡◌, ◌<◌, ◌+◌, ◌^◌, ◌++◌, ℕ, List, length, take, drop, FitsSigned}
use Rattle.std.specs.Int.{to_be_bytes, cast_unsigned, w32, w64}
use Rattle.pgcrc.specs.Crc.{crc32}
use Rattle.pgpast.specs.declared.record.Record.{Record}

-- what the CRC of a record is of
abbrev pub body : Record → List ℕ
body r =
    to_be_bytes w64 r.commit.end ++ to_be_bytes w64 r.commit.lsn ++ to_be_bytes w32 r.commit.xid
    ++ to_be_bytes w64 (cast_unsigned w64 r.commit.time) ++ to_be_bytes w64 r.commit.digest.changes
    ++ to_be_bytes w32 r.commit.digest.crc ++ to_be_bytes w32 r.before

abbrev pub encoded : Record → List ℕ
encoded r = body r ++ to_be_bytes w32 r.crc

-- its CRC is right
abbrev pub IsRecord : Record → Type 0
IsRecord r = r.crc ≡ crc32 (body r)

-- its numbers are those of its fields' types
pub record IsFit (r : Record) : Type 0 where
  pub end : r.commit.end < 2 ^ 64
  pub lsn : r.commit.lsn < 2 ^ 64
  pub xid : r.commit.xid < 2 ^ 32
  pub time : FitsSigned w64 r.commit.time
  pub changes : r.commit.digest.changes < 2 ^ 64
  pub digest : r.commit.digest.crc < 2 ^ 32
  pub before : r.before < 2 ^ 32
  pub crc : r.crc < 2 ^ 32

-- bytes that are written in place
abbrev pub written : List ℕ → ℕ → List ℕ → List ℕ
written old at bytes = take at old ++ bytes ++ drop (at + length bytes) old
