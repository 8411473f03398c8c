-- What is written to a file of noted commits.
use Rattle.std.specs.Prelude.{◌≡◌, ◌≤◌, ◌+◌, ◌*◌, ◌%◌, ℕ, List, [], length, codes}
use Rattle.std.specs.Prelude.{Bool, true, false}
use Rattle.std.specs.Prelude.{Option, Some, None, reverse}
use Rattle.pgrepeats.specs.declared.commit.Commit.{Commit}
use Rattle.pgrepeats.specs.declared.past.Past.{Past}
use Rattle.pgpast.specs.declared.record.Record.{Record}
use Rattle.pgpast.specs.Records.{IsRecord, encoded, written}
use Rattle.pgpast.specs.Loaded.{AreUpTo, AreWhole, IsChain, IsPastOf, newest_crc}

abbrev pub head : List ℕ
head = codes "pgsub repeats 1\n"

-- The past has heard the commits of the file's newest chain: of the record that ends last, and of
-- all that were noted one behind the other up to it.
pub record IsLoaded (bytes : List ℕ) (p : Past) (newest : ℕ) : Type 0 where
  pub records : List Record
  pub chain : IsChain bytes (reverse records)
  pub last : AreUpTo bytes (reverse records)
  pub whole : AreWhole bytes (reverse records)
  pub newest_is : newest ≡ newest_crc (reverse records)
  pub past : IsPastOf records p

module _ {F : Type 0} (holds : F → List ℕ → Type 0) where
  -- the file holds no record
  pub record IsBegun (old new : F) (next newest : ℕ) : Type 0 where
    pub bytes : (b : List ℕ) → holds old b → holds new (written [] 0 head)
    pub first : next ≡ 0
    pub none : newest ≡ 0

  -- The commit's record, which has the CRC of the newest one, is written in the next slot.
  pub record IsAdded (old : F) (next newest : ℕ) (c : Commit) (new : F) (next' newest' : ℕ) : Type 0 where
    pub record_is : Record
    pub right : IsRecord record_is
    pub commit : record_is.commit ≡ c
    pub before : record_is.before ≡ newest
    pub bytes : (b : List ℕ) → holds old b → 16 + next * 48 ≤ length b → holds new (written b (16 + next * 48) (encoded record_is))
    pub behind : next' ≡ (next + 1) % 65536
    pub newest_is : newest' ≡ record_is.crc

  -- what is written where all is forgotten, or not, and a commit is noted, or none
  abbrev pub IsKept : F → ℕ → ℕ → Bool → Option Commit → F → ℕ → ℕ → Type 0
  IsKept old next newest false None new next' newest' = (new ≡ old) × (next' ≡ next) × (newest' ≡ newest)
  IsKept old next newest false (Some c) new next' newest' = IsAdded old next newest c new next' newest'
  IsKept old next newest true None new next' newest' = IsBegun old new next' newest'
  IsKept old next newest true (Some c) new next' newest' =
      (mid : F) × (n : ℕ) × (m : ℕ) × IsBegun old mid n m × IsAdded mid n m c new next' newest'
