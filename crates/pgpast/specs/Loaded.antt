-- The noted commits that the bytes of a file hold.
use Rattle.std.specs.Prelude.{◌≡◌, ◌≢◌, ◌<◌, ◌+◌, ◌-◌, ◌*◌, ◌/◌, ℕ, min, length}
use Rattle.std.specs.Prelude.{List, [], ◌∷◌, take, drop, map, Ok}
use Rattle.std.specs.Prelude.{◌≤◌, ◌⊎◌, ◌==◌, Option, None, Some, if◌then◌else◌, nat_le}
use Rattle.std.specs.List.{AllByRecursion}
use Rattle.pgrepeats.specs.declared.commit.Commit.{Commit}
use Rattle.pgrepeats.specs.declared.past.Answer.{Answer}
use Rattle.pgrepeats.specs.declared.past.Past.{Past}
use Rattle.pgrepeats.specs.Past.{Answers, IsFirst}
use Rattle.pgpast.specs.declared.record.Record.{Record}
use Rattle.pgpast.specs.Records.{IsFit, IsRecord, encoded}

-- of how many records there is room behind the head, of 16 bytes: each has 48
abbrev pub slots_of : List ℕ → ℕ
slots_of bytes = min ((length bytes - 16) / 48) 65536

-- the slot has a record
abbrev pub IsAt : List ℕ → ℕ → Record → Type 0
IsAt bytes slot r = IsRecord r × (take 48 (drop (16 + slot * 48) bytes) ≡ encoded r)

-- The second record was noted behind the first one: it has its CRC, and its commit ends later.
pub record Follows (first second : Record) : Type 0 where
  pub some : second.before ≢ 0
  pub behind : first.crc ≡ second.before
  pub above : first.commit.end < second.commit.end

-- each but the last one was noted behind the next: the newest is the first
abbrev pub AreLinked : List Record → Type 0
AreLinked [] = Unit {0}
AreLinked (r ∷ []) = Unit {0}
AreLinked (r ∷ (s ∷ rs)) = Follows s r × AreLinked (s ∷ rs)

-- a record may be added behind these: the last of them was noted behind it
abbrev pub MayFollow : List Record → Record → Type 0
MayFollow [] r = Unit {0}
MayFollow (s ∷ []) r = Follows r s
MayFollow (s ∷ (t ∷ rs)) r = MayFollow (t ∷ rs) r

-- ---- which of the file's records they are

-- the record whose commit ends last of those in the first slots, with one slot more
abbrev pub later : Option (ℕ × Record) → ℕ → Record → Option (ℕ × Record)
later None slot r = Some (slot, r)
later (Some it) slot r = if nat_le r.commit.end it.1.commit.end then Some it else Some (slot, r)

abbrev pub EndsUpTo : Option (ℕ × Record) → Record → Type 0
EndsUpTo None r = ⊥
EndsUpTo (Some it) r = r.commit.end ≤ it.1.commit.end

-- no record in the first slots ends above it
abbrev pub IsLast : List ℕ → ℕ → Option (ℕ × Record) → Type 0
IsLast bytes count newest = (slot : ℕ) (r : Record) → slot < count → IsFit r → IsAt bytes slot r → EndsUpTo newest r

abbrev pub IsFirstOf : List Record → Record → Type 0
IsFirstOf [] r = ⊥
IsFirstOf (s ∷ rs) r = s ≡ r

abbrev pub IsUpTo : List Record → Record → Type 0
IsUpTo [] r = ⊥
IsUpTo (s ∷ rs) r = r.commit.end ≤ s.commit.end

-- no record of the file ends above the first of these, and there is none where these are none
abbrev pub AreUpTo : List ℕ → List Record → Type 0
AreUpTo bytes rs = (slot : ℕ) (r : Record) → slot < slots_of bytes → IsFit r → IsAt bytes slot r → IsUpTo rs r

-- the slot before one in the ring
abbrev pub slot_under : ℕ → ℕ → ℕ
slot_under count slot = if slot == 0 then count - 1 else slot - 1

-- they are in this slot and in those before it, in turn
abbrev pub AreDown : List ℕ → ℕ → List Record → Type 0
AreDown bytes slot [] = Unit {0}
AreDown bytes slot (r ∷ rs) = IsAt bytes slot r × AreDown bytes (slot_under (slots_of bytes) slot) rs

-- the slot before those
abbrev pub slot_below : ℕ → ℕ → List Record → ℕ
slot_below count slot [] = slot
slot_below count slot (r ∷ rs) = slot_below count (slot_under count slot) rs

-- no record there goes on behind these
abbrev pub IsNone : List ℕ → ℕ → List Record → Type 0
IsNone bytes slot rs = (r : Record) → IsFit r → IsAt bytes slot r → MayFollow rs r → ⊥

-- from this slot down they are all that were noted one behind the other
pub record IsWhole (bytes : List ℕ) (slot : ℕ) (rs : List Record) : Type 0 where
  pub down : AreDown bytes slot rs
  pub ended : (length rs ≡ slots_of bytes) ⊎ IsNone bytes (slot_below (slots_of bytes) slot rs) rs

abbrev pub AreWhole : List ℕ → List Record → Type 0
AreWhole bytes [] = Unit {0}
AreWhole bytes (r ∷ rs) = (slot : ℕ) × (slot < slots_of bytes) × IsWhole bytes slot (r ∷ rs)

-- these records are in the file, and each was noted behind the next
pub record IsChain (bytes : List ℕ) (rs : List Record) : Type 0 where
  pub there : AllByRecursion (λ (r : Record). (slot : ℕ) × IsAt bytes slot r) rs
  pub linked : AreLinked rs

-- commits that are heard one after the other, none of which contradicts
abbrev pub HearsAll : Past → List Commit → Past → Type 0
HearsAll p [] new = new ≡ p
HearsAll p (c ∷ cs) new = (mid : Past) × (a : Answer) × Answers p c mid (Ok a) × HearsAll mid cs new

-- the CRC of the first, 0 of none
abbrev pub newest_crc : List Record → ℕ
newest_crc [] = 0
newest_crc (r ∷ rs) = r.crc

-- it has heard these commits, and the next session starts
pub record IsPastOf (rs : List Record) (p : Past) : Type 0 where
  pub first : Past
  pub last : Past
  pub nothing : IsFirst 65536 first
  pub heard : HearsAll first (map (λ (r : Record). r.commit) rs) last
  pub starts : p ≡ record last { last = None }
