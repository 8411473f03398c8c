-- What calls do to a folder: where its segments begin, and which bytes the file of each has.
use Rattle.std.specs.Prelude.{◌≡◌, ◌≢◌, ◌⊎◌, ◌<◌, ◌++◌, ℕ, List, [], ◌∷◌}
use Rattle.std.specs.List.{AllByRecursion}
use Rattle.pgfeed.specs.declared.fault.FeedFault.{FeedFault}
use Rattle.pgfeed.specs.declared.fault.FeedFault.TheVariants.{Memory, NotAFeed, Refused}

-- a call of the folder failed, or memory ran out
abbrev pub IsRefusal : FeedFault → Type 0
IsRefusal f = (f ≡ Refused) ⊎ (f ≡ Memory)

-- another fault than that the folder or a file is no feed of this store
abbrev pub IsOther : FeedFault → Type 0
IsOther f = f ≡ NotAFeed → ⊥

-- all of these begin below it
abbrev pub AreBelow : ℕ → List ℕ → Type 0
AreBelow base bases = AllByRecursion (λ b. b < base) bases

module _ {F : Type 0} (has : F → ℕ → List ℕ → Type 0) where
  -- no file has other bytes than before
  abbrev pub HasNoMore : F → F → Type 0
  HasNoMore old new = (b : ℕ) (text : List ℕ) → has new b text → has old b text

  -- no file but that of this segment
  abbrev pub HasNoMoreElse : ℕ → F → F → Type 0
  HasNoMoreElse base old new = (b : ℕ) (text : List ℕ) → base ≢ b → has new b text → has old b text

  -- a file with these outcomes is that of this segment now
  abbrev pub TakesBack : ℕ → (List ℕ → Type 0) → F → F → Type 0
  TakesBack base outcomes old new =
      (b : ℕ) (text : List ℕ) → has new b text → ((base ≡ b) × outcomes text) ⊎ ((base ≢ b) × has old b text)

  module _ (is_true : F → Type 0) (places : F → List ℕ) where
    -- its answers were true before, and it has the same segments with the same bytes
    pub record Stays (old new : F) : Type 0 where
      pub was_true : is_true old
      pub places_are : places new ≡ places old
      pub files : HasNoMore old new

    -- it has the same segments, of which that one may have other bytes
    pub record StaysElse (base : ℕ) (old new : F) : Type 0 where
      pub was_true : is_true old
      pub places_are : places new ≡ places old
      pub others : HasNoMoreElse base old new

    -- It has as many segments as before, or one more behind all others, whose file may have these
    -- bytes.
    pub record MakesAtMost (base : ℕ) (outcomes : List ℕ → Type 0) (old new : F) : Type 0 where
      pub was_true : is_true old
      pub at_most : AreBelow base (places old) → (places new ≡ places old)
          ⊎ ((places new ≡ places old ++ base ∷ []) × ((text : List ℕ) → has new base text → outcomes text))
      pub others : HasNoMoreElse base old new

    -- the last segments are gone, these ones, and the others are as they were
    pub record RemovesAll (bases : List ℕ) (old new : F) : Type 0 where
      pub was_true : is_true old
      pub left : (low : List ℕ) → places old ≡ low ++ bases → places new ≡ low
      pub others : HasNoMore old new
