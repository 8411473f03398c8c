-- A feed as the ledger of the store beside it. A ledger tells all commits of its store. Of those
-- before the feed begins, which were in segments that others have removed or were never in one, it
-- has nothing.
use Rattle.std.specs.Prelude.{◌≡◌, ◌≤◌, ◌++◌, ℕ, List, [], Bool}
use Rattle.pgapply.specs.Value.{Tables}
use Rattle.pgledger.specs.Entries.{Entry, LeadTo, last_end}
use Rattle.pgledger.specs.Records.{Records}
use Rattle.pgfeed.specs.declared.feed.Feed.{Feed}
use Rattle.pgfeed.specs.Feeds.{IsHonestFeed, KeepsAll, LastsUpTo, OpensIn, ReopensAt}
use Rattle.pgfeed.specs.Lasting.{IsLeftOf}

-- it is told from 0/0 on
abbrev pub told_from : {F D : Type 0} → Feed F D → ℕ
told_from l = 0

abbrev pub is_stuck_feed : {F D : Type 0} → Feed F D → Bool
is_stuck_feed l = l.segment.is_stuck

module _ {F D : Type 0} (seen : D → List ℕ) (may_leave : D → List ℕ → Type 0) (is_clean : D → Bool) (is_true : F → Type 0)
    (places : F → List ℕ) (has : F → ℕ → List ℕ → Type 0) where
  -- The last of these entries are all that the feed keeps. It begins where those before them end,
  -- of which it says nothing else.
  pub record KeepsRest (l : Feed F D) (es : List Entry) : Type 0 where
    pub gone : List Entry
    pub stay : List Entry
    pub is : es ≡ gone ++ stay
    pub begins_is : l.begins ≡ last_end 0 gone
    pub kept : KeepsAll seen may_leave is_clean is_true places has l stay

  -- up to this LSN, at or above which it begins, its entries outlast a crash
  abbrev pub LastsFrom : Feed F D → ℕ → Type 0
  LastsFrom l p = (l.begins ≤ p) × LastsUpTo seen may_leave is_clean is_true places has l p

  -- the entries of the feed lead to these tables at this LSN, whatever came before those that it
  -- has
  abbrev pub RecordsRest : Feed F D → Tables → ℕ → ℕ → Type 0
  RecordsRest l tables place reach = Records told_from KeepsRest LastsFrom is_stuck_feed l tables place reach

  -- From some tables where the feed begins the entries that it keeps lead to these at that LSN, one
  -- after the other, but for those above it.
  pub record LeadsFrom (l : Feed F D) (tables : Tables) (place : ℕ) : Type 0 where
    pub base : Tables
    pub told : List Entry
    pub later : List Entry
    pub kept : KeepsAll seen may_leave is_clean is_true places has l (told ++ later)
    pub leads : LeadTo base l.begins told tables place

  -- What is said of a store with its feed is said of the entries that the feed keeps.
  abbrev pub RestsLead : Type 0
  RestsLead = (l : Feed F D) (tables : Tables) (place reach : ℕ) → RecordsRest l tables place reach → LeadsFrom l tables place

  -- In a folder without segments a feed begins with the store, whatever that holds.
  abbrev pub FeedsBegin : Type 0
  FeedsBegin =
      (folder : F) (l : Feed F D) (tables : Tables) (place reach : ℕ)
      → OpensIn seen may_leave is_clean is_true places has folder place l
      → IsHonestFeed seen may_leave is_clean is_true places has l → places folder ≡ [] → RecordsRest l tables place reach

  -- What a crash leaves of a feed, but for a front of segments that others removed, is opened
  -- again.
  abbrev pub LeftIsReopened : Type 0
  LeftIsReopened =
      (l other : Feed F D) (place : ℕ) (gone : List ℕ) (folder : F)
      → IsLeftOf seen may_leave is_clean is_true places has l place gone folder
      → OpensIn seen may_leave is_clean is_true places has folder place other
      → IsHonestFeed seen may_leave is_clean is_true places has other
      → ReopensAt seen may_leave is_clean is_true places has l place other

  -- Opened again at the position of the store beside it, it leads to what it led to.
  abbrev pub FeedsGoOn : Type 0
  FeedsGoOn =
      (l other : Feed F D) (tables : Tables) (place reach reach' : ℕ)
      → ReopensAt seen may_leave is_clean is_true places has l place other
      → RecordsRest l tables place reach → RecordsRest other tables place reach'
