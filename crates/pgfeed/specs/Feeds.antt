-- A feed: segments that follow each other. The last one is open. The others have ended. The feed
-- has the files of the open one and of those that have commits which the store beside it may lack,
-- the first one first. Its folder has the others.
use Rattle.std.specs.Prelude.{◌≡◌, ◌≢◌, ◌<◌, ◌≤◌, ◌-◌, ◌++◌, ◌⊎◌, ℕ, ℤ, pos, ◌+ℤ◌, ◌≤ℤ◌, List, []}
use Rattle.std.specs.Prelude.{◌∷◌, length, Bool, false, IsTrue, Option, Some, None, ⊤}
use Rattle.std.specs.List.{AllByRecursion}
use Rattle.pgapply.specs.declared.commit.About.{About}
use Rattle.pgledger.specs.declared.heard.Heard.{Heard}
use Rattle.pgledger.specs.Entries.{Entry, last_end, messages_of}
use Rattle.pgfeed.specs.declared.feed.Feed.{Feed}
use Rattle.pgfeed.specs.declared.segment.Segment.{Segment}
use Rattle.pgfeed.specs.Hearing.{IsWithin, all_heard}
use Rattle.pgfeed.specs.Reading.{AreEntries}
use Rattle.pgfeed.specs.Segments.{EndsTested, HasHead, HasWhatLasts, IsCut, IsEnded}
use Rattle.pgfeed.specs.Segments.{IsFinished, IsFound, KeepsEntries}
use Rattle.pgfeed.specs.Segments.{Lasts}

-- ---- when a segment ends

-- it has a commit
abbrev pub HasCommit : {D : Type 0} → Segment D → Type 0
HasCommit s = s.base < s.last

-- it has no room for so many bytes more
abbrev pub IsFull : {D : Type 0} → ℕ → Segment D → ℕ → Type 0
IsFull limit s bytes = limit - s.size < bytes

-- a commit of that time comes so many microseconds, or more, after the first one
abbrev pub IsLate : ℕ → Option ℤ → Option About → Type 0
IsLate micros (Some first) (Some about) = (first +ℤ pos micros) ≤ℤ about.time
IsLate micros (Some first) None = ⊥
IsLate micros None about = ⊥

-- it has a commit, and takes none of that time with a text of so many bytes
abbrev pub IsOver : {D : Type 0} → ℕ → ℕ → Option ℤ → Segment D → Option About → ℕ → Type 0
IsOver limit micros first s about bytes = HasCommit s × (IsFull limit s bytes ⊎ IsLate micros first about)

-- a segment that takes no commit more goes on all the same: the store lacks commits of as many that
-- have ended as stay open at most
abbrev pub MayGoOver : {D : Type 0} → ℕ → ℕ → List (Segment D) → Segment D → Type 0
MayGoOver most synced ended s = (synced ≢ s.last) × (most ≤ length ended)

-- the first time that is known, else that of this commit
abbrev pub first_time : Option ℤ → Option About → Option ℤ
first_time (Some first) about = Some first
first_time None (Some about) = Some about.time
first_time None None = None

-- The time that later ones are compared with: where the segment goes on, the same, and where
-- another one follows it, none yet.
abbrev pub StaysTimed : {D : Type 0} → Option ℤ → Option ℤ → Segment D → Segment D → Type 0
StaysTimed before after old new =
    ((new.base ≡ old.base) × (after ≡ before)) ⊎ ((new.base ≡ old.last) × (after ≡ None))

-- where none is known yet, that of this commit
abbrev pub IsTimed : {D : Type 0} → Option ℤ → Option ℤ → Option About → Segment D → Segment D → Type 0
IsTimed before after about old new =
    ((new.base ≡ old.base) × (after ≡ first_time before about)) ⊎ ((new.base ≡ old.last) × (after ≡ first_time None about))

-- ---- what was heard

-- the messages of the commit that comes next
abbrev pub heard_by : {F D : Type 0} → Feed F D → List Heard
heard_by l = messages_of (all_heard l.hearing)

-- they have no more bytes than the limit
abbrev pub HearsWithin : {F D : Type 0} → Feed F D → Type 0
HearsWithin l = IsWithin l.limits.messages l.hearing

-- ---- segments that have ended

-- Segments begin at these LSNs. Each has ended and has its own entries, and the one behind it
-- begins there: the first one at that LSN, and what follows them at that one. What a crash leaves
-- of each is told by where it begins.
abbrev pub AreEnded : (ℕ → List ℕ → Type 0) → ℕ → List ℕ → ℕ → List Entry → Type 0
AreEnded leaves at [] next es = (at ≡ next) × (es ≡ [])
AreEnded leaves at (b ∷ bases) next es =
    (last : ℕ) × (own : List Entry) × (more : List Entry) × (b ≡ at) × (es ≡ own ++ more) × IsEnded b last own (leaves b)
    × AreEnded leaves last bases next more

-- where the first of them begins, else there
abbrev pub first_of : List ℕ → ℕ → ℕ
first_of [] at = at
first_of (b ∷ bases) at = b

abbrev pub BeginBelow : ℕ → List ℕ → Type 0
BeginBelow p [] = ⊥
BeginBelow p (b ∷ bases) = b < p

abbrev pub BeginAt : ℕ → List ℕ → Type 0
BeginAt p [] = ⊥
BeginAt p (b ∷ bases) = b ≡ p

-- the first of these follows a segment that begins and ends there, and the others begin behind it
abbrev pub Follow : ℕ → ℕ → List ℕ → Type 0
Follow base last [] = ⊤
Follow base last (b ∷ bases) = (base < b) × (last ≤ b) × AllByRecursion (λ other. b < other) bases

module _ {D : Type 0} (may_leave : D → List ℕ → Type 0) where
  -- one of these segments begins there, and a crash may leave the text of it
  abbrev pub SomeLeaves : List (Segment D) → ℕ → List ℕ → Type 0
  SomeLeaves [] b text = ⊥
  SomeLeaves (e ∷ ended) b text = ((e.base ≡ b) × may_leave e.disk text) ⊎ SomeLeaves ended b text

-- none of these segments begins there
abbrev pub NoneAt : {D : Type 0} → List (Segment D) → ℕ → Type 0
NoneAt {D} ended b = AllByRecursion (λ (e : Segment D). e.base ≢ b) ended

module _ {F D : Type 0} (may_leave : D → List ℕ → Type 0) (has : F → ℕ → List ℕ → Type 0) where
  -- where the folder has these files back, whatever the file of the segment may have that begins
  -- there
  abbrev pub MayHave : List (Segment D) → F → ℕ → List ℕ → Type 0
  MayHave ended folder b text = SomeLeaves may_leave ended b text ⊎ (NoneAt ended b × has folder b text)

  -- what a crash may leave of the segment of a feed that begins there
  abbrev pub LeavesAt : Feed F D → ℕ → List ℕ → Type 0
  LeavesAt l b text =
      ((l.segment.base ≡ b) × may_leave l.segment.disk text) ⊎ ((l.segment.base ≢ b) × MayHave l.ended.items l.folder b text)

module _ {D : Type 0} (seen : D → List ℕ) (may_leave : D → List ℕ → Type 0) where
  -- the segment has no entry, also after a crash
  abbrev pub IsFresh : Segment D → Type 0
  IsFresh s = KeepsEntries s.base s.last s.size s.told.items (seen s.disk) [] × Lasts s.base s.size (may_leave s.disk) s.base

  -- What opening at an LSN makes of the text that a file had: what lies behind the commit that ends
  -- there is cut off. No definition is told.
  pub record IsCutAt (p : ℕ) (text : List ℕ) (s : Segment D) : Type 0 where
    pub up : s.base ≤ p
    pub untold : s.told.items ≡ []
    pub found : IsFound s.base p text s.size
    pub tested : s.base < p → EndsTested p text s.size
    pub cut : IsCut text s.size (seen s.disk) (may_leave s.disk)

  -- The segment was found in a folder, and cut off at an LSN.
  abbrev pub OpenedFrom : {F : Type 0} → (F → ℕ → List ℕ → Type 0) → F → ℕ → Segment D → Type 0
  OpenedFrom has folder p s = (text : List ℕ) × has folder s.base text × IsCutAt p text s

  -- The open segment ends, and the other one begins there. The ended one is kept behind those that
  -- stay. Its file has a head, its entries and the line that ends it, and nothing else, also after
  -- a crash.
  pub record Ends (is_clean : D → Bool) (stay after : List (Segment D)) (old new : Segment D) : Type 0 where
    pub next : new.base ≡ old.last
    pub ended : Segment D
    pub stays : after ≡ stay ++ ended ∷ []
    pub base_is : ended.base ≡ old.base
    pub last_is : ended.last ≡ old.last
    pub finished : IsTrue (is_clean ended.disk) → (es : List Entry)
        → KeepsEntries old.base old.last old.size old.told.items (seen old.disk) es
        → IsFinished old.base old.last es (seen ended.disk) (may_leave ended.disk)

  -- Those that have ended stay, or they are let go where all was synced before. Then the segment is
  -- open yet, or it ends.
  pub record MayEnd (is_clean : D → Bool) (synced : ℕ) (before after : List (Segment D)) (old new : Segment D) : Type 0 where
    pub stay : List (Segment D)
    pub stays : (stay ≡ before) ⊎ ((synced ≡ old.last) × (stay ≡ []))
    pub ends : ((new.base ≡ old.base) × (after ≡ stay)) ⊎ Ends is_clean stay after old new

-- the folder has these files back, which have given back what was written
module _ {F D : Type 0} (may_leave : D → List ℕ → Type 0) (is_clean : D → Bool) (is_true : F → Type 0) (places : F → List ℕ)
    (has : F → ℕ → List ℕ → Type 0) where
  pub record TakesAllBack (ended : List (Segment D)) (old new : F) : Type 0 where
    pub was_true : is_true old
    pub clean : AllByRecursion (λ (e : Segment D). IsTrue (is_clean e.disk)) ended
    pub places_are : places new ≡ places old
    pub files : (b : ℕ) (text : List ℕ) → has new b text → MayHave may_leave has ended old b text

-- ---- all segments of a feed

-- what a folder has of the segment that begins there begins with its head
abbrev pub HasHeadAt : {F : Type 0} → (F → ℕ → List ℕ → Type 0) → F → ℕ → Type 0
HasHeadAt has folder base = (text : List ℕ) → has folder base text → HasHead base text

module _ {F D : Type 0} (seen : D → List ℕ) (may_leave : D → List ℕ → Type 0) (is_clean : D → Bool) (is_true : F → Type 0)
    (places : F → List ℕ) (has : F → ℕ → List ℕ → Type 0) where
  -- The folder's answers were true, and the disks have given back what was written.
  pub record IsHonestFeed (l : Feed F D) : Type 0 where
    pub folder : is_true l.folder
    pub ended : AllByRecursion (λ (e : Segment D). IsTrue (is_clean e.disk)) l.ended.items
    pub file : IsTrue (is_clean l.segment.disk)

  -- The folder has segments at these LSNs, the open one, and nothing else but perhaps the one that
  -- was to follow it. Those before it have ended, and have these entries.
  pub record IsWhole (l : Feed F D) (before now : List Entry) : Type 0 where
    pub bases : List ℕ
    pub above : List ℕ
    pub there : places l.folder ≡ bases ++ (l.segment.base ∷ above)
    pub below : AllByRecursion (λ (e : Segment D). e.base < l.segment.base) l.ended.items
    pub ended : AreEnded (LeavesAt may_leave has l) l.begins bases l.segment.base before
    pub over : (above ≡ [])
        ⊎ ((above ≡ l.segment.last ∷ []) × IsEnded l.segment.base l.segment.last now (may_leave l.segment.disk)
        × HasHeadAt has l.folder l.segment.last)
    pub free : l.segment.is_stuck ≡ false → above ≡ []

  -- The feed keeps these entries: those of the segments that have ended, and then those of the open
  -- one. They rise from where it begins.
  pub record KeepsAll (l : Feed F D) (es : List Entry) : Type 0 where
    pub before : List Entry
    pub now : List Entry
    pub is : es ≡ before ++ now
    pub entries : AreEntries l.begins before
    pub ends : last_end l.begins before ≡ l.segment.base
    pub kept : KeepsEntries l.segment.base l.segment.last l.segment.size l.segment.told.items (seen l.segment.disk) now
    pub whole : IsHonestFeed l → IsWhole l before now

  -- Up to this LSN its entries outlast a crash. Those that have ended were synced as they did.
  abbrev pub LastsUpTo : Feed F D → ℕ → Type 0
  LastsUpTo l p =
      (p ≤ l.segment.last) × (l.segment.base ≤ p → Lasts l.segment.base l.segment.size (may_leave l.segment.disk) p)

  -- A folder has what a crash left of a feed whose open segment had these entries, but for a front
  -- of segments that had ended, which others removed. The last one of these ended below the LSN.
  -- What follows the open one is free; where it begins at its end, the open one has ended. One that
  -- begins at the LSN has a head.
  pub record IsLeftIn (l : Feed F D) (p : ℕ) (now : List Entry) (gone : List ℕ) (folder : F) : Type 0 where
    pub honest : IsHonestFeed l
    pub stay : List ℕ
    pub above : List ℕ
    pub more : List ℕ
    pub had : places l.folder ≡ (gone ++ stay) ++ (l.segment.base ∷ above)
    pub there : places folder ≡ stay ++ (l.segment.base ∷ more)
    pub ended : AllByRecursion (λ b. b < l.segment.base) (gone ++ stay)
    pub front : (gone ≡ []) ⊎ BeginBelow p (places folder)
    pub behind : Follow l.segment.base l.segment.last more
    pub each : (b : ℕ) (text : List ℕ) → b < l.segment.base → has folder b text → LeavesAt may_leave has l b text
    pub lasting : (text : List ℕ) → has folder l.segment.base text
        → HasWhatLasts l.segment.base l.segment.size (may_leave l.segment.disk) p text
    pub done : BeginAt l.segment.last more → IsEnded l.segment.base l.segment.last now (has folder l.segment.base)
    pub heads : BeginAt p more → HasHeadAt has folder p

  -- A folder was opened at an LSN: it is left with this open segment, and the feed begins there.
  -- That is the one in which the LSN lies, cut off there, or where there was none, a new one that
  -- begins at it. Those above the LSN were removed, those before the open one stay as they were,
  -- and there is nothing else.
  pub record CutsIn (folder : F) (p : ℕ) (left : F) (begins : ℕ) (s : Segment D) : Type 0 where
    pub bases : List ℕ
    pub above : List ℕ
    pub there : ((places folder ≡ bases ++ (s.base ∷ above)) × OpenedFrom seen may_leave has folder p s)
        ⊎ ((places folder ≡ []) × (bases ≡ []) × (s.base ≡ p) × IsFresh seen may_leave s)
    pub removed : AllByRecursion (λ b. p < b) above
    pub stay : places left ≡ bases ++ s.base ∷ []
    pub first : begins ≡ first_of bases s.base
    pub same : (b : ℕ) (text : List ℕ) → s.base ≢ b → has left b text → has folder b text

  pub record OpensIn (folder : F) (p : ℕ) (l : Feed F D) : Type 0 where
    pub alone : l.ended.items ≡ []
    pub last : l.segment.last ≡ p
    pub free : l.segment.is_stuck ≡ false
    pub synced : l.synced ≡ p
    pub untimed : l.first ≡ None
    pub unheard : all_heard l.hearing ≡ Some []
    pub cuts : IsHonestFeed l → CutsIn folder p l.folder l.begins l.segment

  -- Of these entries of the old feed the new one keeps the last ones, from where it begins. Those
  -- before were in the segments that have gone.
  pub record KeepsLast (old new : Feed F D) (gone : List ℕ) (told : List Entry) : Type 0 where
    pub before : List Entry
    pub stay : List Entry
    pub is : told ≡ before ++ stay
    pub kept : KeepsAll new stay
    pub begins_is : new.begins ≡ last_end old.begins before
    -- where no segment has gone, all of them
    pub all : gone ≡ [] → before ≡ []

  -- The other one was opened at an LSN that the feed reaches, in a folder with what a crash left of
  -- it, but for a front of segments that others removed.
  abbrev pub ReopensAt : Feed F D → ℕ → Feed F D → Type 0
  ReopensAt l p other =
      (es : List Entry) (k : KeepsAll l es) → p ≤ l.segment.last
      → (gone : List ℕ) × (folder : F) × IsLeftIn l p k.now gone folder × OpensIn folder p other × IsHonestFeed other

  -- what a call leaves of a feed
  pub record Goes (old new : Feed F D) : Type 0 where
    pub lasts_more : (p : ℕ) → LastsUpTo old p → LastsUpTo new p
    pub opens_less : (p : ℕ) (other : Feed F D) → ReopensAt new p other → ReopensAt old p other
