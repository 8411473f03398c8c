-- A folder in memory, and the feed of the worked life in it: as it is opened in each run, as each
-- run leaves it, and the folder then, once after a crash and once after others removed a segment.
use Rattle.std.proofs.Common.{◌≡◌, ◌≢◌, ◌<◌, ◌+◌, ◌++◌, ◌⊎◌, [], ◌∷◌, List, ℕ, Bool, true, false}
use Rattle.std.proofs.Common.{None, Some, refl, sym, ap, ◌∙◌, subst, arith, inl, inr}
use Rattle.std.proofs.Common.{length}
use Rattle.std.proofs.Common.{append-nil, append_assoc, length-append}
use Rattle.std.specs.Prelude.{⊤, IsTrue, ◌^◌, take, drop, codes, map as mapped}
use Rattle.std.specs.List.{AllByRecursion}
use Rattle.std.specs.Fmt.{digits}
use Rattle.std.specs.FinMap as map
use Rattle.json.specs.Print.{escape_byte}
use Rattle.pglsn.specs.Texts.{lsn_text, half_text}
use Rattle.pgapply.specs.Tallies.{TakenCommit}
use Rattle.pgapply.specs.Value.{Tables}
use Rattle.pgledger.specs.Entries.{Entry, last_end}
use Rattle.pgledger.specs.Records.{RecordsSince}
use Rattle.pgfeed.specs.declared.feed.Feed.{Feed}
use Rattle.pgfeed.specs.declared.segment.Segment.{Segment}
use Rattle.pgfeed.specs.declared.told.Told.{Told}
use Rattle.pgfeed.specs.Texts.{closing_line, entries_text, entry_body, entry_line, entry_text}
use Rattle.pgfeed.specs.Texts.{segment_front, segment_head, segment_object, segment_rest}
use Rattle.pgfeed.specs.Hearing.{all_heard}
use Rattle.pgfeed.specs.Fits.{FitsEntry}
use Rattle.pgfeed.specs.Reading.{AreEntries, AreWritten, IsBody, Stands, Walks, mark_of}
use Rattle.pgfeed.specs.Segments.{EndsTested, IsCut, IsEnded, IsFound, IsHead, KeepsEntries}
use Rattle.pgfeed.specs.Segments.{Lasts}
use Rattle.pgfeed.specs.Feeds.{IsHonestFeed, KeepsAll, LeavesAt, OpensIn, SomeLeaves}
use Rattle.pgfeed.specs.Lasting.{IsLeftOf}
use Rattle.pgfeed.specs.Beside.{KeepsRest, LastsFrom, LeadsFrom, RecordsRest, is_stuck_feed}
use Rattle.pgfeed.specs.Beside.{told_from}
use Rattle.pgfeed.specs.Cutting.Walking.{drop_front, entry_length, over_entries, own_length}
use Rattle.pgfeed.specs.Cutting.Walking.{take_front}
use Rattle.pgfeed.specs.Cutting.Written.{text_append, written_front}
use Rattle.pgfeed.specs.Cutting.Tested.{last_tested}
use Rattle.pgfeed.specs.Cutting.Widths.{padded_length}
use Rattle.pgrecovery.proofs.LifeSessions.{tables_304, tables_560, tables_672}
use Rattle.pgrecovery.proofs.LifeSessions.{tables_816}
use Rattle.pgrecovery.proofs.LifeEntries.{entry_10, entry_11, entry_12, entry_13, entry_14}
use Rattle.pgrecovery.proofs.LifeEntries.{body_10, body_11, body_13, bodies, size_10, fits_10}
use Rattle.pgrecovery.proofs.LifeEntries.{size_11, fits_11, fits_12, size_13, fits_13, fits_14}
use Rattle.pgrecovery.proofs.LifeEntries.{first_three, are_10, are_three, are_13, are_14, lead_10}
use Rattle.pgrecovery.proofs.LifeEntries.{lead_12, lead_13, leads_560, taken_11, taken_12}
use Rattle.pgrecovery.proofs.LifeEntries.{taken_13, taken_14, tells_12, tells_13, tells_14}

-- ---- a folder in memory: its files, each with the LSN that names it, and their texts

abbrev pub Folder : Type 0
Folder = List (ℕ × List ℕ)

abbrev pub places : Folder → List ℕ
places [] = []
places (file ∷ folder) = file.0 ∷ places folder

abbrev pub has : Folder → ℕ → List ℕ → Type 0
has [] b text = ⊥
has (file ∷ folder) b text = ((file.0 ≡ b) × (file.1 ≡ text)) ⊎ has folder b text

-- an open file is its text; a crash leaves this very text, and all that is returned is true
abbrev pub shows : List ℕ → List ℕ
shows file = file

abbrev pub may_leave : List ℕ → List ℕ → Type 0
may_leave file left = left ≡ file

abbrev pub is_clean : List ℕ → Bool
is_clean file = true

abbrev pub is_true : Folder → Type 0
is_true folder = ⊤

abbrev pub MemoryFeed : Type 0
MemoryFeed = Feed Folder (List ℕ)

-- ---- segments: a head, and entries

unfoldable pub head : ℕ → List ℕ
head base = segment_head base (codes "7231") (codes "shop") (codes "copy")

abbrev pub file : ℕ → List Entry → List ℕ
file base es = head base ++ entries_text bodies base es

abbrev pub size_of : ℕ → List Entry → ℕ
size_of base es = 1024 + length (entries_text bodies base es)

object_0 : length (segment_object 0 (codes "7231") (codes "shop") (codes "copy")) < 1024
unfolding lsn_text half_text digits escape_byte
object_0 = omega arith

object_560 : length (segment_object 560 (codes "7231") (codes "shop") (codes "copy")) < 1024
unfolding lsn_text half_text digits escape_byte
object_560 = omega arith

head_of : (base : ℕ) → base < 2 ^ 64 → length (segment_object base (codes "7231") (codes "shop") (codes "copy")) < 1024 → IsHead base (head base)
unfolding head
head_of base fits short = record {
  system = codes "7231";
  database = codes "shop";
  slot = codes "copy";
  head_is = refl;
  size = padded_length 1024 (segment_object base (codes "7231") (codes "shop") (codes "copy")) short;
  base_fits = fits;
}

head_0 : IsHead 0 (head 0)
head_0 = head_of 0 (omega arith) object_0

head_560 : IsHead 560 (head 560)
head_560 = head_of 560 (omega arith) object_560

-- the head begins with the LSN
abbrev Begins : ℕ → Type 0
Begins base = (more : List ℕ) × (head base ≡ segment_front base ++ more)

head_begins : (base : ℕ) → Begins base
unfolding head
head_begins base = (_, append_assoc (segment_front base) (segment_rest (codes "7231") (codes "shop") (codes "copy")) _)

-- lines that tell all definitions stand anywhere
own_body : (front : List ℕ) (at : ℕ) (e : Entry) → length front ≡ at → IsBody front e (entry_body [] at e)
own_body front at e long = record { told = []; stand = tt; body_is = ap (λ k. entry_body [] k e) (sym long) }

first_body : (base prev : ℕ) (e : Entry) → IsHead base (head base) → FitsEntry prev e (entry_body [] 1280 e)
    → IsBody (head base ++ entry_line prev e (entry_body [] 1280 e)) e (entry_body [] 1280 e)
first_body base prev e is fits =
    let line : List ℕ = entry_line prev e (entry_body [] 1280 e) in
    own_body (head base ++ line) 1280 e
    (omega (arith, is.size, own_length prev e (entry_body [] 1280 e) fits, length-append (head base) line))

-- behind another entry
next_size : (front : List ℕ) (size prev : ℕ) (e : Entry) (body : List ℕ) → length front ≡ size → FitsEntry prev e body
    → length (front ++ entry_text prev e body) ≡ size + (256 + length body)
next_size front size prev e body long fits =
    omega (arith, long, entry_length prev e body fits, length-append front (entry_text prev e body))

next_body : (front : List ℕ) (size at prev : ℕ) (e : Entry) → length front ≡ size → size + 256 ≡ at
    → FitsEntry prev e (entry_body [] at e)
    → IsBody (front ++ entry_line prev e (entry_body [] at e)) e (entry_body [] at e)
next_body front size at prev e long there fits =
    let line : List ℕ = entry_line prev e (entry_body [] at e) in
    own_body (front ++ line) at e
    (omega (arith, long, there, own_length prev e (entry_body [] at e) fits, length-append front line))

written_three : AreWritten bodies (head 0) 0 first_three
written_three =
    let small : 0 < 2 ^ 64 = omega arith in
    let front_11 : List ℕ = head 0 ++ entry_text 0 entry_10 body_10 in
    let size_of_11 : length front_11 ≡ 1024 + (256 + length body_10) =
    next_size (head 0) 1024 0 entry_10 body_10 head_0.size (fits_10 0 small) in
    let front_12 : List ℕ = front_11 ++ entry_text 304 entry_11 body_11 in
    let size_of_12 : length front_12 ≡ 1024 + (256 + length body_10) + (256 + length body_11) =
    next_size front_11 (1024 + (256 + length body_10)) 304 entry_11 body_11 size_of_11 (fits_11 304 (omega arith)) in (
      fits_10 0 small,
      first_body 0 0 entry_10 head_0 (fits_10 0 small),
      (
        fits_11 304 (omega arith),
        next_body front_11 (1024 + (256 + length body_10)) 1717 304 entry_11 size_of_11 (omega (arith, size_10))
            (fits_11 304 (omega arith)),
        (
          fits_12 448 (omega arith),
          next_body front_12 (1024 + (256 + length body_10) + (256 + length body_11)) 2154 448 entry_12 size_of_12
              (omega (arith, size_10, size_11)) (fits_12 448 (omega arith)),
          tt,
        ),
      ),
    )

written_10 : AreWritten bodies (head 0) 0 (entry_10 ∷ [])
written_10 = written_front bodies (head 0) 0 (entry_10 ∷ []) (entry_11 ∷ entry_12 ∷ []) written_three

written_14 : AreWritten bodies (head 560) 560 (entry_13 ∷ entry_14 ∷ [])
written_14 =
    let front : List ℕ = head 560 ++ entry_text 560 entry_13 body_13 in
    let long : length front ≡ 1024 + (256 + length body_13) =
    next_size (head 560) 1024 560 entry_13 body_13 head_560.size (fits_13 560 (omega arith)) in (
      fits_13 560 (omega arith),
      first_body 560 560 entry_13 head_560 (fits_13 560 (omega arith)),
      (
        fits_14 672 (omega arith),
        next_body front (1024 + (256 + length body_13)) 1717 672 entry_14 long (omega (arith, size_13)) (fits_14 672 (omega arith)),
        tt,
      ),
    )

written_13 : AreWritten bodies (head 560) 560 (entry_13 ∷ [])
written_13 = written_front bodies (head 560) 560 (entry_13 ∷ []) (entry_14 ∷ []) written_14

split : (base : ℕ) (told later : List Entry)
    → file base (told ++ later) ≡ file base told ++ entries_text bodies (last_end base told) later
split base told later = ap (λ xs. head base ++ xs) (text_append bodies base told later)
    ∙ sym (append_assoc (head base) (entries_text bodies base told) (entries_text bodies (last_end base told) later))

long : (base : ℕ) (es : List Entry) → IsHead base (head base) → length (file base es) ≡ size_of base es
long base es is = omega (arith, is.size, length-append (head base) (entries_text bodies base es))

keeps : (base : ℕ) (known : List Told) (es : List Entry) → known ≡ [] → IsHead base (head base) → AreEntries base es
    → AreWritten bodies (head base) base es
    → KeepsEntries base (last_end base es) (size_of base es) known (file base es) es
keeps base known es none is are written = record {
  head = head base;
  bodies = bodies;
  rest = [];
  is_head = is;
  file_is = ap (λ xs. head base ++ xs) (sym (append-nil (entries_text bodies base es)));
  size_is = refl;
  entries = are;
  written = written;
  stand = subst (AllByRecursion (Stands (file base es))) (sym none) tt;
  last_is = refl;
}

lasts : (base : ℕ) (told later : List Entry) → IsHead base (head base) → AreEntries base told → AreWritten bodies (head base) base told
    → Lasts base (size_of base (told ++ later)) (may_leave (file base (told ++ later))) (last_end base told)
lasts base told later is are written = (
  file base told,
  record {
    is_front = record {
      head = head base;
      bodies = bodies;
      told = told;
      is_head = is;
      entries = are;
      written = written;
      ends = refl;
      front_is = refl;
    };
    within = omega (
      arith,
      long base told is,
      long base (told ++ later) is,
      ap length (split base told later),
      length-append (file base told) (entries_text bodies (last_end base told) later),
    );
    each = λ left is_all. (entries_text bodies (last_end base told) later, is_all ∙ split base told later);
  },
)

found : (base : ℕ) (told later : List Entry) → IsHead base (head base) → AreEntries base told → AreWritten bodies (head base) base told
    → IsFound base (last_end base told) (file base (told ++ later)) (size_of base told)
found base told later is are written =
    let begins : Begins base = head_begins base in
    let all = file base (told ++ later) in
    let own = entries_text bodies base told in
    let rest = entries_text bodies (last_end base told) later in
    let behind : drop 1024 all ≡ own ++ rest =
    drop_front 1024 (head base) (entries_text bodies base (told ++ later)) is.size ∙ text_append bodies base told later in
    record {
      marks = mapped (mark_of bodies) told;
      entries_size = length own;
      more = begins.0;
      head = take_front 1024 (head base) (entries_text bodies base (told ++ later)) is.size ∙ begins.1;
      head_within = omega (arith, long base (told ++ later) is);
      walk = subst (λ xs. Walks base (mapped (mark_of bodies) told) xs (last_end base told) (length own)) (sym behind)
          (over_entries bodies (head base) base told rest are written);
      size_is = refl;
    }

-- the last commit has its checksum
tested : (base : ℕ) (e : Entry) (later : List Entry) → IsHead base (head base) → AreEntries base (e ∷ [])
    → AreWritten bodies (head base) base (e ∷ [])
    → EndsTested e.end (file base (e ∷ later)) (size_of base (e ∷ []))
tested base e later is are written =
    subst (λ xs. EndsTested e.end (head base ++ xs) (size_of base (e ∷ []))) (sym (text_append bodies base (e ∷ []) later))
    (last_tested bodies base (head base) (entries_text bodies e.end later) [] e is.size are written)

-- what follows is cut off
cut : (base : ℕ) (told later : List Entry) → IsHead base (head base)
    → IsCut (file base (told ++ later)) (size_of base told) (file base told) (may_leave (file base told))
cut base told later is = record {
  file_is = sym (ap (take (size_of base told)) (split base told later)
      ∙ take_front (size_of base told) (file base told) (entries_text bodies (last_end base told) later) (long base told is));
  synced = λ left is_all. is_all;
}

-- the folder has this file alone
alone_in : (base b : ℕ) (there left : List ℕ) (other : Folder) → base ≢ b → has ((base, there) ∷ []) b left → has other b left
alone_in base b there left other away (inl at) = absurd (away at.0)
alone_in base b there left other away (inr none) = absurd none

-- ---- the feeds: any feed's allocator, names and limits, without a segment that has ended and is
-- still held, a definition that is told, or a message that was heard

module _ (any : MemoryFeed) (alone : any.ended.items ≡ []) (untold : any.segment.told.items ≡ [])
    (unheard : all_heard any.hearing ≡ Some []) where
  abbrev pub feed_in : Folder → ℕ → ℕ → List Entry → MemoryFeed
  feed_in folder begins base es = record any {
    folder = folder;
    begins = begins;
    synced = last_end base es;
    first = None;
    segment = record any.segment { base = base; last = last_end base es; size = size_of base es; disk = file base es; is_stuck = false };
  }

  pub honest : (folder : Folder) (begins base : ℕ) (es : List Entry)
      → IsHonestFeed shows may_leave is_clean is_true places has (feed_in folder begins base es)
  honest folder begins base es = record {
    folder = tt;
    ended = subst (AllByRecursion (λ (s : Segment (List ℕ)). IsTrue (is_clean s.disk))) (sym alone) tt;
    file = refl;
  }

  -- run one: a new feed in an empty folder
  abbrev pub feed_1 : MemoryFeed
  feed_1 = feed_in ((0, file 0 []) ∷ []) 0 0 []

  pub opened_1 : OpensIn shows may_leave is_clean is_true places has [] 0 feed_1
  opened_1 = record {
    alone = alone;
    last = refl;
    free = refl;
    synced = refl;
    untimed = refl;
    unheard = unheard;
    cuts = λ _. record {
      bases = [];
      above = [];
      there = inr (refl, refl, refl, (keeps 0 any.segment.told.items [] untold head_0 tt tt, lasts 0 [] [] head_0 tt tt));
      removed = tt;
      stay = refl;
      first = refl;
      same = λ b left away at. alone_in 0 b (file 0 []) left [] away at;
    };
  }

  -- it has xid 10, which is stored, and xids 11 and 12, which the store failed to settle
  abbrev pub folder_1 : Folder
  folder_1 = (0, file 0 first_three) ∷ []

  abbrev pub feed_1_ended : MemoryFeed
  feed_1_ended = feed_in folder_1 0 0 first_three

  -- a crash leaves all of it
  pub left_1 : IsLeftOf shows may_leave is_clean is_true places has feed_1_ended 304 [] folder_1
  left_1 = record {
    honest = honest folder_1 0 0 first_three;
    rest = refl;
    ended = tt;
    front = inl refl;
    each = λ b left at. open_one b left at;
  }
    where
      open_one : (b : ℕ) (left : List ℕ) → has folder_1 b left → LeavesAt may_leave has feed_1_ended b left
      open_one b left (inl at) = inl (at.0, sym at.1)
      open_one b left (inr none) = absurd none

  -- run two: it is opened at the store's position, and what the store lacks is cut off
  abbrev pub feed_2 : MemoryFeed
  feed_2 = feed_in ((0, file 0 (entry_10 ∷ [])) ∷ []) 0 0 (entry_10 ∷ [])

  pub opened_2 : OpensIn shows may_leave is_clean is_true places has folder_1 304 feed_2
  opened_2 = record {
    alone = alone;
    last = refl;
    free = refl;
    synced = refl;
    untimed = refl;
    unheard = unheard;
    cuts = λ _. record {
      bases = [];
      above = [];
      there = inl (
        refl,
        (
          file 0 first_three,
          inl (refl, refl),
          record {
            up = omega arith;
            untold = untold;
            found = found 0 (entry_10 ∷ []) (entry_11 ∷ entry_12 ∷ []) head_0 are_10 written_10;
            tested = λ _. tested 0 entry_10 (entry_11 ∷ entry_12 ∷ []) head_0 are_10 written_10;
            cut = cut 0 (entry_10 ∷ []) (entry_11 ∷ entry_12 ∷ []) head_0;
          },
        ),
      );
      removed = tt;
      stay = refl;
      first = refl;
      same = λ b left away at. alone_in 0 b (file 0 (entry_10 ∷ [])) left folder_1 away at;
    };
  }

  -- xids 11 and 12 are appended again, the segment ends, and the next one gets xid 13
  abbrev pub ended_file : List ℕ
  ended_file = head 0 ++ (entries_text bodies 0 first_three ++ closing_line 560)

  abbrev pub folder_2 : Folder
  folder_2 = (0, ended_file) ∷ (560, file 560 (entry_13 ∷ [])) ∷ []

  abbrev pub feed_2_ended : MemoryFeed
  feed_2_ended = feed_in folder_2 0 560 (entry_13 ∷ [])

  -- others remove the segment that has ended
  abbrev pub folder_3 : Folder
  folder_3 = (560, file 560 (entry_13 ∷ [])) ∷ []

  pub left_2 : IsLeftOf shows may_leave is_clean is_true places has feed_2_ended 672 (0 ∷ []) folder_3
  left_2 = record {
    honest = honest folder_2 0 560 (entry_13 ∷ []);
    rest = refl;
    ended = (omega arith, tt);
    front = inr (omega arith);
    each = λ b left at. open_one b left at;
  }
    where
      open_one : (b : ℕ) (left : List ℕ) → has folder_3 b left → LeavesAt may_leave has feed_2_ended b left
      open_one b left (inl at) = inl (at.0, sym at.1)
      open_one b left (inr none) = absurd none

  -- run three: the feed begins at the segment that is left
  abbrev pub feed_3 : MemoryFeed
  feed_3 = feed_in folder_3 560 560 (entry_13 ∷ [])

  pub opened_3 : OpensIn shows may_leave is_clean is_true places has folder_3 672 feed_3
  opened_3 = record {
    alone = alone;
    last = refl;
    free = refl;
    synced = refl;
    untimed = refl;
    unheard = unheard;
    cuts = λ _. record {
      bases = [];
      above = [];
      there = inl (
        refl,
        (
          file 560 (entry_13 ∷ []),
          inl (refl, refl),
          record {
            up = omega arith;
            untold = untold;
            found = found 560 (entry_13 ∷ []) [] head_560 are_13 written_13;
            tested = λ _. tested 560 entry_13 [] head_560 are_13 written_13;
            cut = cut 560 (entry_13 ∷ []) [] head_560;
          },
        ),
      );
      removed = tt;
      stay = refl;
      first = refl;
      same = λ b left away at. at;
    };
  }

  abbrev pub feed_3_ended : MemoryFeed
  feed_3_ended = feed_in ((560, file 560 (entry_13 ∷ entry_14 ∷ [])) ∷ []) 560 560 (entry_13 ∷ entry_14 ∷ [])

  -- ---- what each of them keeps

  abbrev pub Keeps : MemoryFeed → List Entry → Type 0
  Keeps = KeepsAll shows may_leave is_clean is_true places has

  one_segment : (base : ℕ) (es : List Entry) → IsHead base (head base) → AreEntries base es → AreWritten bodies (head base) base es
      → Keeps (feed_in ((base, file base es) ∷ []) base base es) es
  one_segment base es is are written = record {
    before = [];
    now = es;
    is = refl;
    entries = tt;
    ends = refl;
    kept = keeps base any.segment.told.items es untold is are written;
    whole = λ _. record {
      bases = [];
      above = [];
      there = refl;
      below = subst (AllByRecursion (λ (e : Segment (List ℕ)). e.base < base)) (sym alone) tt;
      ended = (refl, refl);
      over = inl refl;
      free = λ _. refl;
    };
  }

  -- whatever a crash leaves of the segment that has ended is what was written
  only_ended : (left : List ℕ) → LeavesAt may_leave has feed_2_ended 0 left → left ≡ ended_file
  only_ended left (inl is_open) = absurd (omega (arith, is_open.0))
  only_ended left (inr (other, inl held)) = absurd (none_held any.ended.items alone held)
    where
      none_held : (ended : List (Segment (List ℕ))) → ended ≡ [] → SomeLeaves may_leave ended 0 left → ⊥
      none_held [] e none = none
      none_held (s ∷ ended) e some = absurd (cc)
  only_ended left (inr (other, inr (away, inl at))) = sym at.1
  only_ended left (inr (other, inr (away, inr (inl at)))) = absurd (omega (arith, at.0))
  only_ended left (inr (other, inr (away, inr (inr none)))) = absurd none

  is_ended : IsEnded 0 560 first_three (LeavesAt may_leave has feed_2_ended 0)
  is_ended = record {
    rises = omega arith;
    text = ended_file;
    finished = record {
      head = head 0;
      bodies = bodies;
      is_head = head_0;
      file_is = refl;
      entries = are_three;
      written = written_three;
      last_is = refl;
      synced = only_ended;
    };
  }

  two_segments : Keeps feed_2_ended (first_three ++ entry_13 ∷ [])
  two_segments = record {
    before = first_three;
    now = entry_13 ∷ [];
    is = refl;
    entries = are_three;
    ends = refl;
    kept = keeps 560 any.segment.told.items (entry_13 ∷ []) untold head_560 are_13 written_13;
    whole = λ _. record {
      bases = 0 ∷ [];
      above = [];
      there = refl;
      below = subst (AllByRecursion (λ (e : Segment (List ℕ)). e.base < 560)) (sym alone) tt;
      ended = (560, first_three, [], refl, refl, is_ended, (refl, refl));
      over = inl refl;
      free = λ _. refl;
    };
  }

  -- ---- what each of them records: as it is opened and as its run leaves it

  abbrev Records : MemoryFeed → Tables → ℕ → ℕ → Type 0
  Records = RecordsRest shows may_leave is_clean is_true places has

  pub keeps_1 : Keeps feed_1_ended first_three
  keeps_1 = one_segment 0 first_three head_0 are_three written_three

  -- amid a group: of what the feed tells, the store has xid 10 alone
  pub recorded_1 : Records feed_1_ended tables_304 304 560
  recorded_1 = record {
    base = map.empty;
    told = entry_10 ∷ [];
    later = entry_11 ∷ entry_12 ∷ [];
    kept = record {
      gone = [];
      stay = first_three;
      is = refl;
      begins_is = refl;
      kept = one_segment 0 first_three head_0 are_three written_three;
    };
    leads = lead_10 [] tables_304 304 (refl, refl);
    lasting = (omega arith, (omega arith, λ _. lasts 0 (entry_10 ∷ []) (entry_11 ∷ entry_12 ∷ []) head_0 are_10 written_10));
    above = (omega arith, (omega arith, tt));
    none = λ free same. absurd (omega (arith, same));
  }

  -- and if the store had all of them
  pub recorded_1_all : Records feed_1_ended tables_560 560 560
  recorded_1_all = record {
    base = map.empty;
    told = first_three;
    later = [];
    kept = record {
      gone = [];
      stay = first_three;
      is = refl;
      begins_is = refl;
      kept = one_segment 0 first_three head_0 are_three written_three;
    };
    leads = lead_10 (entry_11 ∷ entry_12 ∷ []) tables_560 560 (lead_12 [] tables_560 560 (refl, refl));
    lasting = (omega arith, (omega arith, λ _. lasts 0 first_three [] head_0 are_three written_three));
    above = tt;
    none = λ _ _. refl;
  }

  abbrev records_2 : Records feed_2_ended tables_672 672 672
  records_2 = record {
    base = map.empty;
    told = first_three ++ entry_13 ∷ [];
    later = [];
    kept = record { gone = []; stay = first_three ++ entry_13 ∷ []; is = refl; begins_is = refl; kept = two_segments };
    leads = lead_10 (entry_11 ∷ entry_12 ∷ entry_13 ∷ []) tables_672 672
        (lead_12 (entry_13 ∷ []) tables_672 672 (lead_13 [] tables_672 672 (refl, refl)));
    lasting = (omega arith, (omega arith, λ _. lasts 560 (entry_13 ∷ []) [] head_560 are_13 written_13));
    above = tt;
    none = λ _ _. refl;
  }

  -- of the entries of the segment that has gone nothing is kept
  abbrev records_3 : Records feed_3_ended tables_816 816 816
  records_3 = record {
    base = map.empty;
    told = first_three ++ entry_13 ∷ entry_14 ∷ [];
    later = [];
    kept = record {
      gone = first_three;
      stay = entry_13 ∷ entry_14 ∷ [];
      is = refl;
      begins_is = refl;
      kept = one_segment 560 (entry_13 ∷ entry_14 ∷ []) head_560 are_14 written_14;
    };
    leads = lead_10 (entry_11 ∷ entry_12 ∷ entry_13 ∷ entry_14 ∷ []) tables_816 816
        (lead_12 (entry_13 ∷ entry_14 ∷ []) tables_816 816 leads_560);
    lasting = (omega arith, (omega arith, λ _. lasts 560 (entry_13 ∷ entry_14 ∷ []) [] head_560 are_14 written_14));
    above = tt;
    none = λ _ _. refl;
  }

  pub recorded_2 : Records feed_2_ended tables_672 672 672
  recorded_2 = records_2

  pub recorded_3 : Records feed_3_ended tables_816 816 816
  recorded_3 = records_3

  -- from the segment that is left its entries lead to the last rows
  pub led_3 : LeadsFrom shows may_leave is_clean is_true places has feed_3_ended tables_816 816
  led_3 = record {
    base = tables_560;
    told = entry_13 ∷ entry_14 ∷ [];
    later = [];
    kept = one_segment 560 (entry_13 ∷ entry_14 ∷ []) head_560 are_14 written_14;
    leads = leads_560;
  }

  -- and which commits those tell that came since its run began
  abbrev RecordsAll : MemoryFeed → ℕ → List TakenCommit → Tables → ℕ → ℕ → Type 0
  RecordsAll = RecordsSince told_from (KeepsRest shows may_leave is_clean is_true places has)
      (LastsFrom shows may_leave is_clean is_true places has) is_stuck_feed

  -- the first one came again, and is told once
  pub told_2 : RecordsAll feed_2_ended 304 (taken_11 ∷ taken_12 ∷ taken_13 ∷ []) tables_672 672 672
  told_2 = record {
    records = records_2;
    since = record {
      before = entry_10 ∷ [];
      since = entry_11 ∷ entry_12 ∷ entry_13 ∷ [];
      are = refl;
      mid = tables_304;
      leads = lead_10 [] tables_304 304 (refl, refl);
      tells = tells_12 (entry_13 ∷ []) (taken_13 ∷ []) tables_672 672 tells_13;
    };
  }

  pub told_3 : RecordsAll feed_3_ended 672 (taken_14 ∷ []) tables_816 816 816
  told_3 = record {
    records = records_3;
    since = record {
      before = first_three ++ entry_13 ∷ [];
      since = entry_14 ∷ [];
      are = refl;
      mid = tables_672;
      leads = lead_10 (entry_11 ∷ entry_12 ∷ entry_13 ∷ []) tables_672 672
          (lead_12 (entry_13 ∷ []) tables_672 672 (lead_13 [] tables_672 672 (refl, refl)));
      tells = tells_14;
    };
  }
