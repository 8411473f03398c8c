-- What the calls of a feed leave of its segments.
use Rattle.std.proofs.Common.{◌≡◌, ◌≢◌, ◌⊎◌, inl, inr, ◌<◌, ◌≤◌, ◌+◌, ℕ, List, [], ◌∷◌, ◌++◌}
use Rattle.std.proofs.Common.{length, append-nil, append_assoc, ap, refl, sym, ◌∙◌, subst, arith}
use Rattle.std.proofs.Common.{Result, Ok, Err, true, false}
use Rattle.std.specs.Prelude.{Bool, IsTrue, OnErr, string_bytes}
use Rattle.std.specs.List.{AllByRecursion}
use Rattle.sqlite_disk.specs.Disk.{Holds, Only}
use Rattle.pgledger.specs.Entries.{Entry, last_end}
use Rattle.pgfeed.specs.declared.feed.Feed.{Feed}
use Rattle.pgfeed.specs.declared.segment.Segment.{Segment}
use Rattle.pgfeed.specs.Reading.{AreEntries}
use Rattle.pgfeed.specs.Segments.{IsEnded, KeepsEntries, Lasts, LastsAs}
use Rattle.pgfeed.specs.Segments.{HasWhatLasts, ChangesBehind}
use Rattle.pgfeed.specs.declared.told.Told.{Told}
use Rattle.pgfeed.specs.Next.{Adds, IsNext, Remembers, next_body, next_told}
use Rattle.pgfeed.specs.declared.entries.Piece.{Piece}
use Rattle.pgfeed.specs.Cutting.Walking.{entry_length}
use Rattle.pgfeed.specs.Feeds.{AreEnded, BeginAt, Follow, Goes, HasHeadAt}
use Rattle.pgfeed.specs.Feeds.{IsHonestFeed, IsLeftIn, KeepsAll, LastsUpTo, LeavesAt}
use Rattle.pgfeed.specs.Feeds.{MayHave, ReopensAt, SomeLeaves}
use Rattle.pgfeed.specs.Feeds.{TakesAllBack}
use Rattle.pgfeed.specs.Cutting.Following.{all_last, ended_below, ended_less}
use Rattle.pgfeed.specs.Cutting.Opened.{lasts_as}
use Rattle.pgfeed.proofs.Calls.{appended, lasts_more, lasts_there, synced_lasts, untold}
use Rattle.pgfeed.proofs.Calls.{writes_same}

-- what holds anyhow
pub on_err : {T E P : Type 0} (r : Result T E) → P → OnErr r P
on_err (Ok x) h = tt
on_err (Err e) h = h

-- ---- an open segment

module _ {D : Type 0} (seen : D → List ℕ) (may_leave : D → List ℕ → Type 0) where
  -- what is written behind the commits
  pub record Writes (old new : Segment D) : Type 0 where
    pub base_is : new.base ≡ old.base
    pub size_up : old.size ≤ new.size
    pub last_up : old.last ≤ new.last
    pub behind : ChangesBehind old.size (seen old.disk) (seen new.disk) (may_leave old.disk) (may_leave new.disk)

  pub writes_line : (old new : Segment D) → new.base ≡ old.base → new.last ≡ old.last → new.size ≡ old.size
      → ChangesBehind old.size (seen old.disk) (seen new.disk) (may_leave old.disk) (may_leave new.disk) → Writes old new
  writes_line old new base last size behind = record { base_is = base; size_up = omega arith; last_up = omega arith; behind = behind }

  pub writes_nothing : (old new : Segment D) → new.base ≡ old.base → new.last ≡ old.last → new.size ≡ old.size
      → seen new.disk ≡ seen old.disk
      → ((c : List ℕ) → may_leave new.disk c → may_leave old.disk c) → Writes old new
  writes_nothing old new base last size same less =
      writes_line old new base last size
      (writes_same old.size (seen old.disk) (seen new.disk) (may_leave old.disk) (may_leave new.disk) same less)

  pub writes_stopped : (old new : Segment D) → new ≡ record old { is_stuck = true } → Writes old new
  writes_stopped old new is =
      writes_nothing old new (ap (λ (s : Segment D). s.base) is) (ap (λ (s : Segment D). s.last) is) (ap (λ (s : Segment D). s.size) is)
      (ap (λ (s : Segment D). seen s.disk) is)
      (λ c left. subst (λ (s : Segment D). may_leave s.disk c) is left)

pub remembers_as : (told other now : List Told) → told ≡ other → Remembers told now → Remembers other now
remembers_as told other now same (inl all) = inl (subst (λ (ts : List Told). length ts ≤ 1024) same all.0, all.1 ∙ same)
remembers_as told other now same (inr none) = inr (subst (λ (ts : List Told). 1024 < length ts) same none.0, none.1)

pub adds_piece : {D : Type 0} (seen : D → List ℕ) (old new : Segment D) (e : Entry) (piece : Piece) → IsNext old e piece
    → (0 < length (string_bytes piece.text) → Holds (seen new.disk) old.size (string_bytes piece.text))
    → new.size ≡ old.size + length (string_bytes piece.text) → new.last ≡ e.end
    → Remembers (old.told.items ++ piece.told.items) new.told.items → Adds seen old new e
adds_piece seen old new e piece next written size last told =
    let long = entry_length old.last e (next_body old e) next.fits in
    let some : 0 < length (string_bytes piece.text) = omega (arith, ap length next.text, long) in
    record {
      above = next.above;
      fits = next.fits;
      holds = subst (λ bytes. Holds (seen new.disk) old.size bytes) next.text (written some);
      size_is = size ∙ ap (λ bytes. old.size + length bytes) next.text;
      last_is = last;
      told_is = remembers_as (old.told.items ++ piece.told.items) (next_told old e) new.told.items next.told told;
    }

-- ---- LSNs and lists

pub follow_less : (b b' l l' : ℕ) (more : List ℕ) → b' ≤ b → l' ≤ l → Follow b l more → Follow b' l' more
follow_less b b' l l' [] base last f = tt
follow_less b b' l l' (m ∷ more) base last f = let first = f.0 in let second = f.1 in (omega arith, omega arith, f.2)

-- those that follow a segment at its end follow also one that ends no earlier
at_end : (b l l' : ℕ) (more : List ℕ) → Follow b l more → l' ≤ l → BeginAt l' more → l ≡ l'
at_end b l l' [] f up at = absurd at
at_end b l l' (m ∷ more) f up at = let low = f.1 in omega arith

pub at_as : (l l' : ℕ) (more : List ℕ) → l ≡ l' → BeginAt l' more → BeginAt l more
at_as l l' [] same at = absurd at
at_as l l' (m ∷ more) same at = at ∙ sym same

pub ended_at : (b b' l l' : ℕ) (own own' : List Entry) (outcomes : ℕ → List ℕ → Type 0) → b ≡ b' → l ≡ l' → own ≡ own'
    → IsEnded b l own (outcomes b) → IsEnded b' l' own' (outcomes b')
ended_at b b' l l' own own' outcomes begins ends same e =
    subst (λ x. IsEnded x l' own' (outcomes x)) begins
    (subst (λ x. IsEnded b x own' (outcomes b)) ends (subst (λ x. IsEnded b l x (outcomes b)) same e))

-- fewer outcomes of segments that have ended
pub all_less : (before after : ℕ → List ℕ → Type 0) (at : ℕ) (bases : List ℕ) (next top : ℕ) (es : List Entry)
    → ((b : ℕ) (text : List ℕ) → b < top → after b text → before b text)
    → AllByRecursion (λ b. b < top) bases
    → AreEnded before at bases next es → AreEnded after at bases next es
all_less before after at [] next top es less low e = e
all_less before after at (b ∷ bases) next top es less low e = (
  e.0,
  e.1,
  e.2,
  e.3,
  e.4,
  ended_less b e.0 e.1 (before b) (after b) (λ text may. less b text low.0 may) e.5,
  all_less before after e.0 bases next top e.2 less low.1 e.6,
)

-- ---- the files that a feed has

module _ {F D : Type 0} (may_leave : D → List ℕ → Type 0) (has : F → ℕ → List ℕ → Type 0) where
  of_none : (ended : List (Segment D)) (folder : F) (b : ℕ) (text : List ℕ) → ended ≡ [] → MayHave may_leave has ended folder b text
      → has folder b text
  of_none [] folder b text none (inl some) = absurd some
  of_none [] folder b text none (inr had) = had.1
  of_none (e ∷ ended) folder b text none had = cc

  none_above : (ended : List (Segment D)) (base b : ℕ) (text : List ℕ) → AllByRecursion (λ (e : Segment D). e.base < base) ended → base < b
      → SomeLeaves may_leave ended b text → ⊥
  none_above [] base b text low up some = some
  none_above (e ∷ ended) base b text low up (inl here) = let first = low.0 in let same = here.0 in omega arith
  none_above (e ∷ ended) base b text low up (inr more) = none_above ended base b text low.1 up more

  -- of a segment above these the folder's is what is left
  pub of_folder : (ended : List (Segment D)) (folder : F) (base b : ℕ) (text : List ℕ)
      → AllByRecursion (λ (e : Segment D). e.base < base) ended → base < b → MayHave may_leave has ended folder b text → has folder b text
  of_folder ended folder base b text low up (inl some) = absurd (none_above ended base b text low up some)
  of_folder ended folder base b text low up (inr had) = had.1

pub true_false : true ≡ false → ⊥
true_false e = cc

module _ {F D : Type 0} (seen : D → List ℕ) (may_leave : D → List ℕ → Type 0) (is_clean : D → Bool) (is_true : F → Type 0)
    (places : F → List ℕ) (has : F → ℕ → List ℕ → Type 0) where
  abbrev pub Keeps : Feed F D → List Entry → Type 0
  Keeps l es = KeepsAll seen may_leave is_clean is_true places has l es

  abbrev pub Honest : Feed F D → Type 0
  Honest l = IsHonestFeed seen may_leave is_clean is_true places has l

  abbrev pub Left : Feed F D → ℕ → List Entry → List ℕ → F → Type 0
  Left l p now gone folder = IsLeftIn seen may_leave is_clean is_true places has l p now gone folder

  abbrev pub Reopened : Feed F D → ℕ → Feed F D → Type 0
  Reopened l p other = ReopensAt seen may_leave is_clean is_true places has l p other

  -- Whatever the old feed keeps the new one keeps, with those as its open segment's, which are the
  -- same where that ends at the same LSN.
  record KeepsAs (old new : Feed F D) (es : List Entry) (k : Keeps old es) : Type 0 where
    pub told : List Entry
    pub keeps : Keeps new told
    pub same : new.segment.last ≡ old.segment.last → keeps.now ≡ k.now

  -- ---- the open segment is written

  pub record WritesOn (old new : Feed F D) : Type 0 where
    pub folder_is : new.folder ≡ old.folder
    pub ended_is : new.ended.items ≡ old.ended.items
    pub begins_is : new.begins ≡ old.begins
    pub writes : Writes seen may_leave old.segment new.segment
    pub clean : IsTrue (is_clean new.segment.disk) → IsTrue (is_clean old.segment.disk)

  honest_before : (old new : Feed F D) → WritesOn old new → Honest new → Honest old
  honest_before old new w h = record {
    folder = subst is_true w.folder_is h.folder;
    ended = subst (AllByRecursion (λ (e : Segment D). IsTrue (is_clean e.disk))) w.ended_is h.ended;
    file = w.clean h.file;
  }

  leaves_before : (old new : Feed F D) (b : ℕ) (text : List ℕ) → WritesOn old new → old.segment.base ≢ b → LeavesAt may_leave has new b text
      → LeavesAt may_leave has old b text
  leaves_before old new b text w other (inl here) = absurd (other (sym w.writes.base_is ∙ here.0))
  leaves_before old new b text w other (inr away) =
      inr (
        other,
        subst (λ es. MayHave may_leave has es old.folder b text) w.ended_is
            (subst (λ f. MayHave may_leave has new.ended.items f b text) w.folder_is away.1),
      )

  apart : (b base : ℕ) → b < base → base ≢ b
  apart b base less same = omega arith

  ended_before : (old new : Feed F D) (at : ℕ) (bases : List ℕ) (before : List Entry) → WritesOn old new → new.begins ≡ at
      → AreEnded (LeavesAt may_leave has old) at bases old.segment.base before
      → AreEnded (LeavesAt may_leave has new) new.begins bases new.segment.base before
  ended_before old new at bases before w begins e =
      let low = ended_below (LeavesAt may_leave has old) at bases old.segment.base before e in
      let less = all_less (LeavesAt may_leave has old) (LeavesAt may_leave has new) at bases old.segment.base old.segment.base before
      (λ b text under may. leaves_before old new b text w (apart b old.segment.base under) may) low e in
      subst (λ x. AreEnded (LeavesAt may_leave has new) new.begins bases x before) (sym w.writes.base_is)
      (subst (λ x. AreEnded (LeavesAt may_leave has new) x bases old.segment.base before) (sym begins) less)

  -- nothing follows it
  pub all_written : (old new : Feed F D) (more : List Entry) → WritesOn old new → old.segment.is_stuck ≡ false
      → ((es : List Entry)
      → KeepsEntries old.segment.base old.segment.last old.segment.size old.segment.told.items (seen old.segment.disk) es
      → KeepsEntries new.segment.base new.segment.last new.segment.size new.segment.told.items (seen new.segment.disk) (es ++ more))
      → (es : List Entry) → Keeps old es → Keeps new (es ++ more)
  all_written old new more w was each es k = record {
    before = k.before;
    now = k.now ++ more;
    is = ap (λ xs. xs ++ more) k.is ∙ append_assoc k.before k.now more;
    entries = subst (λ b. AreEntries b k.before) (sym w.begins_is) k.entries;
    ends = ap (λ b. last_end b k.before) w.begins_is ∙ k.ends ∙ sym w.writes.base_is;
    kept = each k.now k.kept;
    whole = λ honest.
        let was_whole = k.whole (honest_before old new w honest) in
        record {
          bases = was_whole.bases;
          above = [];
          there = ap places w.folder_is ∙ was_whole.there
              ∙ ap (λ xs. was_whole.bases ++ (old.segment.base ∷ xs)) (was_whole.free was)
              ∙ ap (λ b. was_whole.bases ++ (b ∷ [])) (sym w.writes.base_is);
          below = subst (λ b. AllByRecursion (λ (e : Segment D). e.base < b) new.ended.items) (sym w.writes.base_is)
              (subst (AllByRecursion (λ (e : Segment D). e.base < old.segment.base)) (sym w.ended_is) was_whole.below);
          ended = ended_before old new old.begins was_whole.bases k.before w w.begins_is was_whole.ended;
          over = inl refl;
          free = λ _. refl;
        };
  }

  -- it is as it was, but that it may be synced or stuck
  pub record StaysOn (old new : Feed F D) : Type 0 where
    pub on : WritesOn old new
    pub size_is : new.segment.size ≡ old.segment.size
    pub last_is : new.segment.last ≡ old.segment.last
    pub told_is : new.segment.told.items ≡ old.segment.told.items
    pub less : (c : List ℕ) → may_leave new.segment.disk c → may_leave old.segment.disk c
    pub stuck : new.segment.is_stuck ≡ false → old.segment.is_stuck ≡ false

  -- the segment is as it was, or it is stuck
  pub stays_beside : (old new : Feed F D) → new.folder ≡ old.folder → new.ended.items ≡ old.ended.items → new.begins ≡ old.begins
      → (new.segment ≡ old.segment) ⊎ (new.segment ≡ record old.segment { is_stuck = true }) → StaysOn old new
  stays_beside old new folder ended begins (inl same) = record {
    on = record {
      folder_is = folder;
      ended_is = ended;
      begins_is = begins;
      writes = writes_nothing seen may_leave old.segment new.segment (ap (λ (s : Segment D). s.base) same)
          (ap (λ (s : Segment D). s.last) same) (ap (λ (s : Segment D). s.size) same) (ap (λ (s : Segment D). seen s.disk) same)
          (λ c left. subst (λ (s : Segment D). may_leave s.disk c) same left);
      clean = subst (λ (s : Segment D). IsTrue (is_clean s.disk) → IsTrue (is_clean old.segment.disk)) (sym same) (λ clean. clean);
    };
    size_is = ap (λ (s : Segment D). s.size) same;
    last_is = ap (λ (s : Segment D). s.last) same;
    told_is = ap (λ (s : Segment D). s.told.items) same;
    less = λ c left. subst (λ (s : Segment D). may_leave s.disk c) same left;
    stuck = λ free. ap (λ (s : Segment D). s.is_stuck) (sym same) ∙ free;
  }
  stays_beside old new folder ended begins (inr stops) = record {
    on = record {
      folder_is = folder;
      ended_is = ended;
      begins_is = begins;
      writes = writes_stopped seen may_leave old.segment new.segment stops;
      clean = subst (λ (s : Segment D). IsTrue (is_clean s.disk) → IsTrue (is_clean old.segment.disk)) (sym stops) (λ clean. clean);
    };
    size_is = ap (λ (s : Segment D). s.size) stops;
    last_is = ap (λ (s : Segment D). s.last) stops;
    told_is = ap (λ (s : Segment D). s.told.items) stops;
    less = λ c left. subst (λ (s : Segment D). may_leave s.disk c) stops left;
    stuck = λ free. absurd (true_false (sym (ap (λ (s : Segment D). s.is_stuck) stops) ∙ free));
  }

  pub segment_stays : (old new : Segment D) → Writes seen may_leave old new → new.size ≡ old.size → new.last ≡ old.last
      → new.told.items ≡ old.told.items → (es : List Entry) → KeepsEntries old.base old.last old.size old.told.items (seen old.disk) es
      → KeepsEntries new.base new.last new.size new.told.items (seen new.disk) es
  segment_stays old new w stays ends tells es k =
      untold _ _ _ _ _ _ _ _ _ _ (may_leave old.disk) (may_leave new.disk) w.base_is stays ends tells w.behind es k

  pub segment_more : (old new : Segment D) → Writes seen may_leave old new → new.size ≡ old.size → new.last ≡ old.last
      → new.told.items ≡ old.told.items → (es : List Entry) → KeepsEntries old.base old.last old.size old.told.items (seen old.disk) es
      → KeepsEntries new.base new.last new.size new.told.items (seen new.disk) (es ++ [])
  segment_more old new w stays ends tells es k =
      subst (KeepsEntries new.base new.last new.size new.told.items (seen new.disk)) (sym (append-nil es))
      (segment_stays old new w stays ends tells es k)

  over_stays : (old new : Feed F D) (above : List ℕ) (now : List Entry) → StaysOn old new
      → (above ≡ []) ⊎ ((above ≡ old.segment.last ∷ []) × IsEnded old.segment.base old.segment.last now (may_leave old.segment.disk)
      × HasHeadAt has old.folder old.segment.last)
      → (above ≡ []) ⊎ ((above ≡ new.segment.last ∷ []) × IsEnded new.segment.base new.segment.last now (may_leave new.segment.disk)
      × HasHeadAt has new.folder new.segment.last)
  over_stays old new above now w (inl none) = inl none
  over_stays old new above now w (inr one) =
      let less = ended_less old.segment.base old.segment.last now (may_leave old.segment.disk) (may_leave new.segment.disk) w.less one.1 in
      inr (
        one.0 ∙ ap (λ l. l ∷ []) (sym w.last_is),
        ended_at old.segment.base new.segment.base old.segment.last new.segment.last now now (λ _. may_leave new.segment.disk)
            (sym w.on.writes.base_is) (sym w.last_is) refl less,
        subst (λ f. HasHeadAt has f new.segment.last) (sym w.on.folder_is) (subst (HasHeadAt has old.folder) (sym w.last_is) one.2),
      )

  pub all_stays : (old new : Feed F D) → StaysOn old new → (es : List Entry) → Keeps old es → Keeps new es
  all_stays old new w es k = record {
    before = k.before;
    now = k.now;
    is = k.is;
    entries = subst (λ b. AreEntries b k.before) (sym w.on.begins_is) k.entries;
    ends = ap (λ b. last_end b k.before) w.on.begins_is ∙ k.ends ∙ sym w.on.writes.base_is;
    kept = segment_stays old.segment new.segment w.on.writes w.size_is w.last_is w.told_is k.now k.kept;
    whole = λ honest.
        let was_whole = k.whole (honest_before old new w.on honest) in
        record {
          bases = was_whole.bases;
          above = was_whole.above;
          there = ap places w.on.folder_is ∙ was_whole.there
              ∙ ap (λ b. was_whole.bases ++ (b ∷ was_whole.above)) (sym w.on.writes.base_is);
          below = subst (λ b. AllByRecursion (λ (e : Segment D). e.base < b) new.ended.items) (sym w.on.writes.base_is)
              (subst (AllByRecursion (λ (e : Segment D). e.base < old.segment.base)) (sym w.on.ended_is) was_whole.below);
          ended = ended_before old new old.begins was_whole.bases k.before w.on w.on.begins_is was_whole.ended;
          over = over_stays old new was_whole.above k.now w was_whole.over;
          free = λ stands. was_whole.free (w.stuck stands);
        };
  }

  -- what was left of the new one was left of the old one
  left_before : (old new : Feed F D) (p : ℕ) (now later : List Entry) (gone : List ℕ) (folder : F) → WritesOn old new
      → (new.segment.last ≡ old.segment.last → later ≡ now) → Left new p later gone folder → Left old p now gone folder
  left_before old new p now later gone folder w same left = record {
    honest = honest_before old new w left.honest;
    stay = left.stay;
    above = left.above;
    more = left.more;
    had = ap places (sym w.folder_is) ∙ left.had ∙ ap (λ b. (gone ++ left.stay) ++ (b ∷ left.above)) w.writes.base_is;
    there = left.there ∙ ap (λ b. left.stay ++ (b ∷ left.more)) w.writes.base_is;
    ended = subst (λ b. AllByRecursion (λ x. x < b) (gone ++ left.stay)) w.writes.base_is left.ended;
    front = left.front;
    behind = let up = w.writes.last_up in
        follow_less new.segment.base old.segment.base new.segment.last old.segment.last left.more (omega (arith, w.writes.base_is)) up
        left.behind;
    each = λ b text under had.
        leaves_before old new b text w (apart b old.segment.base under) (left.each b text (omega (arith, w.writes.base_is)) had);
    lasting = λ text had front lasting.
        let there : has folder new.segment.base text = subst (λ b. has folder b text) (sym w.writes.base_is) had in
        let more : LastsAs old.segment.base new.segment.size (may_leave new.segment.disk) p front =
        lasts_as old.segment.base old.segment.size new.segment.size p (seen old.segment.disk) (seen new.segment.disk) front
        (may_leave old.segment.disk) (may_leave new.segment.disk) w.writes.size_up w.writes.behind lasting in
        left.lasting text there front
        (subst (λ b. LastsAs b new.segment.size (may_leave new.segment.disk) p front) (sym w.writes.base_is) more);
    done = λ at.
        let ends : new.segment.last ≡ old.segment.last =
        at_end new.segment.base new.segment.last old.segment.last left.more left.behind w.writes.last_up at in
        ended_at new.segment.base old.segment.base new.segment.last old.segment.last later now (has folder) w.writes.base_is ends
        (same ends)
        (left.done (at_as new.segment.last old.segment.last left.more ends at));
    heads = left.heads;
  }

  lasts_before : (old new : Feed F D) (p : ℕ) → WritesOn old new → LastsUpTo seen may_leave is_clean is_true places has old p
      → LastsUpTo seen may_leave is_clean is_true places has new p
  lasts_before old new p w h = (
    let up = h.0 in omega (arith, w.writes.last_up),
    λ from. lasts_more _ _ _ _ _ _ _ _ _ w.writes.base_is w.writes.size_up w.writes.behind (h.1 (omega (arith, w.writes.base_is))),
  )

  goes_writing : (old new : Feed F D) → WritesOn old new → ((es : List Entry) (k : Keeps old es) → KeepsAs old new es k)
      → Goes seen may_leave is_clean is_true places has old new
  goes_writing old new w keep = record {
    lasts_more = λ p h. lasts_before old new p w h;
    opens_less = λ p other opened es k up.
        let more = keep es k in
        let o = opened more.told more.keeps (omega (arith, w.writes.last_up)) in
        (o.0, o.1, left_before old new p k.now more.keeps.now o.0 o.1 w more.same o.2, o.3, o.4);
  }

  pub goes_stays : (old new : Feed F D) → StaysOn old new → Goes seen may_leave is_clean is_true places has old new
  unfolding all_stays
  goes_stays old new w =
      goes_writing old new w.on (λ es k. record { told = es; keeps = all_stays old new w es k; same = λ _. refl })

  -- a commit is written, or a part of it, or the line that ends the segment
  pub goes_more : (old new : Feed F D) (more : List Entry) → WritesOn old new → old.segment.is_stuck ≡ false
      → ((es : List Entry)
      → KeepsEntries old.segment.base old.segment.last old.segment.size old.segment.told.items (seen old.segment.disk) es
      → KeepsEntries new.segment.base new.segment.last new.segment.size new.segment.told.items (seen new.segment.disk) (es ++ more))
      → (new.segment.last ≡ old.segment.last → more ≡ []) → Goes seen may_leave is_clean is_true places has old new
  unfolding all_written
  goes_more old new more w was each none =
      goes_writing old new w (λ es k. record {
        told = es ++ more;
        keeps = all_written old new more w was each es k;
        same = λ ends. ap (λ xs. k.now ++ xs) (none ends) ∙ append-nil k.now;
      })

  -- a part of a commit is written, or the line that ends the segment
  pub goes_quiet : (old new : Feed F D) → WritesOn old new → old.segment.is_stuck ≡ false → new.segment.size ≡ old.segment.size
      → new.segment.last ≡ old.segment.last → new.segment.told.items ≡ old.segment.told.items
      → Goes seen may_leave is_clean is_true places has old new
  goes_quiet old new w was stays ends tells =
      goes_more old new [] w was (segment_more old.segment new.segment w.writes stays ends tells) (λ _. refl)

  pub all_quiet : (old new : Feed F D) → WritesOn old new → old.segment.is_stuck ≡ false → new.segment.size ≡ old.segment.size
      → new.segment.last ≡ old.segment.last → new.segment.told.items ≡ old.segment.told.items → (es : List Entry) → Keeps old es
      → Keeps new es
  all_quiet old new w was stays ends tells es k =
      subst (Keeps new) (append-nil es)
      (all_written old new [] w was (segment_more old.segment new.segment w.writes stays ends tells) es k)

  entry_more : (old new : Feed F D) (e : Entry) → WritesOn old new → Adds seen old.segment new.segment e
      → (es : List Entry)
      → KeepsEntries old.segment.base old.segment.last old.segment.size old.segment.told.items (seen old.segment.disk) es
      → KeepsEntries new.segment.base new.segment.last new.segment.size new.segment.told.items (seen new.segment.disk) (es ++ e ∷ [])
  entry_more old new e w adds es kept =
      appended _ _ _ _ _ _ _ _ _ _ (may_leave old.segment.disk) (may_leave new.segment.disk) e w.writes.base_is adds.last_is adds.size_is
      adds.told_is adds.above adds.fits adds.holds w.writes.behind es kept

  pub all_more : (old new : Feed F D) (e : Entry) → WritesOn old new → old.segment.is_stuck ≡ false → Adds seen old.segment new.segment e
      → (es : List Entry) → Keeps old es → Keeps new (es ++ e ∷ [])
  all_more old new e w was adds = all_written old new (e ∷ []) w was (entry_more old new e w adds)

  pub goes_end : (old new : Feed F D) (e : Entry) → WritesOn old new → old.segment.is_stuck ≡ false → Adds seen old.segment new.segment e
      → Goes seen may_leave is_clean is_true places has old new
  goes_end old new e w was adds =
      goes_more old new (e ∷ []) w was (entry_more old new e w adds) (λ same. absurd (omega (arith, adds.above, adds.last_is)))

  -- ---- the folder gets the files of those that have ended back

  pub record Returned (old new : Feed F D) : Type 0 where
    pub alone : new.ended.items ≡ []
    pub segment_is : new.segment ≡ old.segment
    pub begins_is : new.begins ≡ old.begins
    pub back : is_true new.folder → TakesAllBack may_leave is_clean is_true places has old.ended.items old.folder new.folder

  returned_honest : (old new : Feed F D) → Returned old new → Honest new → Honest old
  returned_honest old new r h =
      let back = r.back h.folder in
      record { folder = back.was_true; ended = back.clean; file = subst (λ (s : Segment D). IsTrue (is_clean s.disk)) r.segment_is h.file }

  returned_leaves : (old new : Feed F D) (b : ℕ) (text : List ℕ) → Returned old new → is_true new.folder → old.segment.base ≢ b
      → LeavesAt may_leave has new b text → LeavesAt may_leave has old b text
  returned_leaves old new b text r honest other (inl here) =
      absurd (other (ap (λ (s : Segment D). s.base) (sym r.segment_is) ∙ here.0))
  returned_leaves old new b text r honest other (inr away) =
      inr (other, (r.back honest).files b text (of_none may_leave has new.ended.items new.folder b text r.alone away.1))

  over_returned : (old new : Feed F D) (above : List ℕ) (now : List Entry) → Returned old new → is_true new.folder
      → AllByRecursion (λ (e : Segment D). e.base < old.segment.base) old.ended.items
      → (above ≡ []) ⊎ ((above ≡ old.segment.last ∷ []) × IsEnded old.segment.base old.segment.last now (may_leave old.segment.disk)
      × HasHeadAt has old.folder old.segment.last)
      → (above ≡ []) ⊎ ((above ≡ new.segment.last ∷ []) × IsEnded new.segment.base new.segment.last now (may_leave new.segment.disk)
      × HasHeadAt has new.folder new.segment.last)
  over_returned old new above now r honest low (inl none) = inl none
  over_returned old new above now r honest low (inr one) =
      inr (
        subst (λ (s : Segment D). above ≡ s.last ∷ []) (sym r.segment_is) one.0,
        subst (λ (s : Segment D). IsEnded s.base s.last now (may_leave s.disk)) (sym r.segment_is) one.1,
        subst (λ (s : Segment D). HasHeadAt has new.folder s.last) (sym r.segment_is)
            (λ text had. one.2 text (of_folder may_leave has old.ended.items old.folder old.segment.base old.segment.last text low
            one.1.rises ((r.back honest).files old.segment.last text had))),
      )

  pub all_returned : (old new : Feed F D) → Returned old new → (es : List Entry) → Keeps old es → Keeps new es
  all_returned old new r es k =
      let base : new.segment.base ≡ old.segment.base = ap (λ (s : Segment D). s.base) r.segment_is in
      record {
        before = k.before;
        now = k.now;
        is = k.is;
        entries = subst (λ b. AreEntries b k.before) (sym r.begins_is) k.entries;
        ends = ap (λ b. last_end b k.before) r.begins_is ∙ k.ends ∙ sym base;
        kept = subst (λ (s : Segment D). KeepsEntries s.base s.last s.size s.told.items (seen s.disk) k.now) (sym r.segment_is) k.kept;
        whole = λ honest.
            let was = k.whole (returned_honest old new r honest) in
            let low = ended_below (LeavesAt may_leave has old) old.begins was.bases old.segment.base k.before was.ended in
            let less = all_less (LeavesAt may_leave has old) (LeavesAt may_leave has new) old.begins was.bases old.segment.base
            old.segment.base k.before
            (λ b text under may. returned_leaves old new b text r honest.folder (apart b old.segment.base under) may) low was.ended in
            record {
              bases = was.bases;
              above = was.above;
              there = (r.back honest.folder).places_are ∙ was.there ∙ ap (λ b. was.bases ++ (b ∷ was.above)) (sym base);
              below = subst (AllByRecursion (λ (e : Segment D). e.base < new.segment.base)) (sym r.alone) tt;
              ended = subst (λ x. AreEnded (LeavesAt may_leave has new) new.begins was.bases x k.before) (sym base)
                  (subst (λ x. AreEnded (LeavesAt may_leave has new) x was.bases old.segment.base k.before) (sym r.begins_is) less);
              over = over_returned old new was.above k.now r honest.folder was.below was.over;
              free = λ stands. was.free (ap (λ (s : Segment D). s.is_stuck) (sym r.segment_is) ∙ stands);
            };
      }

  returned_left : (old new : Feed F D) (p : ℕ) (now : List Entry) (gone : List ℕ) (folder : F) → Returned old new
      → Left new p now gone folder → Left old p now gone folder
  returned_left old new p now gone folder r left =
      let base : new.segment.base ≡ old.segment.base = ap (λ (s : Segment D). s.base) r.segment_is in
      let back = r.back left.honest.folder in
      record {
        honest = returned_honest old new r left.honest;
        stay = left.stay;
        above = left.above;
        more = left.more;
        had = sym back.places_are ∙ left.had ∙ ap (λ b. (gone ++ left.stay) ++ (b ∷ left.above)) base;
        there = left.there ∙ ap (λ b. left.stay ++ (b ∷ left.more)) base;
        ended = subst (λ b. AllByRecursion (λ x. x < b) (gone ++ left.stay)) base left.ended;
        front = left.front;
        behind = subst (λ (s : Segment D). Follow s.base s.last left.more) r.segment_is left.behind;
        each = λ b text under had.
            returned_leaves old new b text r left.honest.folder (apart b old.segment.base under)
            (left.each b text (omega (arith, base)) had);
        lasting = subst (λ (s : Segment D). (text : List ℕ) → has folder s.base text
            → HasWhatLasts s.base s.size (may_leave s.disk) p text) r.segment_is left.lasting;
        done = subst (λ (s : Segment D). BeginAt s.last left.more → IsEnded s.base s.last now (has folder s.base)) r.segment_is left.done;
        heads = left.heads;
      }

  pub goes_returned : (old new : Feed F D) → Returned old new → Goes seen may_leave is_clean is_true places has old new
  unfolding all_returned
  goes_returned old new r = record {
    lasts_more = λ p h. subst (λ (s : Segment D). (p ≤ s.last) × (s.base ≤ p → Lasts s.base s.size (may_leave s.disk) p)) (sym r.segment_is)
        h;
    opens_less = λ p other opened es k up.
        let last : new.segment.last ≡ old.segment.last = ap (λ (s : Segment D). s.last) r.segment_is in
        let o = opened es (all_returned old new r es k) (omega (arith, last)) in
        (o.0, o.1, returned_left old new p k.now o.0 o.1 r o.2, o.3, o.4);
  }

  -- ---- one call after the other

  pub goes_nowhere : (l : Feed F D) → Goes seen may_leave is_clean is_true places has l l
  goes_nowhere l = record { lasts_more = λ p h. h; opens_less = λ p other opened. opened }

  pub goes_on_by : (old mid new : Feed F D) → Goes seen may_leave is_clean is_true places has old mid
      → Goes seen may_leave is_clean is_true places has mid new
      → Goes seen may_leave is_clean is_true places has old new
  goes_on_by old mid new first second = record {
    lasts_more = λ p h. second.lasts_more p (first.lasts_more p h);
    opens_less = λ p other opened. first.opens_less p other (second.opens_less p other opened);
  }

  -- what is synced
  pub all_lasts : (old new : Feed F D) (es : List Entry) → new.segment.base ≡ old.segment.base
      → new.segment.last ≡ old.segment.last → new.segment.size ≡ old.segment.size
      → Only (seen old.segment.disk) (may_leave new.segment.disk)
      → Keeps old es → LastsUpTo seen may_leave is_clean is_true places has new (last_end old.begins es)
  all_lasts old new es base last size only k =
      let there : last_end old.begins es ≡ old.segment.last = all_last seen may_leave is_clean is_true places has old es k in (
        omega arith,
        λ above. subst (λ q. Lasts new.segment.base new.segment.size (may_leave new.segment.disk) q) (sym k.kept.last_is ∙ sym there)
            (lasts_there old.segment.base new.segment.base old.segment.size new.segment.size (last_end old.segment.base k.now)
            (may_leave new.segment.disk) base size
            (synced_lasts _ _ _ _ _ (may_leave new.segment.disk) k.now k.kept only)),
      )

  -- it accepts nothing more
  pub stays_stopped : (old new : Feed F D) → new.folder ≡ old.folder → new.ended.items ≡ old.ended.items → new.begins ≡ old.begins
      → new.segment ≡ record old.segment { is_stuck = true } → StaysOn old new
  stays_stopped old new folder ended begins is = record {
    on = record {
      folder_is = folder;
      ended_is = ended;
      begins_is = begins;
      writes = writes_stopped seen may_leave old.segment new.segment is;
      clean = subst (λ (s : Segment D). IsTrue (is_clean s.disk) → IsTrue (is_clean old.segment.disk)) (sym is) (λ clean. clean);
    };
    size_is = ap (λ (s : Segment D). s.size) is;
    last_is = ap (λ (s : Segment D). s.last) is;
    told_is = ap (λ (s : Segment D). s.told.items) is;
    less = λ text may. subst (λ (s : Segment D). may_leave s.disk text) is may;
    stuck = λ free. absurd (true_false (sym (ap (λ (s : Segment D). s.is_stuck) is) ∙ free));
  }

  -- what is behind the commits is changed
  pub on_behind : (old new : Feed F D) → new.folder ≡ old.folder → new.ended.items ≡ old.ended.items → new.begins ≡ old.begins
      → new.segment.base ≡ old.segment.base → new.segment.last ≡ old.segment.last → new.segment.size ≡ old.segment.size
      → ChangesBehind old.segment.size (seen old.segment.disk) (seen new.segment.disk) (may_leave old.segment.disk)
      (may_leave new.segment.disk)
      → (IsTrue (is_clean new.segment.disk) → IsTrue (is_clean old.segment.disk)) → WritesOn old new
  on_behind old new folder ended begins base last size behind clean = record {
    folder_is = folder;
    ended_is = ended;
    begins_is = begins;
    writes = writes_line seen may_leave old.segment new.segment base last size behind;
    clean = clean;
  }

  -- a draft is kept as a commit
  pub on_draft : (old new : Feed F D) (e : Entry) → new.folder ≡ old.folder → new.ended.items ≡ old.ended.items → new.begins ≡ old.begins
      → new.segment.base ≡ old.segment.base → Adds seen old.segment new.segment e
      → ChangesBehind old.segment.size (seen old.segment.disk) (seen new.segment.disk) (may_leave old.segment.disk)
      (may_leave new.segment.disk)
      → (IsTrue (is_clean new.segment.disk) → IsTrue (is_clean old.segment.disk)) → WritesOn old new
  on_draft old new e folder ended begins base adds behind clean = record {
    folder_is = folder;
    ended_is = ended;
    begins_is = begins;
    writes = record {
      base_is = base;
      size_up = omega (arith, adds.size_is);
      last_up = omega (arith, adds.last_is, adds.above);
      behind = behind;
    };
    clean = clean;
  }
