-- What ending a segment leaves of a feed.
use Rattle.std.proofs.Common.{◌≡◌, ◌≢◌, ◌⊎◌, inl, inr, ◌<◌, ◌≤◌, ℕ, List, [], ◌∷◌, ◌++◌}
use Rattle.std.proofs.Common.{append-nil, append_assoc, ap, refl, sym, ◌∙◌, subst, arith}
use Rattle.std.proofs.Common.{true, false, Option, ℤ}
use Rattle.pgapply.specs.declared.commit.About.{About}
use Rattle.std.specs.Prelude.{Bool, IsTrue}
use Rattle.std.specs.List.{AllByRecursion}
use Rattle.pgledger.specs.Entries.{Entry, last_end}
use Rattle.pgfeed.specs.declared.feed.Feed.{Feed}
use Rattle.pgfeed.specs.declared.segment.Segment.{Segment}
use Rattle.pgfeed.specs.Folders.{AreBelow, HasNoMoreElse, MakesAtMost}
use Rattle.pgfeed.specs.Reading.{AreEntries}
use Rattle.pgfeed.specs.Segments.{HasHead, IsEnded, IsFinished, IsFront, KeepsEntries, Lasts}
use Rattle.pgfeed.specs.Segments.{LastsAs}
use Rattle.pgfeed.specs.Feeds.{AreEnded, BeginBelow, Ends, Follow, Goes, HasHeadAt, IsFresh}
use Rattle.pgfeed.specs.Feeds.{IsHonestFeed}
use Rattle.pgfeed.specs.Feeds.{IsLeftIn, IsTimed, IsWhole, KeepsAll, LeavesAt, MayEnd, MayHave}
use Rattle.pgfeed.specs.Feeds.{NoneAt, SomeLeaves, StaysTimed, first_time}
use Rattle.pgfeed.specs.Cutting.Kept.{end_append, entries_append}
use Rattle.pgfeed.specs.Cutting.Following.{ended_below, ended_less, one_split}
use Rattle.pgfeed.specs.Cutting.Opened.{lasts_as}
use Rattle.pgfeed.proofs.Calls.{lasts_more}
use Rattle.pgfeed.proofs.Following.{Writes, all_less, at_as, ended_at, follow_less, segment_stays}
use Rattle.pgfeed.proofs.Following.{true_false}

-- ---- LSNs and lists

higher : (b m : ℕ) (more : List ℕ) → b < m → AllByRecursion (λ x. m < x) more → AllByRecursion (λ x. b < x) more
higher b m [] up all = tt
higher b m (x ∷ more) up all = let first = all.0 in (omega arith, higher b m more up all.1)

follow_above : (b l : ℕ) (more : List ℕ) → Follow b l more → AllByRecursion (λ x. b < x) more
follow_above b l [] f = tt
follow_above b l (m ∷ more) f = let first = f.0 in (first, higher b m more first f.2)

none_behind : (xs ys : List ℕ) → xs ++ ys ≡ [] → ys ≡ []
none_behind [] ys e = e
none_behind (x ∷ xs) ys e = cc

-- the last of some LSNs isn't among those that have gone
stay_last : (gone stay bases : List ℕ) (x : ℕ) → gone ++ stay ≡ bases ++ x ∷ [] → (stay ≡ [] → ⊥)
    → (others : List ℕ) × (stay ≡ others ++ x ∷ []) × (bases ≡ gone ++ others)
stay_last [] stay bases x same some = (bases, same, refl)
stay_last (g ∷ gone) stay [] x same some =
    let tail : gone ++ stay ≡ [] = cc in absurd (some (none_behind gone stay tail))
stay_last (g ∷ gone) stay (b ∷ bases) x same some =
    let head : g ≡ b = cc in
    let tail : gone ++ stay ≡ bases ++ x ∷ [] = cc in
    let more = stay_last gone stay bases x tail some in
    (more.0, more.1, ap (λ y. y ∷ bases) (sym head) ∙ ap (λ bs. g ∷ bs) more.2)

-- one more has ended
one_ended : (leaves : ℕ → List ℕ → Type 0) (at : ℕ) (bases : List ℕ) (base last : ℕ) (before now : List Entry)
    → AreEnded leaves at bases base before
    → IsEnded base last now (leaves base) → AreEnded leaves at (bases ++ base ∷ []) last (before ++ now)
one_ended leaves at [] base last before now e ended =
    (last, now, [], sym e.0, ap (λ es. es ++ now) e.1 ∙ sym (append-nil now), ended, (refl, refl))
one_ended leaves at (b ∷ bases) base last before now e ended = (
  e.0,
  e.1,
  e.2 ++ now,
  e.3,
  ap (λ es. es ++ now) e.4 ∙ append_assoc e.1 e.2 now,
  e.5,
  one_ended leaves e.0 bases base last e.2 now e.6 ended,
)

all_under : (base last : ℕ) (bases : List ℕ) → base ≤ last → AllByRecursion (λ b. b < base) bases → AllByRecursion (λ b. b < last) bases
all_under base last [] up all = tt
all_under base last (b ∷ bases) up all = let first = all.0 in (omega arith, all_under base last bases up all.1)

all_one : (P : ℕ → Type 0) (xs : List ℕ) (x : ℕ) → AllByRecursion P xs → P x → AllByRecursion P (xs ++ x ∷ [])
all_one P [] x all p = (p, tt)
all_one P (y ∷ xs) x all p = (all.0, all_one P xs x all.1 p)

-- ---- the files that a feed has

module _ {F D : Type 0} (may_leave : D → List ℕ → Type 0) (has : F → ℕ → List ℕ → Type 0) where
  -- one that is written last among them
  some_last : (ended : List (Segment D)) (s : Segment D) (b : ℕ) (text : List ℕ) → SomeLeaves may_leave (ended ++ s ∷ []) b text
      → SomeLeaves may_leave ended b text ⊎ ((s.base ≡ b) × may_leave s.disk text)
  some_last [] s b text (inl here) = inr here
  some_last [] s b text (inr none) = absurd none
  some_last (e ∷ ended) s b text (inl here) = inl (inl here)
  some_last (e ∷ ended) s b text (inr more) = elim (some_last ended s b text more) [ inl some ↦ inl (inr some) | inr last ↦ inr last ]

  none_last : (ended : List (Segment D)) (s : Segment D) (b : ℕ) → NoneAt (ended ++ s ∷ []) b → NoneAt ended b × (s.base ≢ b)
  none_last [] s b none = (tt, none.0)
  none_last (e ∷ ended) s b none = let more = none_last ended s b none.1 in ((none.0, more.0), more.1)

  -- none of those that begin below has that base
  never_some : (ended : List (Segment D)) (base : ℕ) (text : List ℕ) → AllByRecursion (λ (e : Segment D). e.base < base) ended
      → SomeLeaves may_leave ended base text → ⊥
  never_some [] base text low some = some
  never_some (e ∷ ended) base text low (inl here) = let first = low.0 in let same = here.0 in omega arith
  never_some (e ∷ ended) base text low (inr more) = never_some ended base text low.1 more

  may_less : (ended : List (Segment D)) (old new : F) (b : ℕ) (text : List ℕ) → (has new b text → has old b text)
      → MayHave may_leave has ended new b text → MayHave may_leave has ended old b text
  may_less ended old new b text less (inl some) = inl some
  may_less ended old new b text less (inr had) = inr (had.0, less had.1)

never_none_left : (bases : List ℕ) (base : ℕ) → [] ≡ bases ++ base ∷ [] → ⊥
never_none_left [] base e = cc
never_none_left (b ∷ bases) base e = cc

segments_under : {D : Type 0} (base last : ℕ) (ended : List (Segment D)) → base ≤ last
    → AllByRecursion (λ (e : Segment D). e.base < base) ended → AllByRecursion (λ (e : Segment D). e.base < last) ended
segments_under base last [] up all = tt
segments_under base last (e ∷ ended) up all = let first = all.0 in (omega arith, segments_under base last ended up all.1)

segments_one : {D : Type 0} (P : Segment D → Type 0) (xs : List (Segment D)) (x : Segment D) → AllByRecursion P xs → P x
    → AllByRecursion P (xs ++ x ∷ [])
segments_one P [] x all p = (p, tt)
segments_one P (y ∷ xs) x all p = (all.0, segments_one P xs x all.1 p)

segments_front : {D : Type 0} (P : Segment D → Type 0) (xs : List (Segment D)) (x : Segment D) → AllByRecursion P (xs ++ x ∷ [])
    → AllByRecursion P xs × P x
segments_front P [] x all = (tt, all.0)
segments_front P (y ∷ xs) x all = let more = segments_front P xs x all.1 in ((all.0, more.0), more.1)

module _ {F D : Type 0} (seen : D → List ℕ) (may_leave : D → List ℕ → Type 0) (is_clean : D → Bool) (is_true : F → Type 0)
    (places : F → List ℕ) (has : F → ℕ → List ℕ → Type 0) where
  abbrev Keeps : Feed F D → List Entry → Type 0
  Keeps = KeepsAll seen may_leave is_clean is_true places has

  abbrev Honest : Feed F D → Type 0
  Honest = IsHonestFeed seen may_leave is_clean is_true places has

  abbrev Left : Feed F D → ℕ → List Entry → List ℕ → F → Type 0
  Left = IsLeftIn seen may_leave is_clean is_true places has

  apart : (b base : ℕ) → b < base → base ≢ b
  apart b base less same = omega arith

  -- ---- the open segment has ended, and none follows it yet

  pub record EndsOn (old new : Feed F D) : Type 0 where
    pub ended_is : new.ended.items ≡ old.ended.items
    pub begins_is : new.begins ≡ old.begins
    pub writes : Writes seen may_leave old.segment new.segment
    pub size_is : new.segment.size ≡ old.segment.size
    pub last_is : new.segment.last ≡ old.segment.last
    pub told_is : new.segment.told.items ≡ old.segment.told.items
    pub clean : IsTrue (is_clean new.segment.disk) → IsTrue (is_clean old.segment.disk)
    pub rises : old.segment.base < old.segment.last
    pub finished : IsTrue (is_clean new.segment.disk) → (es : List Entry)
        → KeepsEntries old.segment.base old.segment.last old.segment.size old.segment.told.items (seen old.segment.disk) es
        → IsFinished old.segment.base old.segment.last es (seen new.segment.disk) (may_leave new.segment.disk)
    pub made : is_true new.folder → MakesAtMost has is_true places old.segment.last (HasHead old.segment.last) old.folder new.folder
    pub was : old.segment.is_stuck ≡ false
    pub stuck : new.segment.is_stuck ≡ true

  ends_honest : (old new : Feed F D) → EndsOn old new → Honest new → Honest old
  ends_honest old new w h = record {
    folder = (w.made h.folder).was_true;
    ended = subst (AllByRecursion (λ (e : Segment D). IsTrue (is_clean e.disk))) w.ended_is h.ended;
    file = w.clean h.file;
  }

  ends_leaves : (old new : Feed F D) (b : ℕ) (text : List ℕ) → EndsOn old new → is_true new.folder → b < old.segment.base
      → LeavesAt may_leave has new b text → LeavesAt may_leave has old b text
  ends_leaves old new b text w honest under (inl here) = let same = here.0 in absurd (omega (arith, w.writes.base_is))
  ends_leaves old new b text w honest under (inr away) =
      let other : old.segment.last ≢ b = apart b old.segment.last (omega (arith, w.rises)) in
      inr (
        apart b old.segment.base under,
        may_less may_leave has old.ended.items old.folder new.folder b text ((w.made honest).others b text other)
            (subst (λ es. MayHave may_leave has es new.folder b text) w.ended_is away.1),
      )

  -- it has the same segments, or the one that is to follow
  ends_places : {H : Type 0} (bases found after : List ℕ) (base last : ℕ) → found ≡ bases ++ base ∷ []
      → (after ≡ found) ⊎ ((after ≡ found ++ last ∷ []) × H)
      → (above : List ℕ) × (after ≡ bases ++ (base ∷ above)) × ((above ≡ []) ⊎ ((above ≡ last ∷ []) × H))
  ends_places bases found after base last had (inl same) = ([], same ∙ had, inl refl)
  ends_places bases found after base last had (inr one) =
      (last ∷ [], one.0 ∙ ap (λ xs. xs ++ last ∷ []) had ∙ append_assoc bases (base ∷ []) (last ∷ []), inr (refl, one.1))

  under_last : (bases found : List ℕ) (base last : ℕ) → AllByRecursion (λ b. b < base) bases → base < last → found ≡ bases ++ base ∷ []
      → AreBelow last found
  under_last bases found base last low rises had =
      subst (AllByRecursion (λ b. b < last)) (sym had)
      (all_one (λ b. b < last) bases base (all_under base last bases (omega arith) low) rises)

  ends_over : {H : Type 0} (above : List ℕ) (base last : ℕ) (own : List Entry) (outcomes : List ℕ → Type 0)
      → IsEnded base last own outcomes → (above ≡ []) ⊎ ((above ≡ last ∷ []) × H)
      → (above ≡ []) ⊎ ((above ≡ last ∷ []) × IsEnded base last own outcomes × H)
  ends_over above base last own outcomes e (inl none) = inl none
  ends_over above base last own outcomes e (inr one) = inr (one.0, e, one.1)

  ends_ended : (old new : Feed F D) (now : List Entry) → EndsOn old new → IsTrue (is_clean new.segment.disk)
      → KeepsEntries old.segment.base old.segment.last old.segment.size old.segment.told.items (seen old.segment.disk) now
      → IsEnded old.segment.base old.segment.last now (may_leave new.segment.disk)
  ends_ended old new now w clean kept = record { rises = w.rises; text = seen new.segment.disk; finished = w.finished clean now kept }

  -- the places of both
  record Both (old new : Feed F D) (before now : List Entry) (was : IsWhole seen may_leave is_clean is_true places has old before now) :
      Type 0 where
    pub low : AllByRecursion (λ b. b < old.segment.base) was.bases
    pub had : places old.folder ≡ was.bases ++ old.segment.base ∷ []
    pub above : List ℕ
    pub there : places new.folder ≡ was.bases ++ (old.segment.base ∷ above)
    pub over : (above ≡ []) ⊎ ((above ≡ old.segment.last ∷ []) × HasHeadAt has new.folder old.segment.last)

  ends_both : (old new : Feed F D) (before now : List Entry) → EndsOn old new → is_true new.folder
      → (was : IsWhole seen may_leave is_clean is_true places has old before now) → Both old new before now was
  ends_both old new before now w honest was =
      let low = ended_below (LeavesAt may_leave has old) old.begins was.bases old.segment.base before was.ended in
      let had : places old.folder ≡ was.bases ++ old.segment.base ∷ [] =
      was.there ∙ ap (λ xs. was.bases ++ (old.segment.base ∷ xs)) (was.free w.was) in
      let found = ends_places was.bases (places old.folder) (places new.folder) old.segment.base old.segment.last had
      ((w.made honest).at_most (under_last was.bases (places old.folder) old.segment.base old.segment.last low w.rises had)) in
      record { low = low; had = had; above = found.0; there = found.1; over = found.2 }

  pub all_ends : (old new : Feed F D) → EndsOn old new → (es : List Entry) → Keeps old es → Keeps new es
  all_ends old new w es k = record {
    before = k.before;
    now = k.now;
    is = k.is;
    entries = subst (λ b. AreEntries b k.before) (sym w.begins_is) k.entries;
    ends = ap (λ b. last_end b k.before) w.begins_is ∙ k.ends ∙ sym w.writes.base_is;
    kept = segment_stays seen may_leave is_clean is_true places has old.segment new.segment w.writes w.size_is w.last_is w.told_is k.now
        k.kept;
    whole = λ honest.
        let was = k.whole (ends_honest old new w honest) in
        let both = ends_both old new k.before k.now w honest.folder was in
        let less = all_less (LeavesAt may_leave has old) (LeavesAt may_leave has new) old.begins was.bases old.segment.base
        old.segment.base k.before (λ b text under may. ends_leaves old new b text w honest.folder under may) both.low was.ended in
        record {
          bases = was.bases;
          above = both.above;
          there = both.there ∙ ap (λ b. was.bases ++ (b ∷ both.above)) (sym w.writes.base_is);
          below = subst (λ b. AllByRecursion (λ (e : Segment D). e.base < b) new.ended.items) (sym w.writes.base_is)
              (subst (AllByRecursion (λ (e : Segment D). e.base < old.segment.base)) (sym w.ended_is) was.below);
          ended = subst (λ x. AreEnded (LeavesAt may_leave has new) new.begins was.bases x k.before) (sym w.writes.base_is)
              (subst (λ x. AreEnded (LeavesAt may_leave has new) x was.bases old.segment.base k.before) (sym w.begins_is) less);
          over = ends_over both.above new.segment.base new.segment.last k.now (may_leave new.segment.disk)
              (ended_at old.segment.base new.segment.base old.segment.last new.segment.last k.now k.now
              (λ _. may_leave new.segment.disk) (sym w.writes.base_is) (sym w.last_is) refl (ends_ended old new k.now w honest.file k.kept))
              (subst (λ l. (both.above ≡ []) ⊎ ((both.above ≡ l ∷ []) × HasHeadAt has new.folder l)) (sym w.last_is) both.over);
          free = λ stands. let never : ⊥ = true_false (sym w.stuck ∙ stands) in absurd never;
        };
  }

  ends_left : (old new : Feed F D) (p : ℕ) (es : List Entry) (k : Keeps old es) (gone : List ℕ) (folder : F) → EndsOn old new
      → Left new p k.now gone folder → Left old p k.now gone folder
  ends_left old new p es k gone folder w left =
      let honest = ends_honest old new w left.honest in
      let was = k.whole honest in
      let both = ends_both old new k.before k.now w left.honest.folder was in
      let base : new.segment.base ≡ old.segment.base = w.writes.base_is in
      let low : AllByRecursion (λ x. x < old.segment.base) (gone ++ left.stay) =
      subst (λ b. AllByRecursion (λ x. x < b) (gone ++ left.stay)) base left.ended in
      let found : places new.folder ≡ (gone ++ left.stay) ++ (old.segment.base ∷ left.above) =
      left.had ∙ ap (λ b. (gone ++ left.stay) ++ (b ∷ left.above)) base in
      let one = one_split was.bases both.above (gone ++ left.stay) left.above old.segment.base both.low low (sym both.there ∙ found) in
      record {
        honest = honest;
        stay = left.stay;
        above = [];
        more = left.more;
        had = both.had ∙ ap (λ xs. xs ++ old.segment.base ∷ []) one.0;
        there = left.there ∙ ap (λ b. left.stay ++ (b ∷ left.more)) base;
        ended = low;
        front = left.front;
        behind = follow_less new.segment.base old.segment.base new.segment.last old.segment.last left.more (omega (arith, base))
            w.writes.last_up left.behind;
        each = λ b text under had.
            ends_leaves old new b text w left.honest.folder under (left.each b text (omega (arith, base)) had);
        lasting = λ text had front lasting.
            let there : has folder new.segment.base text = subst (λ b. has folder b text) (sym base) had in
            let more : LastsAs old.segment.base new.segment.size (may_leave new.segment.disk) p front =
            lasts_as old.segment.base old.segment.size new.segment.size p (seen old.segment.disk) (seen new.segment.disk) front
            (may_leave old.segment.disk) (may_leave new.segment.disk) w.writes.size_up w.writes.behind lasting in
            left.lasting text there front
            (subst (λ b. LastsAs b new.segment.size (may_leave new.segment.disk) p front) (sym base) more);
        done = λ at.
            ended_at new.segment.base old.segment.base new.segment.last old.segment.last k.now k.now (has folder) base w.last_is refl
            (left.done (at_as new.segment.last old.segment.last left.more w.last_is at));
        heads = left.heads;
      }

  pub goes_ends : (old new : Feed F D) → EndsOn old new → Goes seen may_leave is_clean is_true places has old new
  unfolding all_ends
  goes_ends old new w = record {
    lasts_more = λ p h. (
      let up = h.0 in omega (arith, w.last_is),
      λ from. lasts_more _ _ _ _ _ _ _ _ _ w.writes.base_is w.writes.size_up w.writes.behind (h.1 (omega (arith, w.writes.base_is))),
    );
    opens_less = λ p other opened es k up.
        let o = opened es (all_ends old new w es k) (omega (arith, w.last_is)) in
        (o.0, o.1, ends_left old new p es k o.0 o.1 w o.2, o.3, o.4);
  }

  -- ---- the segment that follows it is open

  pub record BeginsOn (old new : Feed F D) : Type 0 where
    pub done : Segment D
    pub ended_is : new.ended.items ≡ old.ended.items ++ done ∷ []
    pub begins_is : new.begins ≡ old.begins
    pub line : Writes seen may_leave old.segment done
    pub clean : IsTrue (is_clean done.disk) → IsTrue (is_clean old.segment.disk)
    pub rises : old.segment.base < old.segment.last
    pub finished : IsTrue (is_clean done.disk) → (es : List Entry)
        → KeepsEntries old.segment.base old.segment.last old.segment.size old.segment.told.items (seen old.segment.disk) es
        → IsFinished old.segment.base old.segment.last es (seen done.disk) (may_leave done.disk)
    pub fresh : IsFresh seen may_leave new.segment
    pub next : new.segment.base ≡ old.segment.last
    pub was : old.segment.is_stuck ≡ false
    pub was_true : is_true new.folder → is_true old.folder
    pub made : is_true new.folder → AreBelow old.segment.last (places old.folder)
        → places new.folder ≡ places old.folder ++ old.segment.last ∷ []
    pub others : is_true new.folder → HasNoMoreElse has old.segment.last old.folder new.folder

  begins_honest : (old new : Feed F D) → BeginsOn old new → Honest new → Honest old
  begins_honest old new w h =
      let front = segments_front (λ (e : Segment D). IsTrue (is_clean e.disk)) old.ended.items w.done
      (subst (AllByRecursion (λ (e : Segment D). IsTrue (is_clean e.disk))) w.ended_is h.ended) in
      record { folder = w.was_true h.folder; ended = front.0; file = w.clean front.1 }

  begins_clean : (old new : Feed F D) → (w : BeginsOn old new) → Honest new → IsTrue (is_clean w.done.disk)
  begins_clean old new w h =
      (segments_front (λ (e : Segment D). IsTrue (is_clean e.disk)) old.ended.items w.done
      (subst (AllByRecursion (λ (e : Segment D). IsTrue (is_clean e.disk))) w.ended_is h.ended)).1

  begins_may : (old new : Feed F D) (b : ℕ) (text : List ℕ) → (w : BeginsOn old new) → is_true new.folder → b < old.segment.base
      → MayHave may_leave has (old.ended.items ++ w.done ∷ []) new.folder b text → MayHave may_leave has old.ended.items old.folder b text
  begins_may old new b text w honest under (inl some) = elim (some_last may_leave has old.ended.items w.done b text some) [
    | inl before ↦ inl before
    | inr here ↦ absurd (let same = here.0 in let never : ⊥ = omega (arith, w.line.base_is) in never)
  ]
  begins_may old new b text w honest under (inr had) =
      let none = none_last may_leave has old.ended.items w.done b had.0 in
      inr (none.0, w.others honest b text (apart b old.segment.last (omega (arith, w.rises))) had.1)

  begins_leaves : (old new : Feed F D) (b : ℕ) (text : List ℕ) → BeginsOn old new → is_true new.folder → b < old.segment.base
      → LeavesAt may_leave has new b text → LeavesAt may_leave has old b text
  begins_leaves old new b text w honest under (inl here) = let same = here.0 in absurd (omega (arith, w.next, w.rises))
  begins_leaves old new b text w honest under (inr away) =
      inr (
        apart b old.segment.base under,
        begins_may old new b text w honest under (subst (λ es. MayHave may_leave has es new.folder b text) w.ended_is away.1),
      )

  done_may : (old new : Feed F D) (text : List ℕ) → (w : BeginsOn old new)
      → AllByRecursion (λ (e : Segment D). e.base < old.segment.base) old.ended.items
      → MayHave may_leave has (old.ended.items ++ w.done ∷ []) new.folder old.segment.base text → may_leave w.done.disk text
  done_may old new text w low (inl some) = elim (some_last may_leave has old.ended.items w.done old.segment.base text some) [
    | inl before ↦ absurd (never_some may_leave has old.ended.items old.segment.base text low before)
    | inr here ↦ here.1
  ]
  done_may old new text w low (inr had) =
      absurd ((none_last may_leave has old.ended.items w.done old.segment.base had.0).1 w.line.base_is)

  done_leaves : (old new : Feed F D) (text : List ℕ) → (w : BeginsOn old new)
      → AllByRecursion (λ (e : Segment D). e.base < old.segment.base) old.ended.items
      → LeavesAt may_leave has new old.segment.base text → may_leave w.done.disk text
  done_leaves old new text w low (inl here) = let same = here.0 in absurd (omega (arith, w.next, w.rises))
  done_leaves old new text w low (inr away) =
      done_may old new text w low (subst (λ es. MayHave may_leave has es new.folder old.segment.base text) w.ended_is away.1)

  done_ended : (old new : Feed F D) (now : List Entry) → (w : BeginsOn old new) → IsTrue (is_clean w.done.disk)
      → KeepsEntries old.segment.base old.segment.last old.segment.size old.segment.told.items (seen old.segment.disk) now
      → IsEnded old.segment.base old.segment.last now (may_leave w.done.disk)
  done_ended old new now w clean kept = record { rises = w.rises; text = seen w.done.disk; finished = w.finished clean now kept }

  begins_places : (old new : Feed F D) (before now : List Entry) → BeginsOn old new → is_true new.folder
      → (was : IsWhole seen may_leave is_clean is_true places has old before now)
      → places new.folder ≡ (was.bases ++ old.segment.base ∷ []) ++ (new.segment.base ∷ [])
  begins_places old new before now w honest was =
      let low = ended_below (LeavesAt may_leave has old) old.begins was.bases old.segment.base before was.ended in
      let had : places old.folder ≡ was.bases ++ old.segment.base ∷ [] =
      was.there ∙ ap (λ xs. was.bases ++ (old.segment.base ∷ xs)) (was.free w.was) in
      w.made honest (under_last was.bases (places old.folder) old.segment.base old.segment.last low w.rises had)
      ∙ ap (λ xs. xs ++ old.segment.last ∷ []) had ∙ ap (λ l. (was.bases ++ old.segment.base ∷ []) ++ l ∷ []) (sym w.next)

  pub all_begins : (old new : Feed F D) → BeginsOn old new → (es : List Entry) → Keeps old es → Keeps new es
  all_begins old new w es k =
      let now : AreEntries (last_end old.begins k.before) k.now = subst (λ a. AreEntries a k.now) (sym k.ends) k.kept.entries in
      let end : last_end old.begins (k.before ++ k.now) ≡ old.segment.last =
      end_append old.begins k.before k.now ∙ ap (λ a. last_end a k.now) k.ends ∙ sym k.kept.last_is in
      record {
        before = k.before ++ k.now;
        now = [];
        is = k.is ∙ sym (append-nil (k.before ++ k.now));
        entries = subst (λ b. AreEntries b (k.before ++ k.now)) (sym w.begins_is) (entries_append old.begins k.before k.now k.entries now);
        ends = ap (λ b. last_end b (k.before ++ k.now)) w.begins_is ∙ end ∙ sym w.next;
        kept = w.fresh.0;
        whole = λ honest.
            let was = k.whole (begins_honest old new w honest) in
            let low = ended_below (LeavesAt may_leave has old) old.begins was.bases old.segment.base k.before was.ended in
            let less = all_less (LeavesAt may_leave has old) (LeavesAt may_leave has new) old.begins was.bases old.segment.base
            old.segment.base k.before (λ b text under may. begins_leaves old new b text w honest.folder under may) low was.ended in
            let mine = ended_less old.segment.base old.segment.last k.now (may_leave w.done.disk)
            (LeavesAt may_leave has new old.segment.base) (λ text may. done_leaves old new text w was.below may)
            (done_ended old new k.now w (begins_clean old new w honest) k.kept) in
            let ended = one_ended (LeavesAt may_leave has new) old.begins was.bases old.segment.base old.segment.last k.before k.now less
            mine in
            let first : w.done.base < new.segment.base = omega (arith, w.line.base_is, w.next, w.rises) in
            let up : old.segment.base ≤ new.segment.base = omega (arith, w.next, w.rises) in
            record {
              bases = was.bases ++ old.segment.base ∷ [];
              above = [];
              there = begins_places old new k.before k.now w honest.folder was;
              below = subst (AllByRecursion (λ (e : Segment D). e.base < new.segment.base)) (sym w.ended_is)
                  (segments_one (λ (e : Segment D). e.base < new.segment.base) old.ended.items w.done
                  (segments_under old.segment.base new.segment.base old.ended.items up was.below) first);
              ended = subst (λ x. AreEnded (LeavesAt may_leave has new) new.begins (was.bases ++ old.segment.base ∷ []) x
                  (k.before ++ k.now)) (sym w.next)
                  (subst (λ x. AreEnded (LeavesAt may_leave has new) x (was.bases ++ old.segment.base ∷ []) old.segment.last
                  (k.before ++ k.now)) (sym w.begins_is) ended);
              over = inl refl;
              free = λ _. refl;
            };
      }

  -- a front that has gone has not the one that ends at the LSN or above it
  some_stay : (gone stay bases found : List ℕ) (base next p : ℕ) (more : List ℕ) → gone ++ stay ≡ bases ++ base ∷ []
      → found ≡ stay ++ (next ∷ more) → p ≤ next
      → (gone ≡ []) ⊎ BeginBelow p found → stay ≡ [] → ⊥
  some_stay gone stay bases found base next p more same there up (inl none) empty =
      never_none_left bases base (sym (ap (λ g. g ++ stay) none ∙ empty) ∙ same)
  some_stay gone stay bases found base next p more same there up (inr below) empty =
      let first : next < p = subst (BeginBelow p) (there ∙ ap (λ s. s ++ (next ∷ more)) empty) below in omega arith

  begins_left : (old new : Feed F D) (p : ℕ) (es : List Entry) (k : Keeps old es) (gone : List ℕ) (folder : F) → BeginsOn old new
      → p ≤ old.segment.last → Left new p [] gone folder → Left old p k.now gone folder
  begins_left old new p es k gone folder w up left =
      let honest = begins_honest old new w left.honest in
      let clean = begins_clean old new w left.honest in
      let was = k.whole honest in
      let low = ended_below (LeavesAt may_leave has old) old.begins was.bases old.segment.base k.before was.ended in
      let above : old.segment.base ≤ new.segment.base = omega (arith, w.next, w.rises) in
      let less : old.segment.base < new.segment.base = omega (arith, w.next, w.rises) in
      let under = all_one (λ b. b < new.segment.base) was.bases old.segment.base
      (all_under old.segment.base new.segment.base was.bases above low) less in
      let one = one_split (was.bases ++ old.segment.base ∷ []) [] (gone ++ left.stay) left.above new.segment.base under left.ended
      (sym (begins_places old new k.before k.now w left.honest.folder was) ∙ left.had) in
      let some = some_stay gone left.stay was.bases (places folder) old.segment.base new.segment.base p left.more (sym one.0) left.there
      (omega (arith, w.next)) left.front in
      let last = stay_last gone left.stay was.bases old.segment.base (sym one.0) some in
      let had : places old.folder ≡ was.bases ++ old.segment.base ∷ [] =
      was.there ∙ ap (λ xs. was.bases ++ (old.segment.base ∷ xs)) (was.free w.was) in
      record {
        honest = honest;
        stay = last.0;
        above = [];
        more = new.segment.base ∷ left.more;
        had = had ∙ ap (λ xs. xs ++ old.segment.base ∷ []) last.2;
        there = left.there ∙ ap (λ xs. xs ++ (new.segment.base ∷ left.more)) last.1
            ∙ append_assoc last.0 (old.segment.base ∷ []) (new.segment.base ∷ left.more);
        ended = subst (AllByRecursion (λ x. x < old.segment.base)) last.2 low;
        front = left.front;
        behind = (less, omega (arith, w.next), follow_above new.segment.base new.segment.last left.more left.behind);
        each = λ b text below had.
            begins_leaves old new b text w left.honest.folder below (left.each b text (omega arith) had);
        lasting = λ text had front lasting.
            let may = done_leaves old new text w was.below (left.each old.segment.base text less had) in
            (lasts_as old.segment.base old.segment.size w.done.size p (seen old.segment.disk) (seen w.done.disk) front
            (may_leave old.segment.disk) (may_leave w.done.disk) w.line.size_up w.line.behind lasting).each text may;
        done = λ at. ended_less old.segment.base old.segment.last k.now (may_leave w.done.disk) (has folder old.segment.base)
            (λ text had. done_leaves old new text w was.below (left.each old.segment.base text less had))
            (done_ended old new k.now w clean k.kept);
        heads = λ at text had.
            let front : List ℕ = w.fresh.1.0 in
            let lasting = subst (λ q. LastsAs new.segment.base new.segment.size (may_leave new.segment.disk) q front) at w.fresh.1.1 in (
              front,
              subst (λ q. IsFront q q front) at w.fresh.1.1.is_front,
              left.lasting text (subst (λ b. has folder b text) (sym at) had) front lasting,
            );
      }

  pub goes_begins : (old new : Feed F D) → BeginsOn old new → Goes seen may_leave is_clean is_true places has old new
  unfolding all_begins
  goes_begins old new w =
      let last : new.segment.last ≡ new.segment.base = w.fresh.0.last_is in
      record {
        lasts_more = λ p h. (
          let up = h.0 in omega (arith, last, w.next),
          λ from.
              let up = h.0 in
              let at : new.segment.base ≡ p = omega (arith, w.next) in
              subst (λ q. Lasts new.segment.base new.segment.size (may_leave new.segment.disk) q) at w.fresh.1,
        );
        opens_less = λ p other opened es k up.
            let o = opened es (all_begins old new w es k) (omega (arith, last, w.next)) in
            (o.0, o.1, begins_left old new p es k o.0 o.1 w up o.2, o.3, o.4);
      }

-- ---- a segment ends

module _ {D : Type 0} (seen : D → List ℕ) (may_leave : D → List ℕ → Type 0) where
  end_same : (is_clean : D → Bool) (stay after : List (Segment D)) (old new now : Segment D) → now.base ≡ new.base
      → ((new.base ≡ old.base) × (after ≡ stay)) ⊎ Ends seen may_leave is_clean stay after old new
      → ((now.base ≡ old.base) × (after ≡ stay)) ⊎ Ends seen may_leave is_clean stay after old now
  end_same is_clean stay after old new now same (inl goes_on) = inl (same ∙ goes_on.0, goes_on.1)
  end_same is_clean stay after old new now same (inr e) =
      inr (record {
        next = same ∙ e.next;
        ended = e.ended;
        stays = e.stays;
        base_is = e.base_is;
        last_is = e.last_is;
        finished = e.finished;
      })

  -- what is said of an end stays where no other segment is opened
  pub ends_same : (is_clean : D → Bool) (synced : ℕ) (before after : List (Segment D)) (old new now : Segment D)
      → MayEnd seen may_leave is_clean synced before after old new → now.base ≡ new.base
      → MayEnd seen may_leave is_clean synced before after old now
  ends_same is_clean synced before after old new now may same = record {
    stay = may.stay;
    stays = may.stays;
    ends = end_same is_clean may.stay after old new now same may.ends;
  }

-- ---- the time that later ones are compared with

pub timed : {D : Type 0} (before mid after : Option ℤ) (about : Option About) (old went new : Segment D) → StaysTimed before mid old went
    → new.base ≡ went.base → after ≡ first_time mid about → IsTimed before after about old new
timed before mid after about old went new (inl stays) same is = inl (same ∙ stays.0, is ∙ ap (λ t. first_time t about) stays.1)
timed before mid after about old went new (inr next) same is = inr (same ∙ next.0, is ∙ ap (λ t. first_time t about) next.1)
