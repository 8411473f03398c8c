-- A feed that is opened on what a crash left keeps the entries up to the LSN.
use Rattle.std.proofs.Common.{◌≡◌, ◌≢◌, inl, inr, ◌⊎◌, ◌<◌, ◌≤◌, ℕ, List, [], ◌∷◌, ◌++◌, append-nil}
use Rattle.std.proofs.Common.{length}
use Rattle.std.proofs.Common.{append_assoc, ap, refl, sym, ◌∙◌, subst, arith, ◌+◌, length-append}
use Rattle.std.proofs.Common.{Bool}
use Rattle.std.specs.List.{AllByRecursion}
use Rattle.pgledger.specs.Entries.{Entry, last_end}
use Rattle.pgfeed.specs.declared.feed.Feed.{Feed}
use Rattle.pgfeed.specs.declared.segment.Segment.{Segment}
use Rattle.pgfeed.specs.Reading.{AreEntries}
use Rattle.pgfeed.specs.Segments.{Begins, HasHead, HasWhatLasts, IsEnded, IsFinished, IsFound}
use Rattle.pgfeed.specs.Segments.{IsFront, KeepsEntries, Lasts, Reopens}
use Rattle.pgfeed.specs.Texts.{Bodies, closing_line, entries_text}
use Rattle.pgfeed.specs.declared.told.Told.{Told}
use Rattle.pgfeed.specs.Feeds.{AreEnded, BeginAt, Follow, HasHeadAt, IsCutAt, IsFresh, OpenedFrom}
use Rattle.pgfeed.specs.Feeds.{IsHonestFeed, IsLeftIn, KeepsAll, KeepsLast, LastsUpTo, LeavesAt}
use Rattle.pgfeed.specs.Feeds.{MayHave}
use Rattle.pgfeed.specs.Feeds.{OpensIn}
use Rattle.pgfeed.specs.Feeds.{first_of}
use Rattle.pgfeed.specs.Cutting.Kept.{end_append, entries_append, entries_behind, entries_front}
use Rattle.pgfeed.specs.Cutting.Written.{ends_up, text_append, written_front}
use Rattle.pgfeed.specs.Cutting.Opened.{cut_at}
use Rattle.pgfeed.specs.Cutting.Walking.{no_entry}

-- entries that end at or above the end of others go on behind them
pub goes_on : (at : ℕ) (before now told later : List Entry) → AreEntries at before → before ++ now ≡ told ++ later
    → last_end at before ≤ last_end at told
    → (mid : List Entry) × (told ≡ before ++ mid) × (now ≡ mid ++ later)
goes_on at [] now told later are e up = (told, refl, e)
goes_on at (b ∷ before) now [] later are e up = let more = ends_up b.end before are.1 in absurd (omega (arith, are.0))
goes_on at (b ∷ before) now (t ∷ told) later are e up =
    let head : t ≡ b = cc in
    let rest : before ++ now ≡ told ++ later = cc in
    let above : last_end b.end before ≤ last_end b.end told = subst (λ (x : Entry). last_end b.end before ≤ last_end x.end told) head up in
    let more = goes_on b.end before now told later are.1 rest above in
    (more.0, (let tail = more.1 in cc), more.2)

-- entries that end where they begin are none
none_told : (at : ℕ) (es : List Entry) → AreEntries at es → last_end at es ≡ at → es ≡ []
none_told at [] are ends = refl
none_told at (e ∷ es) are ends = let more = ends_up e.end es are.1 in absurd (omega (arith, are.0))

-- those behind entries that end where they all do are none
none_later : (at : ℕ) (told later : List Entry) → AreEntries at (told ++ later) → last_end at told ≡ last_end at (told ++ later)
    → later ≡ []
none_later at [] later are ends = none_told at later are (sym ends)
none_later at (e ∷ told) later are ends = none_later e.end told later are.1 ends

-- where the last of some entries end
mid_end : (at last p : ℕ) (own mid told : List Entry) → last_end at own ≡ last → told ≡ own ++ mid → last_end at told ≡ p
    → last_end last mid ≡ p
mid_end at last p own mid told there split ends =
    ap (λ q. last_end q mid) (sym there) ∙ sym (end_append at own mid) ∙ ap (last_end at) (sym split) ∙ ends

-- ---- LSNs

pub all_behind : (P : ℕ → Type 0) (xs ys : List ℕ) (x : ℕ) → AllByRecursion P (xs ++ (x ∷ ys)) → P x
all_behind P [] ys x all = all.0
all_behind P (y ∷ xs) ys x all = all_behind P xs ys x all.1

-- LSNs are split in one way before one that is above them
pub one_split : (xs ys us vs : List ℕ) (x : ℕ) → AllByRecursion (λ b. b < x) xs → AllByRecursion (λ b. b < x) us
    → xs ++ (x ∷ ys) ≡ us ++ (x ∷ vs) → (xs ≡ us) × (ys ≡ vs)
one_split [] ys [] vs x less lower e = (refl, cc)
one_split [] ys (u ∷ us) vs x less lower e = let same : x ≡ u = cc in absurd (omega (arith, lower.0))
one_split (b ∷ xs) ys [] vs x less lower e = let same : b ≡ x = cc in absurd (omega (arith, less.0))
one_split (b ∷ xs) ys (u ∷ us) vs x less lower e =
    let rest : xs ++ (x ∷ ys) ≡ us ++ (x ∷ vs) = cc in
    let more = one_split xs ys us vs x less.1 lower.1 rest in
    let tail = more.0 in (cc, more.1)

never_none : (bases above : List ℕ) (other : ℕ) → [] ≡ bases ++ (other ∷ above) → ⊥
never_none [] above other e = cc
never_none (x ∷ bases) above other e = cc

no_lower : (m : ℕ) (xs : List ℕ) → AllByRecursion (λ b. m < b) xs → AllByRecursion (λ b. m ≤ b) xs
no_lower m [] all = tt
no_lower m (x ∷ xs) all = let first = all.0 in (omega arith, no_lower m xs all.1)

-- ---- segments that have ended

module _ (leaves : ℕ → List ℕ → Type 0) where
  pub ended_up : (at : ℕ) (bases : List ℕ) (next : ℕ) (es : List Entry) → AreEnded leaves at bases next es → at ≤ next
  ended_up at [] next es e = omega (arith, e.0)
  ended_up at (b ∷ bases) next es e = let more = ended_up e.0 bases next e.2 e.6 in omega (arith, e.3, e.5.rises)

  pub ended_below : (at : ℕ) (bases : List ℕ) (next : ℕ) (es : List Entry) → AreEnded leaves at bases next es
      → AllByRecursion (λ b. b < next) bases
  ended_below at [] next es e = tt
  ended_below at (b ∷ bases) next es e =
      let up = ended_up e.0 bases next e.2 e.6 in (omega (arith, e.5.rises), ended_below e.0 bases next e.2 e.6)

  pub ended_entries : (at : ℕ) (bases : List ℕ) (next : ℕ) (es : List Entry) → AreEnded leaves at bases next es → AreEntries at es
  ended_entries at [] next es e = subst (AreEntries at) (sym e.1) tt
  ended_entries at (b ∷ bases) next es e =
      let own : AreEntries at e.1 = subst (λ a. AreEntries a e.1) e.3 e.5.finished.entries in
      let there : e.0 ≡ last_end at e.1 = e.5.finished.last_is ∙ ap (λ a. last_end a e.1) e.3 in
      subst (AreEntries at) (sym e.4)
      (entries_append at e.1 e.2 own (subst (λ a. AreEntries a e.2) there (ended_entries e.0 bases next e.2 e.6)))

  pub ended_end : (at : ℕ) (bases : List ℕ) (next : ℕ) (es : List Entry) → AreEnded leaves at bases next es → last_end at es ≡ next
  ended_end at [] next es e = ap (last_end at) e.1 ∙ e.0
  ended_end at (b ∷ bases) next es e =
      let there : last_end at e.1 ≡ e.0 = ap (λ a. last_end a e.1) (sym e.3) ∙ sym e.5.finished.last_is in
      ap (last_end at) e.4 ∙ end_append at e.1 e.2 ∙ ap (λ a. last_end a e.2) there ∙ ended_end e.0 bases next e.2 e.6

  pub ended_first : (at : ℕ) (bases : List ℕ) (next : ℕ) (es : List Entry) → AreEnded leaves at bases next es → first_of bases next ≡ at
  ended_first at [] next es e = sym e.0
  ended_first at (b ∷ bases) next es e = e.3

  -- without a front of them
  pub ended_last : (at : ℕ) (gone stay : List ℕ) (next : ℕ) (es : List Entry) → AreEnded leaves at (gone ++ stay) next es
      → (before : List Entry) × (rest : List Entry) × (es ≡ before ++ rest) × AreEntries at before
      × AreEnded leaves (last_end at before) stay next rest × (gone ≡ [] → before ≡ [])
  ended_last at [] stay next es e = ([], es, refl, tt, e, λ _. refl)
  ended_last at (b ∷ gone) stay next es e =
      let own : AreEntries at e.1 = subst (λ a. AreEntries a e.1) e.3 e.5.finished.entries in
      let there : e.0 ≡ last_end at e.1 = e.5.finished.last_is ∙ ap (λ a. last_end a e.1) e.3 in
      let more = ended_last e.0 gone stay next e.2 e.6 in
      let end : last_end at (e.1 ++ more.0) ≡ last_end e.0 more.0 = end_append at e.1 more.0 ∙ ap (λ a. last_end a more.0) (sym there) in (
        e.1 ++ more.0,
        more.1,
        e.4 ∙ ap (λ xs. e.1 ++ xs) more.2 ∙ sym (append_assoc e.1 more.0 more.1),
        entries_append at e.1 more.0 own (subst (λ a. AreEntries a more.0) there more.3),
        subst (λ a. AreEnded leaves a stay next more.1) (sym end) more.4,
        λ none. cc,
      )

  -- where they begin is at or below any LSN from which on a segment is found behind them
  pub reaches : (at : ℕ) (stay : List ℕ) (base last : ℕ) (es : List Entry) (more bases above : List ℕ) (other p : ℕ)
      → AreEnded leaves at stay base es → base ≤ last → Follow base last more
      → stay ++ (base ∷ more) ≡ bases ++ (other ∷ above) → other ≤ p → at ≤ p
  reaches at [] base last es more [] above other p e up behind same to = let head : base ≡ other = cc in omega (arith, e.0)
  reaches at [] base last es [] (x ∷ bases) above other p e up behind same to =
      absurd (never_none bases above other (let tail : [] ≡ bases ++ (other ∷ above) = cc in tail))
  reaches at [] base last es (m ∷ more) (x ∷ bases) above other p e up behind same to =
      let tail : m ∷ more ≡ bases ++ (other ∷ above) = cc in
      let low : AllByRecursion (λ b. m ≤ b) (bases ++ (other ∷ above)) =
      subst (AllByRecursion (λ b. m ≤ b)) tail (omega arith, no_lower m more behind.2) in
      let least = all_behind (λ b. m ≤ b) bases above other low in
      omega (arith, e.0, behind.0)
  reaches at (b ∷ stay) base last es more [] above other p e up behind same to = let head : b ≡ other = cc in omega (arith, e.3)
  reaches at (b ∷ stay) base last es more (x ∷ bases) above other p e up behind same to =
      let tail : stay ++ (base ∷ more) ≡ bases ++ (other ∷ above) = cc in
      let low = reaches e.0 stay base last e.2 more bases above other p e.6 up behind tail to in
      omega (arith, e.3, e.5.rises)

-- fewer outcomes
pub ended_less : (base last : ℕ) (own : List Entry) (before after : List ℕ → Type 0) → ((text : List ℕ) → after text → before text)
    → IsEnded base last own before → IsEnded base last own after
ended_less base last own before after less e = record {
  rises = e.rises;
  text = e.text;
  finished = record {
    head = e.finished.head;
    bodies = e.finished.bodies;
    is_head = e.finished.is_head;
    file_is = e.finished.file_is;
    entries = e.finished.entries;
    written = e.finished.written;
    last_is = e.finished.last_is;
    synced = λ c left. e.finished.synced c (less c left);
  };
}

-- ---- one that has ended and is opened again

finished_keeps : (base last : ℕ) (es : List Entry) (text : List ℕ) (outcomes : List ℕ → Type 0)
    → (f : IsFinished base last es text outcomes)
    → KeepsEntries base last (1024 + length (entries_text f.bodies base es)) [] text es
finished_keeps base last es text outcomes f = record {
  head = f.head;
  bodies = f.bodies;
  rest = closing_line last;
  is_head = f.is_head;
  file_is = f.file_is;
  size_is = refl;
  entries = f.entries;
  written = f.written;
  stand = tt;
  last_is = f.last_is;
}

fits : (bodies : Bodies) (base : ℕ) (told rest : List Entry) (head : List ℕ) → length head ≡ 1024
    → length (head ++ entries_text bodies base told) ≤ 1024 + length (entries_text bodies base (told ++ rest))
fits bodies base told rest head size =
    omega (
      arith,
      length-append head (entries_text bodies base told),
      ap length (text_append bodies base told rest),
      length-append (entries_text bodies base told) (entries_text bodies (last_end base told) rest),
    )

-- what it has up to an LSN lasts
finished_lasts : (base last p : ℕ) (told rest : List Entry) (text : List ℕ) (outcomes : List ℕ → Type 0)
    → (f : IsFinished base last (told ++ rest) text outcomes) → last_end base told ≡ p
    → Lasts base (1024 + length (entries_text f.bodies base (told ++ rest))) (λ c. c ≡ text) p
finished_lasts base last p told rest text outcomes f ends =
    let own : List ℕ = entries_text f.bodies base told in
    let more : List ℕ = entries_text f.bodies (last_end base told) rest in
    let split : text ≡ (f.head ++ own) ++ (more ++ closing_line last) =
    f.file_is ∙ ap (λ xs. f.head ++ (xs ++ closing_line last)) (text_append f.bodies base told rest)
    ∙ ap (λ xs. f.head ++ xs) (append_assoc own more (closing_line last))
    ∙ sym (append_assoc f.head own (more ++ closing_line last)) in (
      f.head ++ own,
      record {
        is_front = record {
          head = f.head;
          bodies = f.bodies;
          told = told;
          is_head = f.is_head;
          entries = entries_front base told rest f.entries;
          written = written_front f.bodies f.head base told rest f.written;
          ends = ends;
          front_is = refl;
        };
        within = fits f.bodies base told rest f.head f.is_head.size;
        each = λ c same. (more ++ closing_line last, same ∙ split);
      },
    )

module _ {F D : Type 0} (seen : D → List ℕ) (may_leave : D → List ℕ → Type 0) (is_clean : D → Bool) (is_true : F → Type 0)
    (places : F → List ℕ) (has : F → ℕ → List ℕ → Type 0) where
  pub fresh_last : (s : Segment D) → IsFresh seen may_leave s → s.last ≡ s.base
  fresh_last s fresh = fresh.0.last_is

  of_none : (ended : List (Segment D)) (folder : F) (b : ℕ) (text : List ℕ) → ended ≡ [] → MayHave may_leave has ended folder b text
      → has folder b text
  of_none [] folder b text none (inl some) = absurd some
  of_none [] folder b text none (inr had) = had.1
  of_none (e ∷ ended) folder b text none had = cc

  -- An old feed of which something was left in a folder, and the feed that was opened on it.
  record Again (old new : Feed F D) (p : ℕ) (now : List Entry) (gone : List ℕ) (folder : F) : Type 0 where
    pub left : IsLeftIn seen may_leave is_clean is_true places has old p now gone folder
    pub kept : KeepsEntries old.segment.base old.segment.last old.segment.size old.segment.told.items (seen old.segment.disk) now
    pub up : p ≤ old.segment.last
    pub lasting : old.segment.base ≤ p → Lasts old.segment.base old.segment.size (may_leave old.segment.disk) p
    pub alone : new.ended.items ≡ []
    pub last : new.segment.last ≡ p
    pub same : (b : ℕ) (text : List ℕ) → new.segment.base ≢ b → has new.folder b text → has folder b text
    pub opened : OpenedFrom seen may_leave has folder p new.segment

  -- The new one keeps these entries from that LSN on, where its segments begin that have ended.
  record Cut (at : ℕ) (bases : List ℕ) (new : Feed F D) (p : ℕ) (told : List Entry) : Type 0 where
    pub before : List Entry
    pub now : List Entry
    pub is : told ≡ before ++ now
    pub ended : AreEnded (LeavesAt may_leave has new) at bases new.segment.base before
    pub kept : KeepsEntries new.segment.base new.segment.last new.segment.size new.segment.told.items (seen new.segment.disk) now
    pub lasting : Lasts new.segment.base new.segment.size (may_leave new.segment.disk) p

  -- what the new one may have of another segment was found there
  less_left : (old new : Feed F D) (p : ℕ) (now : List Entry) (gone : List ℕ) (folder : F) (b : ℕ) (text : List ℕ)
      → Again old new p now gone folder
      → new.segment.base ≢ b → LeavesAt may_leave has new b text → has folder b text
  less_left old new p now gone folder b text a other (inl here) = absurd (other here.0)
  less_left old new p now gone folder b text a other (inr away) = a.same b text other
      (of_none new.ended.items new.folder b text a.alone away.1)

  -- one that is opened where it begins has no entry
  opened_fresh : (s : Segment D) (p : ℕ) (text : List ℕ) → s.base ≡ p → s.last ≡ p → IsCutAt seen may_leave p text s → HasHead p text
      → IsFresh seen may_leave s
  opened_fresh s p text at last cuts headed =
      let front : List ℕ = headed.0 in
      let is : IsFront p p front = headed.1 in
      let begins : Begins front text = headed.2 in
      let bare : front ≡ is.head =
      is.front_is ∙ ap (λ es. is.head ++ entries_text is.bodies p es) (none_told p is.told is.entries is.ends)
      ∙ ap (λ xs. is.head ++ xs) (no_entry is.bodies p) ∙ append-nil is.head in
      let kept : KeepsEntries p p 1024 [] text [] = record {
        head = is.head;
        bodies = is.bodies;
        rest = begins.0;
        is_head = is.is_head;
        file_is = begins.1 ∙ ap (λ xs. xs ++ begins.0) bare ∙ ap (λ xs. is.head ++ (xs ++ begins.0)) (sym (no_entry is.bodies p));
        size_is = ap (λ xs. 1024 + length {A = ℕ} xs) (sym (no_entry is.bodies p));
        entries = tt;
        written = tt;
        stand = tt;
        last_is = refl;
      } in
      let lasting : Lasts p 1024 (λ c. c ≡ text) p = (
        front,
        record { is_front = is; within = omega (arith, ap length bare, is.is_head.size); each = λ c same. (begins.0, same ∙ begins.1) },
      ) in
      let again : Reopens p 1024 (λ c. c ≡ text) p s.base s.last s.size s.told.items (seen s.disk) (may_leave s.disk) = record {
        text = text;
        has = λ front lasting. lasting.each text refl;
        base_is = at;
        last_is = last;
        untold = cuts.untold;
        found = subst (λ b. IsFound b p text s.size) at cuts.found;
        cut = cuts.cut;
      } in
      let cut = cut_at p p 1024 p s.base s.last s.size [] s.told.items text (seen s.disk) (λ c. c ≡ text) (may_leave s.disk) [] [] refl
      again kept refl lasting in
      (cut.0, subst (λ q. Lasts s.base s.size (may_leave s.disk) q) (sym at) cut.2)

  cut_text : (new : Feed F D) (at last size p : ℕ) (known : List Told) (told rest : List Entry) (text file : List ℕ)
      (outcomes : List ℕ → Type 0)
      → at ≡ new.segment.base → new.segment.last ≡ p → IsCutAt seen may_leave p text new.segment → outcomes file
      → HasWhatLasts at size outcomes p text → KeepsEntries at last size known file (told ++ rest) → last_end at told ≡ p
      → Lasts at size outcomes p → Cut at [] new p told
  cut_text new at last size p known told rest text file outcomes begins there cuts stays lasts keeps ends lasting =
      let again : Reopens at size outcomes p new.segment.base new.segment.last new.segment.size new.segment.told.items
      (seen new.segment.disk) (may_leave new.segment.disk) = record {
        text = text;
        has = lasts;
        base_is = sym begins;
        last_is = there;
        untold = cuts.untold;
        found = subst (λ b. IsFound b p text new.segment.size) (sym begins) cuts.found;
        cut = cuts.cut;
      } in
      let cut = cut_at at last size p new.segment.base new.segment.last new.segment.size known new.segment.told.items file
      (seen new.segment.disk) outcomes (may_leave new.segment.disk) told rest stays again keeps ends lasting in
      record { before = []; now = told; is = refl; ended = (begins, refl); kept = cut.0; lasting = cut.2 }

  -- the open segment is opened again
  cut_open : ((d : D) → may_leave d (seen d)) → (old new : Feed F D) (p : ℕ) (now : List Entry) (gone : List ℕ) (folder : F) (at : ℕ)
      (told later : List Entry) → Again old new p now gone folder
      → at ≡ old.segment.base → old.segment.base ≡ new.segment.base → AreEntries at told → last_end at told ≡ p → now ≡ told ++ later
      → new.segment.base ≤ p
      → OpenedFrom seen may_leave has folder p new.segment → Cut at [] new p told
  cut_open stay old new p now gone folder at told later a begins same are ends split to cuts =
      let had : has folder old.segment.base cuts.0 = subst (λ b. has folder b cuts.0) (sym same) cuts.1 in
      let kept : KeepsEntries at old.segment.last old.segment.size old.segment.told.items (seen old.segment.disk) (told ++ later) =
      subst (λ b. KeepsEntries b old.segment.last old.segment.size old.segment.told.items (seen old.segment.disk) (told ++ later))
      (sym begins)
      (subst (KeepsEntries old.segment.base old.segment.last old.segment.size old.segment.told.items (seen old.segment.disk)) split
      a.kept) in
      let lasts : HasWhatLasts at old.segment.size (may_leave old.segment.disk) p cuts.0 =
      subst (λ b. HasWhatLasts b old.segment.size (may_leave old.segment.disk) p cuts.0) (sym begins) (a.left.lasting cuts.0 had) in
      let lasting : Lasts at old.segment.size (may_leave old.segment.disk) p =
      subst (λ b. Lasts b old.segment.size (may_leave old.segment.disk) p) (sym begins) (a.lasting (omega (arith, same, to))) in
      cut_text new at old.segment.last old.segment.size p old.segment.told.items told later cuts.0 (seen old.segment.disk)
      (may_leave old.segment.disk)
      (begins ∙ same) a.last cuts.2 (stay old.segment.disk) lasts kept ends lasting

  next_above : (leaves : ℕ → List ℕ → Type 0) (last : ℕ) (stay : List ℕ) (base p : ℕ) (es : List Entry) (more : List ℕ)
      → AreEnded leaves last stay base es → AllByRecursion (λ b. p < b) (stay ++ (base ∷ more)) → p < last
  next_above leaves last [] base p es more e above = let first = above.0 in omega (arith, e.0)
  next_above leaves last (b ∷ stay) base p es more e above = let first = above.0 in omega (arith, e.3)

  -- one that had ended is opened again
  cut_ended : (old new : Feed F D) (p : ℕ) (now : List Entry) (gone : List ℕ) (folder : F) (at b last : ℕ)
      (own more told later : List Entry)
      → Again old new p now gone folder
      → b ≡ at → b ≡ new.segment.base → b < old.segment.base → IsEnded b last own (LeavesAt may_leave has old b) → AreEntries at told
      → last_end at told ≡ p → own ++ (more ++ now) ≡ told ++ later → p < last
      → OpenedFrom seen may_leave has folder p new.segment → Cut at [] new p told
  cut_ended old new p now gone folder at b last own more told later a begins same low e are ends split below cuts =
      let had : has folder b cuts.0 = subst (λ x. has folder x cuts.0) (sym same) cuts.1 in
      let is : cuts.0 ≡ e.text = e.finished.synced cuts.0 (a.left.each b cuts.0 low had) in
      let there : last_end at own ≡ last = ap (λ x. last_end x own) (sym begins) ∙ sym e.finished.last_is in
      let rest = goes_on at told later own (more ++ now) are (sym split) (omega (arith, ends, there)) in
      let f : IsFinished b last (told ++ rest.0) e.text (LeavesAt may_leave has old b) =
      subst (λ es. IsFinished b last es e.text (LeavesAt may_leave has old b)) rest.1 e.finished in
      let size : ℕ = 1024 + length (entries_text f.bodies b (told ++ rest.0)) in
      let up : last_end b told ≡ p = ap (λ x. last_end x told) begins ∙ ends in
      let cut = cut_text new b last size p [] told rest.0 cuts.0 e.text (λ c. c ≡ e.text) same a.last cuts.2 refl
      (λ front lasting. lasting.each cuts.0 is) (finished_keeps b last (told ++ rest.0) e.text (LeavesAt may_leave has old b) f) up
      (finished_lasts b last p told rest.0 e.text (LeavesAt may_leave has old b) f up) in
      subst (λ x. Cut x [] new p told) begins cut

  -- the open segment has ended, and the one that was to follow it is opened
  cut_next : (old new : Feed F D) (p : ℕ) (now : List Entry) (gone : List ℕ) (folder : F) (at x : ℕ) (told later : List Entry)
      (more xs above : List ℕ)
      → Again old new p now gone folder
      → at ≡ old.segment.base → old.segment.base ≡ x → AreEntries at told → last_end at told ≡ p → now ≡ told ++ later
      → Follow old.segment.base old.segment.last more
      → (BeginAt old.segment.last more → IsEnded old.segment.base old.segment.last now (has folder old.segment.base))
      → (BeginAt p more → HasHeadAt has folder p)
      → more ≡ xs ++ (new.segment.base ∷ above) → new.segment.base ≤ p
      → OpenedFrom seen may_leave has folder p new.segment → Cut at (x ∷ xs) new p told
  cut_next old new p now gone folder at x told later [] xs above a begins same are ends split behind done heads tail to cuts =
      absurd (never_none xs above new.segment.base tail)
  cut_next old new p now gone folder at x told later (m ∷ more) (y ∷ xs) above a begins same are ends split behind done heads tail to cuts =
      let rest : more ≡ xs ++ (new.segment.base ∷ above) = cc in
      let high = all_behind (λ b. m < b) xs above new.segment.base (subst (AllByRecursion (λ b. m < b)) rest behind.2) in
      absurd (omega (arith, behind.1, a.up))
  cut_next old new p now gone folder at x told later (m ∷ more) [] above a begins same are ends split behind done heads tail to cuts =
      let head : m ≡ new.segment.base = cc in
      let here : new.segment.base ≡ p = omega (arith, behind.1, a.up, head) in
      let place : p ≡ old.segment.last = omega (arith, behind.1, a.up, head) in
      let there : m ≡ old.segment.last = head ∙ here ∙ place in
      let fresh : IsFresh seen may_leave new.segment = opened_fresh new.segment p cuts.0 here a.last cuts.2
      (heads (head ∙ here) cuts.0 (subst (λ b. has folder b cuts.0) here cuts.1)) in
      let e = done there in
      let all : AreEntries at (told ++ later) = subst (λ b. AreEntries b (told ++ later)) (sym begins)
      (subst (AreEntries old.segment.base) split a.kept.entries) in
      let whole : last_end at (told ++ later) ≡ old.segment.last =
      ap (λ b. last_end b (told ++ later)) begins ∙ ap (last_end old.segment.base) (sym split) ∙ sym a.kept.last_is in
      let none : later ≡ [] = none_later at told later all (ends ∙ place ∙ sym whole) in
      let mine : told ≡ now = sym (append-nil told) ∙ ap (λ xs. told ++ xs) (sym none) ∙ sym split in
      let apart : new.segment.base ≢ old.segment.base = λ one. let never : ⊥ = omega (arith, behind.0, head, one) in never in
      let ended : IsEnded old.segment.base old.segment.last now (LeavesAt may_leave has new old.segment.base) =
      ended_less old.segment.base old.segment.last now (has folder old.segment.base) (LeavesAt may_leave has new old.segment.base)
      (λ text may. less_left old new p now gone folder old.segment.base text a apart may) e in
      record {
        before = now;
        now = [];
        is = mine ∙ sym (append-nil now);
        ended = (
          old.segment.last,
          now,
          [],
          sym same ∙ sym begins,
          sym (append-nil now),
          subst (λ b. IsEnded b old.segment.last now (LeavesAt may_leave has new b)) same ended,
          (sym there ∙ head, refl),
        );
        kept = fresh.0;
        lasting = subst (λ q. Lasts new.segment.base new.segment.size (may_leave new.segment.disk) q) here fresh.1;
      }

  cut_from : ((d : D) → may_leave d (seen d)) → (old new : Feed F D) (p : ℕ) (now : List Entry) (gone : List ℕ) (folder : F) (at : ℕ)
      (stay : List ℕ)
      (es told later : List Entry) (bases above : List ℕ) → (a : Again old new p now gone folder)
      → AreEnded (LeavesAt may_leave has old) at stay old.segment.base es → AreEntries at told → last_end at told ≡ p
      → es ++ now ≡ told ++ later
      → stay ++ (old.segment.base ∷ a.left.more) ≡ bases ++ (new.segment.base ∷ above) → AllByRecursion (λ b. p < b) above
      → new.segment.base ≤ p → Cut at bases new p told
  cut_from may_stay old new p now gone folder at [] es told later [] above a e are ends split same high to =
      let head : old.segment.base ≡ new.segment.base = cc in
      let mine : now ≡ told ++ later = ap (λ xs. xs ++ now) (sym e.1) ∙ split in
      cut_open may_stay old new p now gone folder at told later a e.0 head are ends mine to a.opened
  cut_from may_stay old new p now gone folder at [] es told later (x ∷ bases) above a e are ends split same high to =
      let head : old.segment.base ≡ x = cc in
      let tail : a.left.more ≡ bases ++ (new.segment.base ∷ above) = cc in
      let mine : now ≡ told ++ later = ap (λ xs. xs ++ now) (sym e.1) ∙ split in
      cut_next old new p now gone folder at x told later a.left.more bases above a e.0 head are ends mine a.left.behind a.left.done
      a.left.heads tail to a.opened
  cut_from may_stay old new p now gone folder at (b ∷ stay) es told later [] above a e are ends split same high to =
      let head : b ≡ new.segment.base = cc in
      let tail : stay ++ (old.segment.base ∷ a.left.more) ≡ above = cc in
      let low = ended_below (LeavesAt may_leave has old) at (b ∷ stay) old.segment.base es e in
      let below = next_above (LeavesAt may_leave has old) e.0 stay old.segment.base p e.2 a.left.more e.6
      (subst (AllByRecursion (λ x. p < x)) (sym tail) high) in
      let whole : e.1 ++ (e.2 ++ now) ≡ told ++ later = sym (append_assoc e.1 e.2 now) ∙ ap (λ xs. xs ++ now) (sym e.4) ∙ split in
      cut_ended old new p now gone folder at b e.0 e.1 e.2 told later a e.3 head low.0 e.5 are ends whole below a.opened
  cut_from may_stay old new p now gone folder at (b ∷ stay) es told later (x ∷ bases) above a e are ends split same high to =
      let head : b ≡ x = cc in
      let tail : stay ++ (old.segment.base ∷ a.left.more) ≡ bases ++ (new.segment.base ∷ above) = cc in
      let low = ended_below (LeavesAt may_leave has old) at (b ∷ stay) old.segment.base es e in
      let up : old.segment.base ≤ old.segment.last =
      let far = ends_up old.segment.base now a.kept.entries in omega (arith, a.kept.last_is) in
      let here = reaches (LeavesAt may_leave has old) e.0 stay old.segment.base old.segment.last e.2 a.left.more bases above
      new.segment.base p
      e.6 up a.left.behind tail to in
      let under = reaches (LeavesAt may_leave has old) e.0 stay old.segment.base old.segment.last e.2 a.left.more bases above
      new.segment.base new.segment.base e.6 up a.left.behind tail (omega arith) in
      let own : AreEntries at e.1 = subst (λ q. AreEntries q e.1) e.3 e.5.finished.entries in
      let there : last_end at e.1 ≡ e.0 = ap (λ q. last_end q e.1) (sym e.3) ∙ sym e.5.finished.last_is in
      let whole : e.1 ++ (e.2 ++ now) ≡ told ++ later = sym (append_assoc e.1 e.2 now) ∙ ap (λ xs. xs ++ now) (sym e.4) ∙ split in
      let rest = goes_on at e.1 (e.2 ++ now) told later own whole (omega (arith, there, ends, here)) in
      let mid : List Entry = rest.0 in
      let behind : AreEntries e.0 mid = subst (λ q. AreEntries q mid) there
      (entries_behind at e.1 mid (subst (AreEntries at) rest.1 are)) in
      let end = mid_end at e.0 p e.1 rest.0 told there rest.1 ends in
      let more = cut_from may_stay old new p now gone folder e.0 stay e.2 mid later bases above a e.6 behind end rest.2 tail high to in
      let apart : new.segment.base ≢ b = λ one. let rises = e.5.rises in let never : ⊥ = omega (arith, under, one) in never in
      let ended : IsEnded b e.0 e.1 (LeavesAt may_leave has new b) =
      ended_less b e.0 e.1 (LeavesAt may_leave has old b) (LeavesAt may_leave has new b)
      (λ text may. a.left.each b text low.0 (less_left old new p now gone folder b text a apart may)) e.5 in
      record {
        before = e.1 ++ more.before;
        now = more.now;
        is = rest.1 ∙ ap (λ xs. e.1 ++ xs) more.is ∙ sym (append_assoc e.1 more.before more.now);
        ended = (
          e.0,
          e.1,
          more.before,
          sym head ∙ e.3,
          refl,
          subst (λ q. IsEnded q e.0 e.1 (LeavesAt may_leave has new q)) head ended,
          more.ended,
        );
        kept = more.kept;
        lasting = more.lasting;
      }

  split_at : {P Q : Type 0} (stay : List ℕ) (base : ℕ) (more found bases above : List ℕ) (b p : ℕ) → found ≡ stay ++ (base ∷ more)
      → ((found ≡ bases ++ (b ∷ above)) × P) ⊎ ((found ≡ []) × (bases ≡ []) × (b ≡ p) × Q)
      → (stay ++ (base ∷ more) ≡ bases ++ (b ∷ above)) × P
  split_at stay base more found bases above b p there (inl split) = (sym there ∙ split.0, split.1)
  split_at stay base more found bases above b p there (inr none) = absurd (never_none stay more base (sym none.0 ∙ there))

  -- all that a feed keeps are entries
  pub all_entries : (l : Feed F D) (es : List Entry) → KeepsAll seen may_leave is_clean is_true places has l es → AreEntries l.begins es
  all_entries l es k =
      subst (AreEntries l.begins) (sym k.is)
      (entries_append l.begins k.before k.now k.entries (subst (λ a. AreEntries a k.now) (sym k.ends) k.kept.entries))

  pub all_last : (l : Feed F D) (es : List Entry) → KeepsAll seen may_leave is_clean is_true places has l es
      → last_end l.begins es ≡ l.segment.last
  all_last l es k =
      ap (last_end l.begins) k.is ∙ end_append l.begins k.before k.now ∙ ap (λ a. last_end a k.now) k.ends ∙ sym k.kept.last_is

  -- the feed keeps the entries up to where it was opened, from the first segment that is there
  pub cut_last : ((d : D) → may_leave d (seen d)) → (old new : Feed F D) (p : ℕ) (gone : List ℕ) (told later : List Entry) (folder : F)
      → (k : KeepsAll seen may_leave is_clean is_true places has old (told ++ later)) → last_end old.begins told ≡ p
      → LastsUpTo seen may_leave is_clean is_true places has old p
      → IsLeftIn seen may_leave is_clean is_true places has old p k.now gone folder
      → OpensIn seen may_leave is_clean is_true places has folder p new
      → IsHonestFeed seen may_leave is_clean is_true places has new
      → KeepsLast seen may_leave is_clean is_true places has old new gone told
      × LastsUpTo seen may_leave is_clean is_true places has new p
  cut_last may_stay old new p gone told later folder k ends lasting left opens honest =
      let w = k.whole left.honest in
      let c = opens.cuts honest in
      let leaves : ℕ → List ℕ → Type 0 = LeavesAt may_leave has old in
      let low = ended_below leaves old.begins w.bases old.segment.base k.before w.ended in
      let one = one_split w.bases w.above (gone ++ left.stay) left.above old.segment.base low left.ended (sym w.there ∙ left.had) in
      let all : AreEnded leaves old.begins (gone ++ left.stay) old.segment.base k.before =
      subst (λ bs. AreEnded leaves old.begins bs old.segment.base k.before) one.0 w.ended in
      let last = ended_last leaves old.begins gone left.stay old.segment.base k.before all in
      let at : ℕ = last_end old.begins last.0 in
      let up : old.segment.base ≤ old.segment.last =
      let far = ends_up old.segment.base k.now k.kept.entries in omega (arith, k.kept.last_is) in
      let found = split_at left.stay old.segment.base left.more (places folder) c.bases c.above new.segment.base p left.there c.there in
      let split = found.0 in
      let opened : OpenedFrom seen may_leave has folder p new.segment = found.1 in
      let to = opened.2.up in
      let from = reaches leaves at left.stay old.segment.base old.segment.last last.1 left.more c.bases c.above new.segment.base p last.4 up
      left.behind split to in
      let whole : last.0 ++ (last.1 ++ k.now) ≡ told ++ later =
      sym (append_assoc last.0 last.1 k.now) ∙ ap (λ xs. xs ++ k.now) (sym last.2) ∙ sym k.is in
      let rest = goes_on old.begins last.0 (last.1 ++ k.now) told later last.3 whole (omega (arith, from, ends)) in
      let mid : List Entry = rest.0 in
      let are : AreEntries old.begins told = entries_front old.begins told later (all_entries old (told ++ later) k) in
      let behind : AreEntries at mid = entries_behind old.begins last.0 mid (subst (AreEntries old.begins) rest.1 are) in
      let end : last_end at mid ≡ p = sym (end_append old.begins last.0 mid) ∙ ap (last_end old.begins) (sym rest.1) ∙ ends in
      let a : Again old new p k.now gone folder = record {
        left = left;
        kept = k.kept;
        up = lasting.0;
        lasting = lasting.1;
        alone = opens.alone;
        last = opens.last;
        same = c.same;
        opened = opened;
      } in
      let cut = cut_from may_stay old new p k.now gone folder at left.stay last.1 mid later c.bases c.above a last.4 behind end rest.2 split
      c.removed to in
      let begins : new.begins ≡ at =
      c.first ∙ ended_first (LeavesAt may_leave has new) at c.bases new.segment.base cut.before cut.ended in
      let entries : AreEntries new.begins cut.before = subst (λ q. AreEntries q cut.before) (sym begins)
      (ended_entries (LeavesAt may_leave has new) at c.bases new.segment.base cut.before cut.ended) in
      let place : last_end new.begins cut.before ≡ new.segment.base = ap (λ q. last_end q cut.before) begins
      ∙ ended_end (LeavesAt may_leave has new) at c.bases new.segment.base cut.before cut.ended in
      let keeps : KeepsAll seen may_leave is_clean is_true places has new mid = record {
        before = cut.before;
        now = cut.now;
        is = cut.is;
        entries = entries;
        ends = place;
        kept = cut.kept;
        whole = λ _. record {
          bases = c.bases;
          above = [];
          there = c.stay;
          below = subst (AllByRecursion (λ (e : Segment D). e.base < new.segment.base)) (sym opens.alone) tt;
          ended = subst (λ q. AreEnded (LeavesAt may_leave has new) q c.bases new.segment.base cut.before) (sym begins) cut.ended;
          over = inl refl;
          free = λ _. refl;
        };
      } in (
        record { before = last.0; stay = mid; is = rest.1; kept = keeps; begins_is = begins; all = last.5 },
        (let there = opens.last in omega arith, λ _. cut.lasting),
      )
