-- What the calls of a folder leave of its segments.
use Rattle.std.proofs.Common.{◌≡◌, ◌≢◌, ◌⊎◌, inl, inr, ◌<◌, ◌+◌, ◌-◌, ℕ, zero, suc, List, [], ◌∷◌}
use Rattle.std.proofs.Common.{◌++◌}
use Rattle.std.proofs.Common.{append-nil, append_assoc, ap, refl, sym, ◌∙◌, subst, arith, length}
use Rattle.std.proofs.Common.{Some}
use Rattle.std.specs.Prelude.{Bool, IsTrue, slice_get}
use Rattle.std.specs.List.{AllByRecursion}
use Rattle.pgfeed.specs.declared.segment.Segment.{Segment}
use Rattle.pgfeed.specs.Folders.{AreBelow, HasNoMore, MakesAtMost, RemovesAll, Stays, StaysElse}
use Rattle.pgfeed.specs.Folders.{TakesBack}
use Rattle.pgfeed.specs.Segments.{HasHead}
use Rattle.pgfeed.specs.Feeds.{CutsIn, IsFresh, MayHave, OpenedFrom, TakesAllBack, first_of}

-- ---- files that are given back

module _ {F D : Type 0} (may_leave : D → List ℕ → Type 0) (is_clean : D → Bool) (is_true : F → Type 0) (places : F → List ℕ)
    (has : F → ℕ → List ℕ → Type 0) where
  -- so far these were given back
  pub record TakesSome (ended left : List (Segment D)) (old new : F) : Type 0 where
    pub taken : List (Segment D)
    pub split : ended ≡ left ++ taken
    pub back : TakesAllBack may_leave is_clean is_true places has taken old new

  pub none_back : (ended : List (Segment D)) (folder : F) → is_true folder → TakesSome ended ended folder folder
  none_back ended folder honest = record {
    taken = [];
    split = sym (append-nil ended);
    back = record { was_true = honest; clean = tt; places_are = refl; files = λ b text had. inr (tt, had) };
  }

  one_file : (e : Segment D) (taken : List (Segment D)) (old mid : F) (b : ℕ) (text : List ℕ)
      → ((b : ℕ) (text : List ℕ) → has mid b text → MayHave may_leave has taken old b text)
      → ((e.base ≡ b) × may_leave e.disk text) ⊎ ((e.base ≢ b) × has mid b text) → MayHave may_leave has (e ∷ taken) old b text
  one_file e taken old mid b text files (inl here) = inl (inl here)
  one_file e taken old mid b text files (inr away) = elim (files b text away.1) [
    | inl some ↦ inl (inr some)
    | inr had ↦ inr ((away.0, had.0), had.1)
  ]

  pub one_back : (ended left rest : List (Segment D)) (e : Segment D) (old mid new : F) → TakesSome ended left old mid
      → left ≡ rest ++ e ∷ [] → places new ≡ places mid
      → TakesBack has e.base (may_leave e.disk) mid new → IsTrue (is_clean e.disk) → TakesSome ended rest old new
  one_back ended left rest e old mid new some popped same files clean = record {
    taken = e ∷ some.taken;
    split = some.split ∙ ap (λ xs. xs ++ some.taken) popped ∙ append_assoc rest (e ∷ []) some.taken;
    back = record {
      was_true = some.back.was_true;
      clean = (clean, some.back.clean);
      places_are = same ∙ some.back.places_are;
      files = λ b text had. one_file e some.taken old mid b text some.back.files (files b text had);
    };
  }

  pub all_back : (ended left : List (Segment D)) (old new : F) → TakesSome ended left old new → left ≡ []
      → TakesAllBack may_leave is_clean is_true places has ended old new
  all_back ended left old new some none =
      subst (λ es. TakesAllBack may_leave is_clean is_true places has es old new)
      (sym (some.split ∙ ap (λ xs. xs ++ some.taken) none)) some.back

-- ---- the segment that is made

module _ {F : Type 0} (has : F → ℕ → List ℕ → Type 0) (is_true : F → Type 0) (places : F → List ℕ) where
  at_most_named : (folder mid after : F) (base : ℕ) (outcomes : List ℕ → Type 0) → places mid ≡ places folder
      → ((text : List ℕ) → outcomes text → HasHead base text)
      → (places after ≡ places mid) ⊎ ((places after ≡ places mid ++ base ∷ []) × ((text : List ℕ) → has after base text → outcomes text))
      → (places after ≡ places folder)
      ⊎ ((places after ≡ places folder ++ base ∷ []) × ((text : List ℕ) → has after base text → HasHead base text))
  at_most_named folder mid after base outcomes same heads (inl none) = inl (none ∙ same)
  at_most_named folder mid after base outcomes same heads (inr one) =
      inr (one.0 ∙ ap (λ bs. bs ++ base ∷ []) same, λ text had. heads text (one.1 text had))

  -- the file that was made has a head, and is named
  pub named : (folder mid after : F) (base : ℕ) (outcomes : List ℕ → Type 0) → Stays has is_true places folder mid
      → MakesAtMost has is_true places base outcomes mid after → ((text : List ℕ) → outcomes text → HasHead base text)
      → MakesAtMost has is_true places base (HasHead base) folder after
  named folder mid after base outcomes stays most heads = record {
    was_true = stays.was_true;
    at_most = λ low. at_most_named folder mid after base outcomes stays.places_are heads
        (most.at_most (subst (AreBelow base) (sym stays.places_are) low));
    others = λ b text other had. stays.files b text (most.others b text other had);
  }

-- what lasts of a segment of no commits begins with its head
pub fresh_heads : {D : Type 0} (seen : D → List ℕ) (may_leave : D → List ℕ → Type 0) (s : Segment D) (base : ℕ) → s.base ≡ base
    → IsFresh seen may_leave s → (text : List ℕ) → may_leave s.disk text → HasHead base text
fresh_heads seen may_leave s base begins fresh text may =
    subst (λ b. HasHead b text) begins (fresh.1.0, fresh.1.1.is_front, fresh.1.1.each text may)

-- ---- the segment that is opened

-- some LSNs end with their last one
ends_with : (xs : List ℕ) (n x : ℕ) → n + 1 ≡ length xs → slice_get xs n ≡ Some x → (init : List ℕ) × (xs ≡ init ++ x ∷ [])
ends_with [] n x long is = absurd (omega arith)
ends_with (y ∷ []) zero x long is = let same : y ≡ x = cc in ([], ap (λ z. z ∷ []) same)
ends_with (y ∷ []) (suc n) x long is = absurd (omega arith)
ends_with (y ∷ z ∷ xs) zero x long is = absurd (omega arith)
ends_with (y ∷ z ∷ xs) (suc n) x long is =
    let more = ends_with (z ∷ xs) n x (omega arith) is in (y ∷ more.0, ap (λ ys. y ∷ ys) more.1)

begins_with : (init : List ℕ) (xs : List ℕ) (last x : ℕ) → xs ≡ init ++ last ∷ [] → slice_get xs 0 ≡ Some x → first_of init last ≡ x
begins_with [] xs last x split is = let here : slice_get (last ∷ []) 0 ≡ Some x = subst (λ ys. slice_get ys 0 ≡ Some x) split is in cc
begins_with (y ∷ init) xs last x split is =
    let here : slice_get (y ∷ (init ++ last ∷ [])) 0 ≡ Some x = subst (λ ys. slice_get ys 0 ≡ Some x) split is in cc

pub some_items : (xs : List ℕ) (x : ℕ) → slice_get xs 0 ≡ Some x → 0 < length xs
some_items [] x is = cc
some_items (y ∷ xs) x is = omega arith

pub no_items : (xs : List ℕ) → length xs ≡ 0 → xs ≡ []
no_items [] none = refl
no_items (x ∷ xs) none = absurd (omega arith)

module _ {F D : Type 0} (seen : D → List ℕ) (may_leave : D → List ℕ → Type 0) (is_clean : D → Bool) (is_true : F → Type 0)
    (places : F → List ℕ) (has : F → ℕ → List ℕ → Type 0) where
  from_mid : (folder mid : F) (p : ℕ) (s : Segment D) → HasNoMore has folder mid → OpenedFrom seen may_leave has mid p s
      → OpenedFrom seen may_leave has folder p s
  from_mid folder mid p s less cuts = (cuts.0, less s.base cuts.0 cuts.1, cuts.2)

  -- in a folder without segments
  pub first_cuts : (folder mid after : F) (p : ℕ) (s : Segment D) → places folder ≡ [] → Stays has is_true places folder mid
      → (AreBelow p (places mid) → places after ≡ places mid ++ p ∷ [])
      → MakesAtMost has is_true places p (HasHead p) mid after → s.base ≡ p → IsFresh seen may_leave s
      → CutsIn seen may_leave is_clean is_true places has folder p after p s
  first_cuts folder mid after p s none stays made most begins fresh =
      let nothing : places mid ≡ [] = stays.places_are ∙ none in
      let one : places after ≡ places mid ++ p ∷ [] = made (subst (AreBelow p) (sym nothing) tt) in
      record {
        bases = [];
        above = [];
        there = inr (none, refl, begins, fresh);
        removed = tt;
        stay = one ∙ ap (λ xs. xs ++ p ∷ []) nothing ∙ ap (λ b. b ∷ []) (sym begins);
        first = sym begins;
        same = λ b text other had.
            stays.files b text (most.others b text (λ one. let never : ⊥ = other (begins ∙ one) in never) had);
      }

  -- where the last one at or below the LSN was opened
  pub found_cuts : (folder mid opened after : F) (p : ℕ) (s : Segment D) (below above : List ℕ) (first last : ℕ)
      → places folder ≡ below ++ above → slice_get below (length below - 1) ≡ Some last → slice_get below 0 ≡ Some first
      → AllByRecursion (λ b. p < b) above → Stays has is_true places folder mid → StaysElse has is_true places last mid opened
      → RemovesAll has is_true places above opened after → s.base ≡ last → OpenedFrom seen may_leave has mid p s
      → 0 < length below
      → CutsIn seen may_leave is_clean is_true places has folder p after first s
  found_cuts folder mid opened after p s below above first last split is_last is_first high stays away gone begins from some =
      let ends = ends_with below (length below - 1) last (omega arith) is_last in
      let stands : places opened ≡ below ++ above = away.places_are ∙ stays.places_are ∙ split in
      let last_is : below ≡ ends.0 ++ s.base ∷ [] = ends.1 ∙ ap (λ b. ends.0 ++ b ∷ []) (sym begins) in
      record {
        bases = ends.0;
        above = above;
        there = inl (
          split ∙ ap (λ bs. bs ++ above) last_is ∙ append_assoc ends.0 (s.base ∷ []) above,
          from_mid folder mid p s stays.files from,
        );
        removed = high;
        stay = gone.left below stands ∙ last_is;
        first = sym (begins_with ends.0 below s.base first last_is is_first);
        same = λ b text other had.
            stays.files b text (away.others b text (λ one. let never : ⊥ = other (begins ∙ one) in never) (gone.others b text had));
      }
