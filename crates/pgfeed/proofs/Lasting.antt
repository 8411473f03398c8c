-- A feed outlasts crashes, and that others remove segments which have ended.
use Rattle.std.proofs.Common.{◌≡◌, ◌⊎◌, inl, inr, ◌<◌, ℕ, List, [], ◌∷◌, ◌++◌, ap, refl, sym, ◌∙◌}
use Rattle.std.proofs.Common.{subst, arith, Bool}
use Rattle.std.specs.List.{AllByRecursion}
use Rattle.pgledger.specs.Entries.{Entry}
use Rattle.pgfeed.specs.declared.feed.Feed.{Feed}
use Rattle.pgfeed.specs.Segments.{IsEnded}
use Rattle.pgfeed.specs.declared.segment.Segment.{Segment}
use Rattle.pgfeed.specs.Feeds.{BeginAt, Follow, HasHeadAt, IsLeftIn, KeepsAll, LeavesAt}
use Rattle.pgfeed.specs.Lasting.{FeedsOutlastCrashes, IsLeftOf}
use Rattle.pgfeed.specs.Cutting.Following.{cut_last, ended_below, ended_less}
use Rattle.pgfeed.proofs.Following.{of_folder}

-- a front of LSNs that lie below one is a front of those before it
gone_front : (gone rest bases above : List ℕ) (base : ℕ) → AllByRecursion (λ b. b < base) gone → bases ++ (base ∷ above) ≡ gone ++ rest
    → (stay : List ℕ) × (bases ≡ gone ++ stay) × (rest ≡ stay ++ (base ∷ above))
gone_front [] rest bases above base low same = (bases, refl, sym same)
gone_front (g ∷ gone) rest [] above base low same = let head : base ≡ g = cc in absurd (omega (arith, low.0))
gone_front (g ∷ gone) rest (b ∷ bases) above base low same =
    let head : b ≡ g = cc in
    let tail : bases ++ (base ∷ above) ≡ gone ++ rest = cc in
    let more = gone_front gone rest bases above base low.1 tail in
    (more.0, ap (λ x. x ∷ bases) head ∙ ap (λ xs. g ∷ xs) more.1, more.2)

module _ {F D : Type 0} (seen : D → List ℕ) (may_leave : D → List ℕ → Type 0) (is_clean : D → Bool) (is_true : F → Type 0)
    (places : F → List ℕ) (has : F → ℕ → List ℕ → Type 0) where
  of_open : (l : Feed F D) (text : List ℕ) → LeavesAt may_leave has l l.segment.base text → may_leave l.segment.disk text
  of_open l text (inl here) = here.1
  of_open l text (inr away) = absurd (away.0 refl)

  follows : (l : Feed F D) (now : List Entry) (above : List ℕ) → (above ≡ [])
      ⊎ ((above ≡ l.segment.last ∷ []) × IsEnded l.segment.base l.segment.last now (may_leave l.segment.disk)
      × HasHeadAt has l.folder l.segment.last)
      → Follow l.segment.base l.segment.last above
  follows l now above (inl none) = subst (Follow l.segment.base l.segment.last) (sym none) tt
  follows l now above (inr one) = subst (Follow l.segment.base l.segment.last) (sym one.0) (one.1.rises, omega arith, tt)

  has_ended : (l : Feed F D) (now : List Entry) (above : List ℕ) (folder : F)
      → ((text : List ℕ) → has folder l.segment.base text → may_leave l.segment.disk text)
      → (above ≡ []) ⊎ ((above ≡ l.segment.last ∷ []) × IsEnded l.segment.base l.segment.last now (may_leave l.segment.disk)
      × HasHeadAt has l.folder l.segment.last)
      → BeginAt l.segment.last above → IsEnded l.segment.base l.segment.last now (has folder l.segment.base)
  has_ended l now above folder less (inl none) at = absurd (subst (BeginAt l.segment.last) none at)
  has_ended l now above folder less (inr one) at =
      ended_less l.segment.base l.segment.last now (may_leave l.segment.disk) (has folder l.segment.base) less one.1

  of_other : (l : Feed F D) (b : ℕ) (text : List ℕ) → AllByRecursion (λ (e : Segment D). e.base < l.segment.base) l.ended.items
      → l.segment.base < b → LeavesAt may_leave has l b text → has l.folder b text
  of_other l b text low up (inl here) = let same = here.0 in absurd (omega arith)
  of_other l b text low up (inr away) = of_folder may_leave has l.ended.items l.folder l.segment.base b text low up away.1

  has_head : (l : Feed F D) (p : ℕ) (now : List Entry) (above : List ℕ) (folder : F)
      → AllByRecursion (λ (e : Segment D). e.base < l.segment.base) l.ended.items
      → ((b : ℕ) (text : List ℕ) → has folder b text → LeavesAt may_leave has l b text)
      → (above ≡ []) ⊎ ((above ≡ l.segment.last ∷ []) × IsEnded l.segment.base l.segment.last now (may_leave l.segment.disk)
      × HasHeadAt has l.folder l.segment.last)
      → BeginAt p above → HasHeadAt has folder p
  has_head l p now above folder low each (inl none) at = absurd (subst (BeginAt p) none at)
  has_head l p now above folder low each (inr one) at =
      let there : l.segment.last ≡ p = subst (BeginAt p) one.0 at in
      subst (HasHeadAt has folder) there
      (λ text had. one.2 text (of_other l l.segment.last text low one.1.rises (each l.segment.last text had)))

  pub left_in : (l : Feed F D) (p : ℕ) (es : List Entry) (k : KeepsAll seen may_leave is_clean is_true places has l es) (gone : List ℕ)
      (folder : F)
      → IsLeftOf seen may_leave is_clean is_true places has l p gone folder
      → IsLeftIn seen may_leave is_clean is_true places has l p k.now gone folder
  left_in l p es k gone folder left =
      let w = k.whole left.honest in
      let low = ended_below (LeavesAt may_leave has l) l.begins w.bases l.segment.base k.before w.ended in
      let split = gone_front gone (places folder) w.bases w.above l.segment.base left.ended (sym w.there ∙ left.rest) in
      record {
        honest = left.honest;
        stay = split.0;
        above = w.above;
        more = w.above;
        had = w.there ∙ ap (λ xs. xs ++ (l.segment.base ∷ w.above)) split.1;
        there = split.2;
        ended = subst (AllByRecursion (λ b. b < l.segment.base)) split.1 low;
        front = left.front;
        behind = follows l k.now w.above w.over;
        each = λ b text under had. left.each b text had;
        lasting = λ text had front lasting. lasting.each text (of_open l text (left.each l.segment.base text had));
        done = has_ended l k.now w.above folder (λ text had. of_open l text (left.each l.segment.base text had)) w.over;
        heads = has_head l p k.now w.above folder w.below left.each w.over;
      }

  pub outlast : ((d : D) → may_leave d (seen d)) → FeedsOutlastCrashes seen may_leave is_clean is_true places has
  outlast stay l new p gone told later folder kept ends lasting left opens honest =
      cut_last seen may_leave is_clean is_true places has stay l new p gone told later folder kept ends lasting
      (left_in l p (told ++ later) kept gone folder left) opens honest
