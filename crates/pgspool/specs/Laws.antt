-- What holds of cuts and costs whatever is held.
use Rattle.std.specs.Prelude.{◌≡◌, ◌≢◌, ◌≤◌, ◌+◌, ℕ, List, ◌++◌, length, drop, false}
use Rattle.std.specs.List.{AllByRecursion}
use Rattle.std.specs.FinMap as map
use Rattle.pgspool.specs.Labels.{LabelledItem, HeldMap, cut, held_of, costs, all_costs}

-- no item is under the label
abbrev pub LacksLabel : ℕ → List LabelledItem → Type 0
LacksLabel label held = AllByRecursion (λ (l : LabelledItem). l.0 ≢ label) held

-- one list begins with another
abbrev pub IsFrontOf : List LabelledItem → List LabelledItem → Type 0
IsFrontOf front held = (rest : List LabelledItem) × (front ++ rest ≡ held)

-- a front without the label that begins with each front without it
pub record IsLongestFrontWithout (label : ℕ) (front held : List LabelledItem) : Type 0 where
  pub is_front : IsFrontOf front held
  pub lacks : LacksLabel label front
  pub longest : (other : List LabelledItem) → IsFrontOf other held → LacksLabel label other → IsFrontOf other front

-- what a cut takes away
abbrev pub cut_away : ℕ → List LabelledItem → List LabelledItem
cut_away label held = drop (length (cut label held)) held

abbrev pub CutIsLongestFront : Type 0
CutIsLongestFront = (label : ℕ) (held : List LabelledItem) → IsLongestFrontWithout label (cut label held) held

abbrev pub CutTwiceIsCutOnce : Type 0
CutTwiceIsCutOnce = (label : ℕ) (held : List LabelledItem) → cut label (cut label held) ≡ cut label held

abbrev pub CutsCommute : Type 0
CutsCommute = (first second : ℕ) (held : List LabelledItem) → cut first (cut second held) ≡ cut second (cut first held)

abbrev pub CutTakesNothingUnseen : Type 0
CutTakesNothingUnseen = (label : ℕ) (held : List LabelledItem) → LacksLabel label held → cut label held ≡ held

abbrev pub CostsNeverGrow : Type 0
CostsNeverGrow = (label : ℕ) (held : List LabelledItem) → costs (cut label held) ≤ costs held

abbrev pub CostsAddUp : Type 0
CostsAddUp = (label : ℕ) (held : List LabelledItem)
    → (cut label held ++ cut_away label held ≡ held) × (costs (cut label held) + costs (cut_away label held) ≡ costs held)

-- a transaction's items change the costs of all by the difference
abbrev pub AllCostsChange : Type 0
AllCostsChange = (held : HeldMap) (xid : ℕ) (items : List LabelledItem)
    → all_costs (map.insert held xid items) + costs (held_of held xid) ≡ all_costs held + costs items

abbrev pub AllCostsShrink : Type 0
AllCostsShrink = (held : HeldMap) (xid : ℕ) → all_costs (map.remove held xid) + costs (held_of held xid) ≡ all_costs held

-- to cut, or to drop, what isn't open changes nothing
abbrev pub ClosedStaysClosed : Type 0
ClosedStaysClosed = (held : HeldMap) (xid : ℕ) → map.contains_key held xid ≡ false → map.remove held xid ≡ held
