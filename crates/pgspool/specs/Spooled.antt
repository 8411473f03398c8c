-- What spools are seen as: each open transaction's items, and the most bytes that all of them may
-- cost.
use Rattle.std.specs.Prelude.{◌≡◌, ◌≤◌, ℕ, List, map as mapped, refl}
use Rattle.std.specs.Coded.{Coded, code_by, coded×, coded_ℕ, coded_list}
use Rattle.std.specs.FinMap as map
use Rattle.pglogical.specs.contracts.message.Item as item
use Rattle.pgspool.specs.Labels.{LabelledItem, HeldMap, all_costs}

pub record Spooled : Type 0 where
  pub held : HeldMap
  pub most : ℕ

abbrev pub held_code : Coded HeldMap
held_code = map.code coded_ℕ (coded_list (coded× coded_ℕ item.the_row.coded))

abbrev pub spooled_code : Coded Spooled
spooled_code = code_by (HeldMap × ℕ) (coded× held_code coded_ℕ) (λ s. (s.held, s.most)) (λ p. record { held = p.0; most = p.1 }) (λ _. refl)

-- what these transactions hold
abbrev pub spooled_of : List (ℕ × List LabelledItem) → HeldMap
spooled_of entries = map.from_entries entries

-- what transactions hold whose items are seen as these lists
abbrev pub held_by : {T : Type 0} → (T → List LabelledItem) → List (ℕ × T) → HeldMap
held_by listed entries = spooled_of (mapped (λ e. (e.0, listed e.1)) entries)

-- the bytes are what all items cost, within the limit
pub record IsCounted (held : HeldMap) (bytes most : ℕ) : Type 0 where
  pub counted : bytes ≡ all_costs held
  pub within : bytes ≤ most
