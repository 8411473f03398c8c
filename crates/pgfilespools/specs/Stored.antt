-- Items as the bytes that are stored of them: for each its label and the length of its spelling,
-- four bytes each with the most significant first, then the spelling outside a block. So an item
-- takes as many bytes as it costs.
use Rattle.std.specs.Prelude.{◌≡◌, ◌<◌, ◌^◌, ℕ, zero, suc, List, [], ◌∷◌, ◌++◌, None, length, take}
use Rattle.std.specs.Prelude.{drop}
use Rattle.std.specs.Int.{to_be_bytes, from_be_bytes, w32}
use Rattle.std.specs.List.{flat_map, AllByRecursion}
use Rattle.pglogical.specs.Spelling.{item_spelling}
use Rattle.pgspool.specs.Labels.{LabelledItem}
use Rattle.pgspool.specs.Marks.{item_in, IsReadable}

abbrev pub stored_item : LabelledItem → List ℕ
stored_item l = to_be_bytes w32 l.0 ++ (to_be_bytes w32 (length (item_spelling None l.1)) ++ item_spelling None l.1)

-- one behind the other
abbrev pub stored : List LabelledItem → List ℕ
stored held = flat_map stored_item held

-- ---- the one reading

-- the number with which bytes begin
abbrev pub number_at : List ℕ → ℕ
number_at bytes = from_be_bytes w32 (take 4 bytes)

-- what is behind the label, and behind the length too
abbrev pub sized_at : List ℕ → List ℕ
sized_at bytes = drop 4 bytes

abbrev pub spelled_at : List ℕ → List ℕ
spelled_at bytes = drop 4 (drop 4 bytes)

abbrev pub size_at : List ℕ → ℕ
size_at bytes = number_at (drop 4 bytes)

-- the first item's spelling, that item, and the bytes behind it
abbrev pub spelling_at : List ℕ → List ℕ
spelling_at bytes = take (size_at bytes) (spelled_at bytes)

abbrev pub first_at : List ℕ → LabelledItem
first_at bytes = (number_at bytes, item_in (spelling_at bytes))

abbrev pub others_at : List ℕ → List ℕ
others_at bytes = drop (size_at bytes) (spelled_at bytes)

-- so many items
abbrev pub items_in : ℕ → List ℕ → List LabelledItem
items_in zero bytes = []
items_in (suc n) bytes = first_at bytes ∷ items_in n (others_at bytes)

-- ---- what can be read again

-- the label and the length are numbers of four bytes, and the spelling is read as the item
pub record IsStorable (l : LabelledItem) : Type 0 where
  pub label : l.0 < 2 ^ 32
  pub size : length (item_spelling None l.1) < 2 ^ 32
  pub readable : IsReadable l.1

-- so many items, and nothing else
pub record AreItems (count : ℕ) (bytes : List ℕ) : Type 0 where
  pub held : List LabelledItem
  pub all : length held ≡ count
  pub written : bytes ≡ stored held
  pub storable : AllByRecursion IsStorable held
