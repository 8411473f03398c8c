-- Items that were read back: the bytes that are stored of them, and where the spelling of each is.
use Rattle.std.specs.Prelude.{◌≡◌, ◌≤◌, ◌+◌, ℕ, List, map, false, length, drop, slice_range}
use Rattle.std.specs.Prelude.{IsSome}
use Rattle.std.specs.List.{AllByRecursion}
use Rattle.pglogical.specs.Reading.{message_at}
use Rattle.pgspool.specs.Labels.{LabelledItem}
use Rattle.pgspool.specs.Marks.{item_in, item_at_all}
use Rattle.pgfilespools.specs.declared.span.Span.{Span}
use Rattle.pgfilespools.specs.Stored.{number_at, spelling_at, others_at}

-- the bytes of a span
abbrev pub spelled_in : List ℕ → Span → List ℕ
spelled_in bytes s = slice_range bytes s.start (s.start + s.size)

-- the item that they spell, under its label
abbrev pub spanned : List ℕ → Span → LabelledItem
spanned bytes s = (s.subxid, item_in (spelled_in bytes s))

-- the items of all spans
abbrev pub all_spanned : List ℕ → List Span → List LabelledItem
all_spanned bytes spans = map (spanned bytes) spans

-- the span of the first item in the rest of the bytes
pub record IsFirst (bytes rest : List ℕ) (s : Span) : Type 0 where
  pub label : s.subxid ≡ number_at rest
  pub spelled : spelled_in bytes s ≡ spelling_at rest
  pub others : drop (s.start + s.size) bytes ≡ others_at rest

-- it is within the bytes, and these spell an item
pub record IsSpan (bytes : List ℕ) (s : Span) : Type 0 where
  pub within : s.start + s.size ≤ length bytes
  pub read : IsSome (item_at_all (message_at false (spelled_in bytes s)))

abbrev pub AreSpans : List ℕ → List Span → Type 0
AreSpans bytes spans = AllByRecursion (IsSpan bytes) spans
