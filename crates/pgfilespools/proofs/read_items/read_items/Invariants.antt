use Rattle.std.proofs.Common.{◌≡◌, ◌≤◌, ◌-◌, ◌++◌, drop, length}
use Rattle.pgfilespools.specs.Stored.{items_in}
use Rattle.pgfilespools.specs.Spans.{all_spanned, AreSpans}
use Rattle.pgfilespools.proofs.read_items.read_items.Given as goal

abbrev pub invariant-loop-taken : goal.invariant-loop-taken
invariant-loop-taken l =
    (l.at ≤ length l.bytes.items) × AreSpans l.bytes.items l.spans.items
    × (all_spanned l.bytes.items l.spans.items ++ items_in (l.count - l._taken) (drop l.at l.bytes.items) ≡ items_in l.count l.bytes.items)
