use Rattle.std.proofs.Common.{◌≡◌, ◌≤◌, ◌-◌, ◌++◌, drop, length}
use Rattle.pgfilespools.specs.Stored.{items_in, AreItems}
use Rattle.pgfilespools.specs.Spans.{all_spanned, AreSpans}
use Rattle.pgfilespools.proofs.read_items.copy_items.Given as goal

abbrev pub invariant-loop-copied : goal.invariant-loop-copied
invariant-loop-copied l =
    (l.at ≤ length l.fn.bytes) × AreSpans l.fn.bytes l.spans.items
    × (all_spanned l.fn.bytes l.spans.items ++ items_in (l.count - l._copied) (drop l.at l.fn.bytes) ≡ items_in l.count l.fn.bytes)
    × AreItems (l.count - l._copied) (drop l.at l.fn.bytes)
