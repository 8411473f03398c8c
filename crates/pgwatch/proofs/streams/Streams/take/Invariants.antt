use Rattle.std.proofs.Common.{◌≡◌, ◌++◌}
use Rattle.std.specs.Vec.Iter.{into_iter_items}
use Rattle.pgwatch.specs.Nesting.{of_xid, without_xid}
use Rattle.pgwatch.proofs.streams.Streams.take.Given as goal

abbrev pub invariant-loop-noted : goal.invariant-loop-noted
invariant-loop-noted l = record {
  taken : l.mine.items ++ of_xid l.xid (into_iter_items l.noted-iterator) ≡ of_xid l.xid (into_iter_items l.initial.noted-iterator);
  left : l.self-inside.noted.items ++ without_xid l.xid (into_iter_items l.noted-iterator)
      ≡ without_xid l.xid (into_iter_items l.initial.noted-iterator);
}
