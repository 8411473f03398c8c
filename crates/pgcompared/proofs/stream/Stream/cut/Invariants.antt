use Rattle.std.proofs.Common.{◌≡◌, ◌++◌}
use Rattle.std.specs.Vec.Iter.{into_iter_items}
use Rattle.pgcompared.specs.Streams.{digest_before, points_before}
use Rattle.pgcompared.proofs.stream.Stream.cut.Given as goal

abbrev pub invariant-loop-point : goal.invariant-loop-point
invariant-loop-point l = record {
  top : l.self-inside.top ≡ l.initial.self-inside.top;
  over : l.self-inside.over ≡ l.initial.self-inside.over;
  digest : digest_before l.label l.self-inside.digest (into_iter_items l.point-iterator)
      ≡ digest_before l.label l.initial.self-inside.digest (into_iter_items l.initial.point-iterator);
  points : l.self-inside.points.items ++ points_before l.label (into_iter_items l.point-iterator)
      ≡ points_before l.label (into_iter_items l.initial.point-iterator);
}
