use Rattle.std.proofs.Common.{◌≡◌, ◌++◌, None}
use Rattle.std.specs.Vec.Iter.{into_iter_items}
use Rattle.pgcompared.specs.Streams.{found, without}
use Rattle.pgcompared.proofs.opened.Open.take.Given as goal

abbrev pub invariant-loop-stream : goal.invariant-loop-stream
invariant-loop-stream l = record {
  limit : l.self-inside.limit ≡ l.initial.self-inside.limit;
  pair : l.self-inside.pair ≡ l.initial.self-inside.pair;
  block : l.self-inside.block ≡ l.initial.self-inside.block;
  taken : found l.top l.mine (into_iter_items l.stream-iterator) ≡ found l.top None (into_iter_items l.initial.stream-iterator);
  left : l.self-inside.streams.items ++ without l.top (into_iter_items l.stream-iterator)
      ≡ without l.top (into_iter_items l.initial.stream-iterator);
}
