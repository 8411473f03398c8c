use Rattle.std.proofs.Common.{◌≡◌, length}
use Rattle.std.specs.Cmp.Lexicographic.{pointwise}
use Rattle.std.specs.Slice.Iter.{iter_rest}
use Rattle.std.specs.Iterator.Adapters.{zip_first, zip_second}
use Rattle.pgsub_core.specs.Subscriber.Converging.{same_row}
use Rattle.pgsub_core.proofs.converging.same_rows.Given as goal

abbrev pub invariant-loop-x : goal.invariant-loop-x
invariant-loop-x l = record {
  same : pointwise same_row l.a l.b ≡ pointwise same_row (iter_rest (zip_first l.x-iterator)) (iter_rest (zip_second l.x-iterator));
  as_long : length (iter_rest (zip_first l.x-iterator)) ≡ length (iter_rest (zip_second l.x-iterator));
}
