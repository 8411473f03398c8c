use Rattle.std.proofs.Common.{◌≡◌, length}
use Rattle.std.specs.Cmp.Lexicographic.{pointwise}
use Rattle.std.specs.Slice.Iter.{iter_rest}
use Rattle.std.specs.Iterator.Adapters.{zip_first, zip_second}
use Rattle.pgrel.specs.Identity.{same_column}
use Rattle.pgrel.proofs.identity.same_columns.Given as goal

abbrev pub invariant-loop-x : goal.invariant-loop-x
invariant-loop-x l = record {
  same : pointwise same_column l.a l.b ≡ pointwise same_column (iter_rest (zip_first l.x-iterator)) (iter_rest (zip_second l.x-iterator));
  as_long : length (iter_rest (zip_first l.x-iterator)) ≡ length (iter_rest (zip_second l.x-iterator));
}
