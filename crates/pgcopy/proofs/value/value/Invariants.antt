use Rattle.std.proofs.Common.{◌≡◌, ◌+◌, ◌≤◌, length, vec_len}
use Rattle.pgcopy.specs.Values.{value_of}
use Rattle.pgcopy.proofs.Plain.{with_bytes}
use Rattle.pgcopy.proofs.value.value.Given as goal

abbrev pub invariant-loop-value : goal.invariant-loop-value
invariant-loop-value l = record {
  read : with_bytes l.value.items (value_of l.rest) ≡ value_of l.field;
  most : vec_len l.value + length l.rest ≤ length l.field;
}

abbrev pub decreases-loop-value : goal.decreases-loop-value
decreases-loop-value l = length l.rest
