use Rattle.std.proofs.Common.{◌≡◌}
use Rattle.std.specs.Slice.Iter.{iter_rest}
use Rattle.std.specs.Iterator.Adapters.{rev_source}
use Rattle.pgfeed.specs.Texts.{newest}
use Rattle.pgfeed.proofs.told.newest.Given as goal

abbrev pub invariant-loop-other : goal.invariant-loop-other
invariant-loop-other l = newest (iter_rest (rev_source l.other-iterator)) l.def ≡ newest l.told l.def
