use Rattle.std.proofs.Common.{[]}
use Rattle.tests_spill.proofs.strands.cleared_blocks_are_free.Goals as goal

pub append-requires : goal.append-requires
append-requires g c = (c.new-strand.ensures.strand 0 [] []).start

pub spill-requires-clause-strand : goal.spill-requires-clause-strand
spill-requires-clause-strand g c = c.append.ensures.strand _ _ _ (c.new-strand.ensures.strand _ _ _)
