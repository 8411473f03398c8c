use Rattle.std.proofs.Common.{[]}
use Rattle.tests_spill.proofs.strands.failed_write_keeps_the_bytes.Goals as goal

pub append-requires : goal.append-requires
append-requires g c = (c.new-strand.ensures.strand 0 [] []).start

pub spill-written-requires-clause-strand : goal.spill-written-requires-clause-strand
spill-written-requires-clause-strand g c = c.append.ensures.strand _ _ _ (c.new-strand.ensures.strand _ _ _)
