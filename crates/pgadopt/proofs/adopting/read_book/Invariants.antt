use Rattle.std.proofs.Common.{take}
use Rattle.std.specs.Prelude.{T}
use Rattle.std.specs.Ordering.{nat_cmp}
use Rattle.std.specs.FinMap.{is_sorted}
use Rattle.pgadopt.specs.Adopted.{AreDefinitionsOf}
use Rattle.pgadopt.proofs.adopting.read_book.Given as goal

abbrev pub invariant-loop-oid : goal.invariant-loop-oid
invariant-loop-oid l = T (is_sorted nat_cmp l.stored) → AreDefinitionsOf (take l.oid-index l.stored) l.book
