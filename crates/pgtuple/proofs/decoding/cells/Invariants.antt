use Rattle.std.proofs.Common.{◌≡◌, ◌-◌, List}
use Rattle.pgtuple.specs.declared.cell.Cell.{Cell}
use Rattle.pgtuple.specs.Reading.{cells_at}
use Rattle.pgtuple.proofs.Loop.{with_front}
use Rattle.pgtuple.proofs.decoding.cells.Given as goal

abbrev pub invariant-loop : goal.invariant-loop
invariant-loop l = (front : List Cell) × (with_front front (cells_at (l.count - l.counter) l.reader) ≡ cells_at l.count l.fn.reader)
