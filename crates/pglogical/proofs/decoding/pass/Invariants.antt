use Rattle.std.proofs.Common.{◌≡◌, ◌-◌, List}
use Rattle.pglogical.specs.declared.message.Column.{Column}
use Rattle.pglogical.specs.Reading.{columns_at}
use Rattle.pglogical.proofs.Columns.{behind}
use Rattle.pglogical.proofs.decoding.pass.Given as goal

abbrev pub invariant-loop : goal.invariant-loop
invariant-loop l = (front : List Column) × (behind front (columns_at (l.count - l.counter) l.reader) ≡ columns_at l.count l.fn.reader)
