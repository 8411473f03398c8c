use Rattle.std.proofs.Common.{◌≡◌, map, drop}
use Rattle.pgtuple.specs.declared.cell.Cell.{Cell}
use Rattle.pglogical.specs.declared.message.Column.{Column}
use Rattle.pgrel.specs.Identity.{key_cells}
use Rattle.pgreshaping.proofs.keys.behind_key.Given as goal

abbrev pub invariant-loop-other : goal.invariant-loop-other
invariant-loop-other l = record {
  passed : l.passed ≡ l.other-index;
  none : (f : Column → Cell) → key_cells l.columns (map f l.columns)
      ≡ key_cells (drop l.other-index l.columns) (map f (drop l.other-index l.columns));
}
