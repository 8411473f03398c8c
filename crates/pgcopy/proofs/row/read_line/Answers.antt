use Rattle.std.proofs.Common.{sym, subst, ◌≤◌, rules}
use Rattle.pgtuple.specs.Limits.{max_columns}
use Rattle.pgcopy.proofs.Cells.{cells_width}
use Rattle.pgcopy.proofs.Pushed.{row_spelling}
use Rattle.pgcopy.specs.Rows.{fields_for, row_of}
use Rattle.pgcopy.proofs.row.read_line.Goals as goal

pub returns-in-Ok : goal.returns-in-Ok
unfolding row_of
returns-in-Ok c =
    let added = c.in-Ok.ensures in
    let width = cells_width c.args.columns (fields_for c.args.columns c.args.line.now) added.cells added.value in (
      search rules,
      added.cells,
      added.value,
      record {
        tuple = record { width = subst (λ n. n ≤ max_columns) (sym width) c.requires.columns; each = added.fit };
        texts = added.texts;
      },
      row_spelling c.args.columns c.args.rows.now.items c.push_row.new.rows.items added.cells width added.bytes,
    )
