use Rattle.std.proofs.Common.{◌∙◌}
use Rattle.pglogical.specs.Spelling.{column_spelling}
use Rattle.pglogical.specs.BorrowedColumns.{column_value}
use Rattle.pglogical.proofs.Appended.{one_appended, all_appended, Keeps-trans, Keeps-appended}
use Rattle.pgtuple.proofs.Appending.{on_err}
use Rattle.pglogical.proofs.encoding.put_each_column.Goals as goal

pub loop-column-preserved : goal.loop-column-preserved
loop-column-preserved c = record {
  joined = one_appended column_spelling c.loop-column.out.items c.put_column.new.out.items c.loop-column.column-iterator
      (column_value c.in-Some.column) c.next.new.self c.in-Some.ensures.steps c.in_ok-put_column.ensures.ok
      ∙ c.loop-column.invariant.joined;
  kept = Keeps-appended _ _ _ _ c.loop-column.invariant.kept c.in_ok-put_column.ensures.ok;
}

pub returns-clause-ok : goal.returns-clause-ok
returns-clause-ok c = all_appended column_spelling c.loop-column.out.items c.loop-column.column-iterator c.in-None.ensures.steps.0
    ∙ c.loop-column.invariant.joined

pub returns-in_err-put_column-clause-err : goal.returns-in_err-put_column-clause-err
returns-in_err-put_column-clause-err c =
    on_err c.from_residual.result (Keeps-trans _ _ _ c.loop-column.invariant.kept c.in_err-put_column.ensures.err)
