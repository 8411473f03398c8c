use Rattle.std.proofs.Common.{refl, ap, ◌∙◌}
use Rattle.pgtables.specs.Kept as stored
use Rattle.pgreshaping.proofs.Definitions.{columns_read}
use Rattle.std.proofs.lemmas.Result.{err_from_is_err_and}
use Rattle.pgencoded.proofs.Formed.{its_columns}
use Rattle.pgreshaping.proofs.giving.read_definition.Goals as goal

pub returns-clause-ok : goal.returns-clause-ok
returns-clause-ok c = record {
  letter = refl;
  columns = λ old is e. columns_read c.in_ok-read_columns.field-0 old is c.in_ok-read_columns.ensures.ok
      (c.in_ok-read_columns.ensures.spelled ∙ c.columns.ensures ∙ ap (λ (d : stored.Definition). d.columns) e);
}

pub returns-in_err-read_columns-clause-memory : goal.returns-in_err-read_columns-clause-memory
returns-in_err-read_columns-clause-memory c there is readable e =
    let p = err_from_is_err_and c.from_residual.result c.from_residual.ensures.1 in
    rw p.1 (p.2 ∙ c.in_err-read_columns.ensures.memory there.columns (its_columns there is readable)
    (c.columns.ensures ∙ ap (λ (d : stored.Definition). d.columns) e))
