use Rattle.std.proofs.Common.{sym, ◌∙◌}
use Rattle.pgcopy.proofs.Fields.{fields-None, fields-Some}
use Rattle.pgcopy.proofs.row.first_field.Goals as goal

pub returns-in-None-clause-fields : goal.returns-in-None-clause-fields
returns-in-None-clause-fields c = fields-None c.args.line.now (sym c.field_end.ensures ∙ c.in-None.is)

pub returns-in-Some-clause-fields : goal.returns-in-Some-clause-fields
returns-in-Some-clause-fields c = fields-Some c.args.line.now c.in-Some.end (sym c.field_end.ensures ∙ c.in-Some.is)
