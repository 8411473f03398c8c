use Rattle.std.proofs.Common.{sym, ◌∙◌}
use Rattle.pgcapture.proofs.Lines.{lines-None, lines-Some}
use Rattle.pgcapture.proofs.first_line.Goals as goal

pub returns-in-None-clause-lines : goal.returns-in-None-clause-lines
returns-in-None-clause-lines c = lines-None c.args.text.now (sym c.line_end.ensures ∙ c.in-None.is)

pub returns-in-Some-clause-lines : goal.returns-in-Some-clause-lines
returns-in-Some-clause-lines c = lines-Some c.args.text.now c.in-Some.end (sym c.line_end.ensures ∙ c.in-Some.is)
