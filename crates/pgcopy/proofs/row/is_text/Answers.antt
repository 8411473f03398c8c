use Rattle.pgcopy.proofs.Pushed.{is_text, is_no_text}
use Rattle.pgcopy.proofs.row.is_text.Goals as goal

pub returns-in-Ok : goal.returns-in-Ok
returns-in-Ok c = is_text c.args.value.now c.in-Ok.ensures.cases.1

pub returns-in-Err : goal.returns-in-Err
returns-in-Err c = is_no_text c.args.value.now c.in-Err.ensures.cases.0
