use Rattle.std.proofs.Common.{inr}
use Rattle.pgsub_cli.proofs.Reading.{written_or_failed}
use Rattle.pgruns.proofs.telling.write_input.Goals as goal

pub returns-in-Err : goal.returns-in-Err
returns-in-Err g c =
    let wrote = c.write_lines-in-Err in
    inr (written_or_failed wrote.result _ _ wrote.ensures.written wrote.ensures.failed)
