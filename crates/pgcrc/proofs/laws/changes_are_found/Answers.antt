use Rattle.pgcrc.proofs.Bursts.{change_is_found}
use Rattle.pgcrc.proofs.laws.changes_are_found.Goals as goal

pub returns : goal.returns
returns c = λ front old changed behind old_bytes changed_bytes short len differs same.
    differs (change_is_found front old changed behind old_bytes changed_bytes short len same)
