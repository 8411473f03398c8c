use Rattle.pgcrc.proofs.Bursts.{burst_is_found}
use Rattle.pgcrc.proofs.laws.bursts_are_found.Goals as goal

pub returns : goal.returns
returns c = λ message other front burst changed behind is_message is_other short len differs same.
    differs (burst_is_found message other front burst changed behind is_message is_other short len same)
