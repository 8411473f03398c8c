use Rattle.std.proofs.Common.{Some}
use Rattle.pgfeed.proofs.hearing.Hearing.hear.Goals as goal

pub returns-in-Err-clause-within : goal.returns-in-Err-clause-within
returns-in-Err-clause-within c = λ _. c.lose.ensures.within (Some c.args.limit)
