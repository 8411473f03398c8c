use Rattle.std.proofs.Common.{arith, rules}
use Rattle.pgcompared.proofs.Fronts.{number_front}
use Rattle.pgcompared.proofs.front.number.Goals as goal

pub returns-in-Some : goal.returns-in-Some
returns-in-Some c =
    let cases = c.in-Some.ensures.cases in
    number_front c.args.bytes.now c.in-Some.first.now c.in-Some.others.now c.from_be_bytes.result (search rules) (omega arith) cases.0
    cases.1 c.from_be_bytes.ensures
