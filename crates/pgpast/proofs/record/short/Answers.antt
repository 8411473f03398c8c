use Rattle.std.proofs.Common.{arith, rules}
use Rattle.pgpast.proofs.Fields.{short_front}
use Rattle.pgpast.proofs.record.short.Goals as goal

pub returns-in-Some : goal.returns-in-Some
returns-in-Some c =
    let cases = c.in-Some.ensures.cases in
    short_front c.args.bytes.now c.in-Some.first.now c.in-Some.others.now c.from_be_bytes.result (search rules) (omega arith) cases.0
    cases.1 c.from_be_bytes.ensures
