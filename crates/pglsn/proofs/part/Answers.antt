use Rattle.std.proofs.Common.{arith, false}
use Rattle.std.proofs.lemmas.Bool.{false≢true}
use Rattle.std.proofs.lemmas.Str.Pattern.{starts_char}
use Rattle.pglsn.proofs.Halves.{part_parsed, same_outcome}
use Rattle.pglsn.proofs.part.Goals as goal

pub returns : goal.returns
returns c =
    let starts = starts_char 43 c.args.digits.now false c.if-starts_with.ensures.cases (omega arith) (omega arith) in
    let parsed = part_parsed c.args.digits.now c.from_str_radix.result (omega arith) (λ e. absurd (false≢true (starts.1 e)))
    c.from_str_radix.ensures.value in
    same_outcome _ _ _ _ _ c.map_err.ensures.cases parsed
