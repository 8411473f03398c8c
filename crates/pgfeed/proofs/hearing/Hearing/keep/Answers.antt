use Rattle.std.proofs.Common.{◌≡◌, ◌++◌, [], ◌∷◌, arith, rules}
use Rattle.pgledger.specs.Entries.{heard_of}
use Rattle.pgfeed.proofs.Heard.{kept_within}
use Rattle.pgfeed.proofs.hearing.Hearing.keep.Goals as goal

pub returns-clause-within : goal.returns-clause-within
returns-clause-within c = λ within.
    let items : c.push.new.self.items ≡ c.args.self.now.messages.items ++ heard_of c.args.message.now ∷ [] = search rules in
    kept_within c.args.limit c.args.self.now (record c.args.self.now { messages = c.push.new.self; bytes = c.in-Some.bytes })
    (heard_of c.args.message.now) within items c.in-Some.ensures.sum (omega arith)
