use Rattle.pgcompared.proofs.Paths.{path_whole}
use Rattle.pgcompared.proofs.compared.Compared.hear_front.Goals as goal

pub returns-in-Some-clause-compared : goal.returns-in-Some-clause-compared
returns-in-Some-clause-compared c v limit max past reached all before i =
    let front = c.in-Some.ensures in
    path_whole v limit max past reached all c.args.self.now before i c.in-Some.payload.now c.if-self.false front.held front.allowed
    c.args.piece.now
    front.front c.hear_whole.new.self c.hear_whole.new.told c.hear_whole.ensures
