use Rattle.std.proofs.Common.{refl, length}
use Rattle.pgrules.proofs.Paths.{is_watched, path_lost, path_whole}
use Rattle.pgrules.proofs.live.LiveWatch.hear_front.Goals as goal

pub returns-then-self-clause-watched : goal.returns-then-self-clause-watched
returns-then-self-clause-watched c v limit max all told most w =
    path_lost v limit max all c.args.self.now told w c.args.piece.now (length c.args.piece.now) c.if-self.true refl

pub returns-in-Some-clause-watched : goal.returns-in-Some-clause-watched
returns-in-Some-clause-watched c v limit max all told most w =
    let front = c.in-Some.ensures in
    path_whole v limit max all c.args.self.now told w c.in-Some.payload.now c.args.piece.now front.goes_on c.if-self.false front.held
    front.allowed front.front front.bound c.hear_whole.new.self c.hear_whole.result most
    (c.hear_whole.ensures (is_watched v limit max all c.args.self.now told w front.goes_on c.if-self.false))
