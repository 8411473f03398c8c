use Rattle.pgrepeats.proofs.Noting.{readied}
use Rattle.pgrepeats.proofs.past.Past.make_room.Goals as goal

pub returns : goal.returns
returns c =
    readied c.args.self.now c.forget_some.new.self c.args.commit c.requires c.begin_at.new.self c.forget_some.ensures c.begin_at.ensures
