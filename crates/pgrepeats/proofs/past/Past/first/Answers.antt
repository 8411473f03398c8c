use Rattle.std.proofs.Common.{arith}
use Rattle.pgrepeats.proofs.Noting.{answers_new}
use Rattle.pgrepeats.proofs.past.Past.first.Goals as goal

pub returns : goal.returns
returns c =
    answers_new c.args.self.now c.make_room.new.self c.note.new.self c.args.commit c.note.result c.requires.1
    (omega (arith, c.if-commit-self.false)) c.in_ok-check_left_out.ensures.ok c.make_room.ensures c.note.ensures
