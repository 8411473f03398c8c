use Rattle.std.proofs.Common.{◌∙◌, refl, sym, length}
use Rattle.pgrules.proofs.Paths.{is_watched, none_of, path_err}
use Rattle.pgrules.proofs.Paths.{path_next, path_over, path_was_ended}
use Rattle.pgrules.proofs.live.LiveWatch.hear_part.Goals as goal
use Rattle.pgrules.proofs.live.LiveWatch.hear_part.Goals.{in-Some, in-None}

pub returns-in-Err-clause-watched : goal.returns-in-Err-clause-watched
returns-in-Err-clause-watched c v limit max all told most w =
    path_err v limit max all c.args.self.now told w c.args.piece.now (length c.args.piece.now) c.feed.new.self c.in-Err.fault
    c.lose-in-Err.new.self c.lose-in-Err.result refl c.in-Err.ensures.fed c.requires.whole c.lose-in-Err.ensures.new
    c.lose-in-Err.ensures.found

pub returns-then-is_some-clause-watched : goal.returns-then-is_some-clause-watched
returns-then-is_some-clause-watched c v limit max all told most w =
    path_was_ended v limit max all c.args.self.now told w c.args.piece.now c.in-Ok.count c.feed.new.self c.in-Ok.ensures.fed
    c.requires.whole c.pass_over.new.self (sym c.is_some.ensures ∙ c.if-is_some.true) c.pass_over.ensures

pub returns-clause-watched : goal.returns-clause-watched
returns-clause-watched c v limit max all told most w =
    let none = none_of c.args.self.now.end (sym c.is_some.ensures ∙ c.if-is_some.false) in
    elim c.match-checked_add.branch [
      | in-Some b ↦
          rw (b.self-is, b.found-is)
          (path_next v limit max all c.args.self.now told w c.args.piece.now c.in-Ok.count c.feed.new.self c.in-Ok.ensures.fed
          c.requires.whole
          none b.in-Some.came b.in-Some.ensures.1 most b.hear_next-found.new.self b.hear_next-found.result
          (b.hear_next-found.ensures (is_watched v limit max all c.args.self.now told w none c.requires.whole)))
      | in-None b ↦
          rw (b.self-is, b.found-is)
          (path_over v limit max all c.args.self.now told w c.args.piece.now c.in-Ok.count c.in-Ok.count c.feed.new.self
          b.lose-found.new.self b.lose-found.result c.in-Ok.ensures.fed c.requires.whole b.lose-found.ensures.new
          b.lose-found.ensures.found)
    ]
