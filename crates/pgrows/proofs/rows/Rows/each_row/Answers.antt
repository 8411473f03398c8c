use Rattle.std.proofs.Common.{rules, subst}
use Rattle.pgrows.specs.Dump.{GivesFront}
use Rattle.pgrows.specs.Rows.{tables_of}
use Rattle.pgrows.proofs.Gaps.{gap_kept, held_failed, held_on}
use Rattle.pgrows.proofs.rows.Rows.each_row.Goals as goal

pub invariant_of-self : goal.invariant_of-self
invariant_of-self g c = held_on g.S.Store c.give_all.new.store _ c.self.inside.low c.self.inside.high c.self.inside.failed (search rules)
    (gap_kept g.S.Store c.self.inside.store c.give_all.new.store c.self.inside.low c.self.inside.high _ (λ t q some. some)
    c.give_all.ensures.quiet.clean c.in-Ok.ensures.made (c.self.invariant.gap c.if-self.false))

pub invariant_of-self-in-Err : goal.invariant_of-self-in-Err
invariant_of-self-in-Err g c =
    held_failed g.S.Store c.self.inside.store c.give_all.new.store c.self.inside.last _ _ c.give_all.ensures.quiet.clean
    c.give_all.ensures.keeps c.self.invariant.behind

pub returns-in-Ok-clause-front : goal.returns-in-Ok-clause-front
returns-in-Ok-clause-front g c clean start =
    subst (λ s. GivesFront (tables_of g.S.Store s) (g.T.RowSink.has_taken start c.args.sink.now)
    (g.T.RowSink.has_taken start c.give_all.new.sink)) c.self.view_is (c.give_all.ensures.front clean start)

pub returns-clause-front : goal.returns-clause-front
returns-clause-front g c clean start =
    subst (λ s. GivesFront (tables_of g.S.Store s) (g.T.RowSink.has_taken start c.args.sink.now)
    (g.T.RowSink.has_taken start c.give_all.new.sink)) c.self.view_is (c.give_all.ensures.front clean start)
