use Rattle.std.proofs.Common.{rules}
use Rattle.pgrows.proofs.Gaps.{held_failed, held_on}
use Rattle.pgrows.proofs.rows.Rows.add_row.Goals as goal

pub invariant_of-self : goal.invariant_of-self
invariant_of-self g c = held_on g.S.Store c.add.new.store _ c.add.new.low c.add.new.high c.self.inside.failed (search rules)
    c.in-Ok.ensures.gap

pub invariant_of-self-in-Err : goal.invariant_of-self-in-Err
invariant_of-self-in-Err g c =
    held_failed g.S.Store c.self.inside.store c.add.new.store c.self.inside.last _ _ c.add.ensures.quiet.clean c.add.ensures.keeps
    c.self.invariant.behind
