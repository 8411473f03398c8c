use Rattle.std.proofs.Common.{rules}
use Rattle.pgrows.proofs.Gaps.{gap_kept, held_failed, held_on}
use Rattle.pgrows.proofs.rows.Rows.has_rows.Goals as goal

pub invariant_of-self : goal.invariant_of-self
invariant_of-self g c = held_on g.S.Store c.has_rows.new.store _ c.self.inside.low c.self.inside.high c.self.inside.failed (search rules)
    (gap_kept g.S.Store c.self.inside.store c.has_rows.new.store c.self.inside.low c.self.inside.high _ (λ t q some. some)
    c.has_rows.ensures.quiet.clean c.in-Ok.ensures.made (c.self.invariant.gap c.if-self.false))

pub invariant_of-self-in-Err : goal.invariant_of-self-in-Err
invariant_of-self-in-Err g c =
    held_failed g.S.Store c.self.inside.store c.has_rows.new.store c.self.inside.last _ _ c.has_rows.ensures.quiet.clean
    c.has_rows.ensures.keeps c.self.invariant.behind
