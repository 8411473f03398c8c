use Rattle.std.proofs.Common.{[], rules}
use Rattle.pgrows.proofs.Gaps.{gap_none, held_failed, held_on}
use Rattle.pgrows.proofs.rows.Rows.put_row.Goals as goal

pub invariant_of-self : goal.invariant_of-self
invariant_of-self g c = rw c.clear.ensures
    (held_on g.S.Store c.put.new.store _ [] c.self.inside.high c.self.inside.failed (search rules)
    (gap_none g.S.Store c.put.new.store c.self.inside.high))

pub invariant_of-self-in-Err : goal.invariant_of-self-in-Err
invariant_of-self-in-Err g c =
    held_failed g.S.Store c.self.inside.store c.put.new.store c.self.inside.last _ _ c.put.ensures.quiet.clean c.put.ensures.keeps
    c.self.invariant.behind
