use Rattle.pgverify.proofs.Given.{gave_all, gives, stays}
use Rattle.pgverify.proofs.rows.RowCursor.step.Goals as goal

pub returns-then-not-branch-clause-given : goal.returns-then-not-branch-clause-given
returns-then-not-branch-clause-given g c clean given =
    stays (g.S.Store.view c.args.store.now) (g.S.Store.view c.next.new.self) c.next.new.row c.args.self.now.row c.args.self.now.count given
    c.clear.new.self c.clear.ensures (rw c.if-not-branch.true at (c.in_ok-next.ensures.ok clean))

pub returns-then-not-branch-clause-ended : goal.returns-then-not-branch-clause-ended
returns-then-not-branch-clause-ended g c clean none given =
    gave_all (g.S.Store.view c.args.store.now) (g.S.Store.view c.next.new.self) c.next.new.row
    c.args.self.now.row c.args.self.now.count given
    (rw c.if-not-branch.true at (c.in_ok-next.ensures.ok clean))

pub returns-clause-given : goal.returns-clause-given
returns-clause-given g c clean given =
    gives (g.S.Store.view c.args.store.now) (g.S.Store.view c.next.new.self) c.next.new.row c.args.self.now.row c.args.self.now.count given
    (rw c.if-not-branch.false at (c.in_ok-next.ensures.ok clean))
