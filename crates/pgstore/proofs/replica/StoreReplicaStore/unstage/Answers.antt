use Rattle.pgstore.proofs.Replicas.{forgets_held, forgets_reopens, forgets_served, forgets_serves}
use Rattle.pgstore.proofs.Replicas.{forgets_staged}
use Rattle.pgstore.proofs.replica.StoreReplicaStore.unstage.Goals as goal

pub returns-clause-unchanged : goal.returns-clause-unchanged
returns-clause-unchanged g c = forgets_held g.S.Store c.args.self.now c.unstage.new.self c.unstage.ensures.rows

pub returns-clause-staged : goal.returns-clause-staged
returns-clause-staged g c =
    forgets_staged g.S.Store c.args.self.now c.unstage.new.self c.unstage.ensures.rows c.unstage.ensures.position c.unstage.ensures.group

pub returns-clause-serves : goal.returns-clause-serves
returns-clause-serves g c = forgets_serves g.S.Store c.args.self.now c.unstage.new.self c.unstage.ensures.rows

pub returns-clause-served : goal.returns-clause-served
returns-clause-served g c = forgets_served g.S.Store c.args.self.now c.unstage.new.self c.unstage.ensures.rows

pub returns-clause-crash : goal.returns-clause-crash
returns-clause-crash g c = forgets_reopens g.S.Store c.args.self.now c.unstage.new.self c.unstage.ensures.rows
