use Rattle.pgtables.proofs.Dropped.{dropped_then}
use Rattle.pgtables.proofs.remains.drop_remains.Goals as goal

pub returns-clause-made : goal.returns-clause-made
returns-clause-made g c =
    dropped_then g.S.Store c.args.tx.now.conn.now c.execute_batch.new.self.conn.now c.execute_batch.result c.requires
    c.execute_batch.ensures.survives.clean c.execute_batch.ensures.kept c.execute_batch.ensures.inside c.execute_batch.ensures.ran
