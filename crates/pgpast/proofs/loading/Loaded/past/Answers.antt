use Rattle.pgpast.proofs.Chains.{heard_more}
use Rattle.pgpast.proofs.loading.Loaded.past.Goals as goal

pub loop-record-preserved : goal.loop-record-preserved
loop-record-preserved c =
    let h = c.in_ok-hear.ensures in
    heard_more c.new-past.result c.loop-record.past c.hear.new.past c.args.self.now.chain.items c.deref-record-items.result.now
    c.loop-record.record-index _ h.0 c.deref-record-items.ensures.value c.loop-record-test.true c.loop-record.invariant h.1
