use Rattle.std.proofs.Common.{refl, arith}
use Rattle.std.proofs.lemmas.Result.{on_ok_weaker}
use Rattle.pgfeed.proofs.Calls.{lasts_more, lasts_there, reopens_less, synced_lasts, writes_same}
use Rattle.pgfeed.proofs.segment.SegmentLedger.sync.Goals as goal

pub returns-clause-synced : goal.returns-clause-synced
returns-clause-synced g c =
    let done = c.flush.ensures in
    on_ok_weaker c.flush.result
    (λ only es kept. lasts_there _ _ _ _ _ _ done.base done.size
    (synced_lasts _ _ _ _ _ (g.D.Disk.may_leave c.flush.new.self.disk) es kept only)) done.durable

pub returns-clause-rests : goal.returns-clause-rests
returns-clause-rests g c =
    let done = c.flush.ensures in
    let writes = writes_same c.args.self.now.size (g.D.Disk.seen c.args.self.now.disk) (g.D.Disk.seen c.flush.new.self.disk)
    (g.D.Disk.may_leave c.args.self.now.disk) (g.D.Disk.may_leave c.flush.new.self.disk) done.seen done.crash in
    record {
      begins_is = done.base;
      wanting_is = refl;
      hearing_is = refl;
      outlasts_more = λ p h. lasts_more _ _ _ _ _ _ _ _ _ done.base (omega (arith, done.size)) writes h;
      reopens_less = λ p other h. reopens_less _ _ _ _ _ _ _ _ _ _ _ _ _ _ _ done.base (omega (arith, done.size)) writes h;
    }
