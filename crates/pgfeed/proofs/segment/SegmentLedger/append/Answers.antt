use Rattle.std.proofs.Common.{[], inl, refl, arith}
use Rattle.pgledger.specs.Entries.{Entry, entry_of}
use Rattle.pgfeed.proofs.Calls.{appended, lasts_more, reopens_less, untold}
use Rattle.pgfeed.proofs.segment.SegmentLedger.append.Goals as goal

pub returns-in-Ok-clause-appended : goal.returns-in-Ok-clause-appended
returns-in-Ok-clause-appended g c = λ es kept.
    let done = c.in-Ok.ensures in
    let e : Entry = entry_of c.args.commit.now.end c.args.commit.now.about [] c.args.commit.now.work.now.changes c.args.images.now in
    appended _ _ _ _ _ _ _ _ _ _ (g.D.Disk.may_leave c.args.self.now.disk) (g.D.Disk.may_leave c.write.new.self.disk) e done.base
    done.last done.size done.told done.above done.fits done.text done.behind es kept

pub returns-in-Ok-clause-rests : goal.returns-in-Ok-clause-rests
returns-in-Ok-clause-rests g c =
    let done = c.in-Ok.ensures in
    record {
      begins_is = done.base;
      wanting_is = refl;
      hearing_is = refl;
      outlasts_more = λ p h. lasts_more _ _ _ _ _ _ _ _ _ done.base (omega (arith, done.size)) done.behind h;
      reopens_less = λ p other h. reopens_less _ _ _ _ _ _ _ _ _ _ _ _ _ _ _ done.base (omega (arith, done.size)) done.behind h;
    }

pub returns-in-Err-clause-refused : goal.returns-in-Err-clause-refused
returns-in-Err-clause-refused g c = λ es kept.
    let failed = c.in-Err.ensures in
    inl (untold _ _ _ _ _ _ _ _ _ _ (g.D.Disk.may_leave c.args.self.now.disk) (g.D.Disk.may_leave c.write.new.self.disk) failed.base
    failed.undone.0 failed.undone.1 failed.untold failed.behind es kept)

pub returns-in-Err-clause-rests : goal.returns-in-Err-clause-rests
returns-in-Err-clause-rests g c =
    let failed = c.in-Err.ensures in
    record {
      begins_is = failed.base;
      wanting_is = refl;
      hearing_is = refl;
      outlasts_more = λ p h. lasts_more _ _ _ _ _ _ _ _ _ failed.base (omega (arith, failed.undone.0)) failed.behind h;
      reopens_less = λ p other h. reopens_less _ _ _ _ _ _ _ _ _ _ _ _ _ _ _ failed.base (omega (arith, failed.undone.0)) failed.behind h;
    }
