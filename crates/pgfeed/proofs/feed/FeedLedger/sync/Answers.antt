use Rattle.std.proofs.Common.{◌∙◌, refl, sym}
use Rattle.pgfeed.proofs.Beside.{rest_keeps, rest_rests, rest_syncs}
use Rattle.pgfeed.proofs.Following.{all_lasts, all_stays, goes_stays, true_false, writes_nothing}
use Rattle.pgfeed.proofs.feed.FeedLedger.sync.Goals as goal

pub returns-in_err-flush-clause-rests : goal.returns-in_err-flush-clause-rests
returns-in_err-flush-clause-rests g c =
    let done = c.in_err-flush.ensures in
    let goes = goes_stays g.F.File.Disk.seen g.F.File.Disk.may_leave g.F.File.Disk.is_clean g.F.Folder.is_true g.F.Folder.places
    g.F.Folder.has c.args.self.now (record c.args.self.now { segment = c.flush.new.self }) (record {
      on = record {
        folder_is = refl;
        ended_is = refl;
        begins_is = refl;
        writes = writes_nothing g.F.File.Disk.seen g.F.File.Disk.may_leave c.args.self.now.segment c.flush.new.self done.base done.last
            done.size done.seen done.crash;
        clean = done.clean;
      };
      size_is = done.size;
      last_is = done.last;
      told_is = done.told;
      less = done.crash;
      stuck = λ free. absurd (true_false (sym done.stuck ∙ free));
    }) in
    rest_rests g.F.File.Disk.seen g.F.File.Disk.may_leave g.F.File.Disk.is_clean g.F.Folder.is_true g.F.Folder.places
    g.F.Folder.has c.args.self.now (record c.args.self.now { segment = c.flush.new.self }) refl refl goes

pub returns-clause-synced : goal.returns-clause-synced
returns-clause-synced g c =
    let done = c.in_ok-flush.ensures in
    rest_syncs g.F.File.Disk.seen g.F.File.Disk.may_leave g.F.File.Disk.is_clean g.F.Folder.is_true g.F.Folder.places
    g.F.Folder.has c.args.self.now (record c.args.self.now { segment = c.flush.new.self; synced = c.last-self.result }) refl
    (λ es kept. all_lasts g.F.File.Disk.seen g.F.File.Disk.may_leave g.F.File.Disk.is_clean
    g.F.Folder.is_true g.F.Folder.places g.F.Folder.has
    c.args.self.now
    (record c.args.self.now { segment = c.flush.new.self; synced = c.last-self.result }) es done.base done.last done.size done.durable kept)

pub returns-clause-rests : goal.returns-clause-rests
returns-clause-rests g c =
    let done = c.in_ok-flush.ensures in
    let goes = goes_stays g.F.File.Disk.seen g.F.File.Disk.may_leave g.F.File.Disk.is_clean g.F.Folder.is_true g.F.Folder.places
    g.F.Folder.has c.args.self.now (record c.args.self.now { segment = c.flush.new.self; synced = c.last-self.result }) (record {
      on = record {
        folder_is = refl;
        ended_is = refl;
        begins_is = refl;
        writes = writes_nothing g.F.File.Disk.seen g.F.File.Disk.may_leave c.args.self.now.segment c.flush.new.self done.base done.last
            done.size done.seen done.crash;
        clean = done.clean;
      };
      size_is = done.size;
      last_is = done.last;
      told_is = done.told;
      less = done.crash;
      stuck = λ _. done.was_free;
    }) in
    rest_rests g.F.File.Disk.seen g.F.File.Disk.may_leave g.F.File.Disk.is_clean g.F.Folder.is_true g.F.Folder.places
    g.F.Folder.has c.args.self.now (record c.args.self.now { segment = c.flush.new.self; synced = c.last-self.result }) refl refl goes

pub returns-in_err-flush-clause-kept : goal.returns-in_err-flush-clause-kept
returns-in_err-flush-clause-kept g c =
    let done = c.in_err-flush.ensures in
    rest_keeps g.F.File.Disk.seen g.F.File.Disk.may_leave g.F.File.Disk.is_clean g.F.Folder.is_true g.F.Folder.places
    g.F.Folder.has c.args.self.now (record c.args.self.now { segment = c.flush.new.self }) refl
    (all_stays g.F.File.Disk.seen g.F.File.Disk.may_leave g.F.File.Disk.is_clean g.F.Folder.is_true g.F.Folder.places g.F.Folder.has
    c.args.self.now _ (record {
      on = record {
        folder_is = refl;
        ended_is = refl;
        begins_is = refl;
        writes = writes_nothing g.F.File.Disk.seen g.F.File.Disk.may_leave c.args.self.now.segment c.flush.new.self done.base done.last
            done.size done.seen done.crash;
        clean = done.clean;
      };
      size_is = done.size;
      last_is = done.last;
      told_is = done.told;
      less = done.crash;
      stuck = λ free. absurd (true_false (sym done.stuck ∙ free));
    }))

pub returns-clause-kept : goal.returns-clause-kept
returns-clause-kept g c =
    let done = c.in_ok-flush.ensures in
    rest_keeps g.F.File.Disk.seen g.F.File.Disk.may_leave g.F.File.Disk.is_clean g.F.Folder.is_true g.F.Folder.places
    g.F.Folder.has c.args.self.now (record c.args.self.now { segment = c.flush.new.self; synced = c.last-self.result }) refl
    (all_stays g.F.File.Disk.seen g.F.File.Disk.may_leave g.F.File.Disk.is_clean g.F.Folder.is_true g.F.Folder.places g.F.Folder.has
    c.args.self.now _ (record {
      on = record {
        folder_is = refl;
        ended_is = refl;
        begins_is = refl;
        writes = writes_nothing g.F.File.Disk.seen g.F.File.Disk.may_leave c.args.self.now.segment c.flush.new.self done.base done.last
            done.size done.seen done.crash;
        clean = done.clean;
      };
      size_is = done.size;
      last_is = done.last;
      told_is = done.told;
      less = done.crash;
      stuck = λ _. done.was_free;
    }))
