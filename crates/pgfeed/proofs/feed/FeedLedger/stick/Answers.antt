use Rattle.std.proofs.Common.{◌∙◌, ap, refl, sym, subst}
use Rattle.std.specs.Prelude.{IsTrue}
use Rattle.pgfeed.specs.declared.segment.Segment.{Segment}
use Rattle.pgfeed.proofs.Beside.{rest_keeps, rest_rests}
use Rattle.pgfeed.proofs.Following.{all_stays, goes_stays, true_false, writes_stopped}
use Rattle.pgfeed.proofs.feed.FeedLedger.stick.Goals as goal

pub returns-clause-kept : goal.returns-clause-kept
returns-clause-kept g c =
    rest_keeps g.F.File.Disk.seen g.F.File.Disk.may_leave g.F.File.Disk.is_clean g.F.Folder.is_true g.F.Folder.places
    g.F.Folder.has c.args.self.now (record c.args.self.now { segment = c.stop.new.self }) refl
    (all_stays g.F.File.Disk.seen g.F.File.Disk.may_leave g.F.File.Disk.is_clean g.F.Folder.is_true g.F.Folder.places g.F.Folder.has
    c.args.self.now _ (record {
      on = record {
        folder_is = refl;
        ended_is = refl;
        begins_is = refl;
        writes = writes_stopped g.F.File.Disk.seen g.F.File.Disk.may_leave c.args.self.now.segment c.stop.new.self c.stop.ensures;
        clean = subst (λ (s : Segment g.row.F-File.Denot). IsTrue (g.F.File.Disk.is_clean s.disk)
            → IsTrue (g.F.File.Disk.is_clean c.args.self.now.segment.disk)) (sym c.stop.ensures) (λ clean. clean);
      };
      size_is = ap (λ (s : Segment g.row.F-File.Denot). s.size) c.stop.ensures;
      last_is = ap (λ (s : Segment g.row.F-File.Denot). s.last) c.stop.ensures;
      told_is = ap (λ (s : Segment g.row.F-File.Denot). s.told.items) c.stop.ensures;
      less = λ text may. subst (λ (s : Segment g.row.F-File.Denot). g.F.File.Disk.may_leave s.disk text) c.stop.ensures may;
      stuck = λ free. absurd (true_false (sym (ap (λ (s : Segment g.row.F-File.Denot). s.is_stuck) c.stop.ensures) ∙ free));
    }))

pub returns-clause-rests : goal.returns-clause-rests
returns-clause-rests g c =
    let goes = goes_stays g.F.File.Disk.seen g.F.File.Disk.may_leave g.F.File.Disk.is_clean g.F.Folder.is_true g.F.Folder.places
    g.F.Folder.has c.args.self.now (record c.args.self.now { segment = c.stop.new.self }) (record {
      on = record {
        folder_is = refl;
        ended_is = refl;
        begins_is = refl;
        writes = writes_stopped g.F.File.Disk.seen g.F.File.Disk.may_leave c.args.self.now.segment c.stop.new.self c.stop.ensures;
        clean = subst (λ (s : Segment g.row.F-File.Denot). IsTrue (g.F.File.Disk.is_clean s.disk)
            → IsTrue (g.F.File.Disk.is_clean c.args.self.now.segment.disk)) (sym c.stop.ensures) (λ clean. clean);
      };
      size_is = ap (λ (s : Segment g.row.F-File.Denot). s.size) c.stop.ensures;
      last_is = ap (λ (s : Segment g.row.F-File.Denot). s.last) c.stop.ensures;
      told_is = ap (λ (s : Segment g.row.F-File.Denot). s.told.items) c.stop.ensures;
      less = λ text may. subst (λ (s : Segment g.row.F-File.Denot). g.F.File.Disk.may_leave s.disk text) c.stop.ensures may;
      stuck = λ free. absurd (true_false (sym (ap (λ (s : Segment g.row.F-File.Denot). s.is_stuck) c.stop.ensures) ∙ free));
    }) in
    rest_rests g.F.File.Disk.seen g.F.File.Disk.may_leave g.F.File.Disk.is_clean g.F.Folder.is_true g.F.Folder.places
    g.F.Folder.has c.args.self.now (record c.args.self.now { segment = c.stop.new.self }) refl refl goes
