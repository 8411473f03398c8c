use Rattle.pgrecovery.proofs.LiveLife.{live_runs_are_runs}
use Rattle.pgrecovery.proofs.laws.live_runs_are_runs.Goals as goal

pub returns : goal.returns
returns g c = record {
  live = live_runs_are_runs g.D.Disk g.F.File.Disk.seen g.F.File.Disk.may_leave g.F.File.Disk.is_clean g.F.Folder.is_true
      g.F.Folder.places g.F.Folder.has g.F.Supposing.supposed _;
}
