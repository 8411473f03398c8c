use Rattle.pgrecovery.proofs.ToldLife.{one_told_life}
use Rattle.pgrecovery.proofs.laws.one_fed_life_tells_one_history.Goals as goal

pub returns : goal.returns
returns g c = record {
  life = one_told_life g.D.Disk g.F.File.Disk.seen g.F.File.Disk.may_leave g.F.File.Disk.is_clean g.F.Folder.is_true g.F.Folder.places
      g.F.Folder.has g.F.Supposing.supposed g.met.F.File.Disk.seen_may_stay;
}
