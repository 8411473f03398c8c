use Rattle.sqlite.specs.Files.{over_files}
use Rattle.pgstore.proofs.Reopened as reopened
use Rattle.pgstore.proofs.laws.left_is_reopened.Goals as goal

pub returns : goal.returns
returns g c = record {
  adopted = reopened.adopted_holds g.S.Store;
  reopened = reopened.left_is_reopened g.D.Disk g.S.Store;
  same = reopened.reopens_same over_files g.S.Store;
  not_older = reopened.reopens_no_older over_files g.S.Store;
  closed = reopened.closed_is_reopened g.D.Disk g.S.Store;
}
