use Rattle.pgrecovery.proofs.Recovered as recovered
use Rattle.pgrecovery.proofs.laws.crashes_lose_nothing_confirmed.Goals as goal

pub returns : goal.returns
returns g c = record {
  followed = recovered.followed g.D.Disk;
  live = recovered.left_safely g.D.Disk;
  served = recovered.served g.D.Disk g.S.Store;
}
