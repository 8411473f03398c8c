use Rattle.pgmemory.proofs.Stopped.{stopped, store_clean}
use Rattle.pgmemory.proofs.stopping.stop.Goals as goal

pub returns : goal.returns
returns g c = record {
  left = stopped c.args.store _ c.close.result c.close.ensures c.requires.numbered c.requires.sound (λ _ left. left);
  clean = store_clean c.args.store c.close.result c.close.ensures;
}
