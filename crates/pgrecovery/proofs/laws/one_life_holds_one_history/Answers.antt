use Rattle.pgrecovery.proofs.Life.{one_life}
use Rattle.pgrecovery.proofs.laws.one_life_holds_one_history.Goals as goal

pub returns : goal.returns
returns g c = record { life = one_life g.D.Disk }
