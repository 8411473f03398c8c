use Rattle.std.proofs.Common.{ap}
use Rattle.pgcompared.specs.declared.noting.Noting.{Noting}
use Rattle.pgcompared.proofs.Paths.{path_reach}
use Rattle.pgcompared.proofs.compared.Compared.reach.Goals as goal

pub returns : goal.returns
returns c v limit max past before told i =
    let was = c.args.self.now in
    path_reach v limit max past before c.args.reached was told i
    (record was { hearing = record was.hearing { noting = c.reach.new.self } })
    (ap (λ (n : Noting). record was { hearing = record was.hearing { noting = n } }) c.reach.ensures)
