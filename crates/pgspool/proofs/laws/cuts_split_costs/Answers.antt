use Rattle.pgspool.proofs.Cuts.{costs_never_grow, costs_add_up}
use Rattle.pgspool.proofs.laws.cuts_split_costs.Goals as goal

pub returns : goal.returns
returns c = record { never_grow = costs_never_grow; add_up = costs_add_up }
