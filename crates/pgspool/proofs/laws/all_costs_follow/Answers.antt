use Rattle.pgspool.proofs.HeldMaps.{all_costs_change, all_costs_shrink, closed_stays_closed}
use Rattle.pgspool.proofs.laws.all_costs_follow.Goals as goal

pub returns : goal.returns
returns c = record { changed = all_costs_change; dropped = all_costs_shrink; closed = closed_stays_closed }
