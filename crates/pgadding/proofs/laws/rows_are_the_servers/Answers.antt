use Rattle.pgadding.proofs.Kept as kept
use Rattle.pgadding.proofs.Later as later
use Rattle.pgadding.proofs.KeptLater as kept_later
use Rattle.pgadding.proofs.laws.rows_are_the_servers.Goals as goal

pub returns : goal.returns
returns c = record {
  others = kept.other_rows;
  all = kept.rows_kept;
  later = later.later_rows;
  kept = kept_later.kept_is_later;
}
