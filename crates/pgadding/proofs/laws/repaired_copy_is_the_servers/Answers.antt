use Rattle.pgadding.proofs.MendedTables as mended
use Rattle.pgadding.proofs.RepairHistories as histories
use Rattle.pgadding.proofs.RepairDelivered as delivered
use Rattle.pgadding.proofs.Given as given
use Rattle.pgadding.proofs.laws.repaired_copy_is_the_servers.Goals as goal

pub returns : goal.returns
returns c = record {
  makes = mended.repair_makes;
  history = histories.with_repair_history;
  delivered = delivered.repaired_delivered;
  bytes = delivered.repaired_sessions;
  rows = delivered.repaired_rows;
  mended = delivered.mended_rows;
  unrepaired = delivered.unrepaired;
  copy = delivered.repaired_copy;
  given = given.any_tables;
  any = given.any_copy;
}
