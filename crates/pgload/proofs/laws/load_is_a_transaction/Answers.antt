use Rattle.pgload.proofs.Loads as loads
use Rattle.pgload.proofs.laws.load_is_a_transaction.Goals as goal

pub returns : goal.returns
returns c = record {
  changes = loads.has_its_changes;
  history = loads.begins_history;
  rows = loads.gives_its_rows;
  start = loads.is_start;
}
