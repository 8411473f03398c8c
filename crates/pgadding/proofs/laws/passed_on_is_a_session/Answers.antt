use Rattle.pgadding.proofs.Delivered as delivered
use Rattle.pgadding.proofs.Bytes as bytes
use Rattle.pgadding.proofs.laws.passed_on_is_a_session.Goals as goal

pub returns : goal.returns
returns c = record {
  history = delivered.is_history;
  delivered = delivered.passed_delivered;
  whole = delivered.passed_whole;
  bytes = bytes.passed_sessions;
}
