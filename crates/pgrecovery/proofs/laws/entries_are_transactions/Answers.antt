use Rattle.pgrecovery.proofs.Entries.{entries_are_transactions}
use Rattle.pgrecovery.proofs.laws.entries_are_transactions.Goals as goal

pub returns : goal.returns
returns g c = record {
  told = entries_are_transactions g.L.Ledger.begins g.L.Ledger.keeps g.L.Ledger.outlasts g.L.Ledger.is_stuck;
}
