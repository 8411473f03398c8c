use Rattle.pgadding.proofs.Copies as copies
use Rattle.pgadding.proofs.NewTables as fresh
use Rattle.pgadding.proofs.laws.copy_is_the_servers.Goals as goal

pub returns : goal.returns
returns c = record {
  start = copies.starts_safe;
  end = copies.ends_safe;
  copy = copies.copy_is_the_servers;
  fresh = fresh.new_table_is_the_servers;
}
