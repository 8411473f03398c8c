use Rattle.pgrel.proofs.Keys.{keyed_means, full_never_keyed, key_count, bag_identity}
use Rattle.pgrel.proofs.Keys.{identity_bound}
use Rattle.pgrel.proofs.laws.keyed_tables_have_key_columns.Goals as goal

pub returns : goal.returns
returns c = record { keyed = keyed_means; full = full_never_keyed; key = key_count; bag = bag_identity; width = identity_bound }
