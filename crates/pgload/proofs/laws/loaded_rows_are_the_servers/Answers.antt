use Rattle.pgload.proofs.Loads as loads
use Rattle.pgload.proofs.laws.loaded_rows_are_the_servers.Goals as goal

pub returns : goal.returns
returns c = record { rows = loads.rows_are_the_servers; sessions = loads.sessions_are_of_the_load }
