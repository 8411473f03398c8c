use Rattle.pgcopy.proofs.Runs.{rows_of_the_bytes, end_of_the_bytes}
use Rattle.pgcopy.proofs.laws.rows_are_those_of_the_bytes.Goals as goal

pub returns : goal.returns
returns c = record { rows = rows_of_the_bytes; end = end_of_the_bytes }
