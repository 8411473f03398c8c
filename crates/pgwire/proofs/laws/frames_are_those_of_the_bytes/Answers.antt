use Rattle.pgwire.proofs.Runs.{frames_of_the_bytes}
use Rattle.pgwire.proofs.laws.frames_are_those_of_the_bytes.Goals as goal

pub returns : goal.returns
returns c = frames_of_the_bytes
