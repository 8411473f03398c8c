use Rattle.pgcompared.proofs.Courses.{ended_are_commits}
use Rattle.pgcompared.proofs.laws.ended_are_commits.Goals as goal

pub returns : goal.returns
returns c = ended_are_commits
