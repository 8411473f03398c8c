use Rattle.pgrel.proofs.Shapes.{shapes_decide, shape_gives_identity}
use Rattle.pgrel.proofs.laws.shapes_are_compared_whole.Goals as goal

pub returns : goal.returns
returns c = record { equal = shapes_decide; identity = shape_gives_identity }
