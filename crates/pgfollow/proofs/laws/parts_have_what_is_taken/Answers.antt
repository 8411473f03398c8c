use Rattle.pgfollow.proofs.Within.{part_has_taken, taken_before_fault}
use Rattle.pgfollow.proofs.laws.parts_have_what_is_taken.Goals as goal

pub returns : goal.returns
returns c = record { part = part_has_taken; before = taken_before_fault }
