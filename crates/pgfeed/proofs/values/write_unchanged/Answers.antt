use Rattle.pgfeed.proofs.Writing.{one_member}
use Rattle.pgfeed.proofs.values.write_unchanged.Goals as goal

pub returns : goal.returns
returns c =
    one_member _ _ _ _ _ _ _ _ c.in_ok-begin_object.ensures c.in_ok-key.ensures c.in_ok-boolean.ensures c.end_object.ensures
