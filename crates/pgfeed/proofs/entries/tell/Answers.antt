use Rattle.pgfeed.proofs.Places.{now_told}
use Rattle.pgfeed.proofs.entries.tell.Goals as goal

pub returns-clause-stands : goal.returns-clause-stands
returns-clause-stands c =
    now_told c.args.told.now _ _ _ c.args.def.now c.args.at c.in_ok-push.ensures.items c.in_ok-of.ensures.definition
    c.in_ok-of.ensures.offset
