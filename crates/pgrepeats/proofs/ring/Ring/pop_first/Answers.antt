use Rattle.pgrepeats.proofs.Rings.{popped_least, popped_updates}
use Rattle.pgrepeats.proofs.ring.Ring.pop_first.Goals as goal

pub returns-clause-least : goal.returns-clause-least
returns-clause-least c =
    rw (← c.self.view_is)
    (popped_least c.pop_front.result c.self.inside.entries.items c.pop_front.new.self.items c.self.invariant c.pop_front.ensures.items)

pub returns-clause-updates : goal.returns-clause-updates
returns-clause-updates c =
    rw (← c.self.view_is)
    (popped_updates c.pop_front.result c.self.inside.entries.items c.pop_front.new.self.items c.self.invariant c.pop_front.ensures.items)
