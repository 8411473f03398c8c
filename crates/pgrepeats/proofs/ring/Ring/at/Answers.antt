use Rattle.std.proofs.Common.{subst, sym}
use Rattle.pgrepeats.specs.Rings.{Entries, IsAt}
use Rattle.pgrepeats.proofs.Rings.{read_at}
use Rattle.pgrepeats.proofs.ring.Ring.at.Goals as goal

pub returns-in-Some : goal.returns-in-Some
returns-in-Some c end at =
    rw (← c.self.view_is)
    (read_at c.self.inside.entries.items c.self.invariant c.args.place c.in-Some.field-0.now c.in-Some.ensures.lookup end
    (subst (λ (es : Entries). IsAt es end c.args.place) (sym c.self.view_is) at))
