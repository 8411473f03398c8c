use Rattle.pgruns.proofs.closing.close.Goals as goal

pub returns-in-Ok-clause-closes : goal.returns-in-Ok-clause-closes
returns-in-Ok-clause-closes g c = (c.in-Ok.ensures.honest, c.in-Ok.ensures.left, c.in-Ok.ensures.copied)

pub returns-in-Err-clause-closes : goal.returns-in-Err-clause-closes
returns-in-Err-clause-closes g c clean = (c.in-Err.ensures.honest_unclosed clean, c.in-Err.ensures.unclosed clean)
