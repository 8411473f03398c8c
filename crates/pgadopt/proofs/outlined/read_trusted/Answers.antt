use Rattle.pgadopt.proofs.outlined.read_trusted.Goals as goal

pub returns-clause-found : goal.returns-clause-found
returns-clause-found g c clean = (c.in-Some.outline.definitions, rw c.in-Some.is at (c.in_ok-outline.ensures.found clean))
