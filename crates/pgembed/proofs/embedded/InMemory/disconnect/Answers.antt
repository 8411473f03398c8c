use Rattle.pgembed.proofs.embedded.InMemory.disconnect.Goals as goal

pub returns : goal.returns
returns c = (c.make_call.ensures.0, c.make_call.ensures.1)
