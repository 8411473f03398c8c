use Rattle.pgembed.proofs.embedded.InMemory.make_call.Goals as goal

pub returns : goal.returns
returns c = c.make_call.ensures
