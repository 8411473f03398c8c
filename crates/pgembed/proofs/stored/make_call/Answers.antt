use Rattle.pgembed.proofs.stored.make_call.Goals as goal

pub returns : goal.returns
returns g c = c.make_call.ensures
