use Rattle.pgembed.proofs.embedded.InMemory.rows.Goals as goal

pub returns : goal.returns
returns c =
    let told = c.make_call.ensures in
    record { shown = told.shown; stays = told.stays; same = told.same; serves = told.still_serves }
