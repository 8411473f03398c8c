use Rattle.pgsub_cli.proofs.buffered.run_buffered.Goals as goal

pub returns-in-None-clause-ends : goal.returns-in-None-clause-ends
returns-in-None-clause-ends g c =
    let e = c.run_follow.ensures.ends in
    rw c.in-None.is (e.0, e.1, e.2, e.3, e.4, e.5, λ whole honest serves. e.6 honest serves)

pub returns-in-None-clause-honest : goal.returns-in-None-clause-honest
returns-in-None-clause-honest g c whole honest = c.run_follow.ensures.honest honest

pub returns-in-Some-clause-ends : goal.returns-in-Some-clause-ends
returns-in-Some-clause-ends g c = rw c.in-Some.is c.run_spooled-status.ensures.ends

pub returns-in-Some-clause-honest : goal.returns-in-Some-clause-honest
returns-in-Some-clause-honest g c = rw c.in-Some.is c.run_spooled-status.ensures.honest
