use Rattle.pgfeed.proofs.hearing.Hearing.lose.Goals as goal

pub returns-clause-within : goal.returns-clause-within
returns-clause-within c = λ limit.
    let none = c.forget.ensures.within limit in
    record { counted = none.counted; within = none.within }
