use Rattle.std.proofs.Common.{ap, sym, subst}
use Rattle.pgledger.specs.Records.{RecordsSince}
use Rattle.pgledger.proofs.Recording.{begun, fresh}
use Rattle.pgledger.proofs.recorded.Recorded.new.Goals as goal

pub returns-clause-begun : goal.returns-clause-begun
returns-clause-begun g c kept here lasting tables h =
    let l = g.L.Ledger in
    begun l.begins l.keeps l.outlasts l.is_stuck l.is_wanting l.is_hearing l.reopens c.args.ledger tables _ _ kept here lasting

pub returns-clause-since : goal.returns-clause-since
returns-clause-since g c none tables k =
    let l = g.L.Ledger in
    let s = g.S.ReplicaStore in
    let here = s.place c.args.store in
    subst (λ f. RecordsSince l.begins l.keeps l.outlasts l.is_stuck c.args.ledger f (s.tally c.args.store).commits tables here
    (s.reach c.args.store)) (sym c.position-from.ensures.position)
    (subst (λ cs. RecordsSince l.begins l.keeps l.outlasts l.is_stuck c.args.ledger here cs tables here (s.reach c.args.store))
    (sym (ap (λ t. t.commits) none))
    (fresh l.begins l.keeps l.outlasts l.is_stuck l.is_wanting l.is_hearing l.reopens c.args.ledger tables here (s.reach c.args.store) k))
