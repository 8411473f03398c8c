use Rattle.std.proofs.Common.{ap}
use Rattle.pgledger.proofs.Recording.{same_since}
use Rattle.pgledger.proofs.recorded.RecordedReplicaStore.position.Goals as goal

pub returns-clause-contains : goal.returns-clause-contains
returns-clause-contains g c serves other r =
    let l = g.L.Ledger in
    let left = c.position.ensures.contains serves other.store r.0 in (
      λ tables h. (
        left.0 tables h.0,
        λ so. same_since l.begins l.keeps l.outlasts l.is_stuck l.is_wanting l.is_hearing l.reopens
            g.met.L.Ledger.cuts c.args.self.now.ledger other.ledger _ _ tables _ _ _ _ other.from _ left.1 (r.3 so)
            (ap (λ t. t.commits) r.1) r.2 (h.1 so),
      ),
      left.1,
    )
