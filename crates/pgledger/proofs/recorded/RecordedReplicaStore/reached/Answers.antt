use Rattle.std.proofs.Common.{ap}
use Rattle.pgledger.proofs.Recording.{held_plans}
use Rattle.pgledger.proofs.recorded.RecordedReplicaStore.reached.Goals as goal

pub returns-clause-begins : goal.returns-clause-begins
returns-clause-begins g c here tables h =
    let l = g.L.Ledger in
    let s = g.S.ReplicaStore in
    let old = c.args.self.now in (
      c.reached.ensures.begins here tables h.0,
      λ so. held_plans l.begins l.keeps l.outlasts l.is_stuck l.is_wanting l.is_hearing l.reopens
          old.ledger old.from (s.tally old.store).commits (s.stages_tally old.store).commits tables _ _ here
          (ap (λ t. t.commits) (c.reached.ensures.counted here)) (h.1 so),
    )
