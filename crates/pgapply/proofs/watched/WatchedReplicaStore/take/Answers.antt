use Rattle.std.proofs.Common.{◌⊎◌, OnOk, OnErr, None, subst}
use Rattle.std.specs.Prelude.{IfErr}
use Rattle.pgapply.specs.Taken.{Folds, LeavesFold, RefusesWork, Stays}
use Rattle.pgapply.specs.Tallies.{Counts}
use Rattle.pgapply.proofs.watched.WatchedReplicaStore.take.Goals as goal

pub returns-clause-taken : goal.returns-clause-taken
returns-clause-taken g c =
    let it = g.C.ReplicaStore in
    subst (λ s. it.serves c.take.new.self → OnOk c.take.result (Folds it.holds s c.take.new.self c.args.work.now.changes))
    c.in_ok-note.ensures.store c.take.ensures.taken

pub returns-clause-unchanged : goal.returns-clause-unchanged
returns-clause-unchanged g c =
    let it = g.C.ReplicaStore in
    subst (λ s. it.serves c.take.new.self → OnErr c.take.result (Stays it.holds s c.take.new.self)) c.in_ok-note.ensures.store
    c.take.ensures.unchanged

pub returns-clause-fault : goal.returns-clause-fault
returns-clause-fault g c =
    let it = g.C.ReplicaStore in
    subst (λ s. it.serves c.take.new.self → IfErr c.take.result (RefusesWork it.holds s c.args.work.now.changes)) c.in_ok-note.ensures.store
    c.take.ensures.fault

pub returns-clause-crash : goal.returns-clause-crash
returns-clause-crash g c honest other left =
    let it = g.C.ReplicaStore in
    subst (λ s. it.reopens s other ⊎ (it.serves s × LeavesFold it.holds it.place s c.args.work.now.changes c.args.end other))
    c.in_ok-note.ensures.store
    (c.take.ensures.crash honest other left)

pub returns-clause-why : goal.returns-clause-why
returns-clause-why g c =
    let it = g.C.ReplicaStore in
    subst (λ s. it.is_honest c.take.new.self → it.serves s → IfErr c.take.result (RefusesWork it.holds s c.args.work.now.changes))
    c.in_ok-note.ensures.store c.take.ensures.why

pub returns-clause-counts : goal.returns-clause-counts
returns-clause-counts g c =
    let it = g.C.ReplicaStore in
    subst (λ s. it.serves c.take.new.self
    → OnOk c.take.result (Counts it.holds s c.args.end None c.args.work.now.changes (it.tally s) (it.tally c.take.new.self)))
    c.in_ok-note.ensures.store c.take.ensures.counts
