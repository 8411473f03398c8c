use Rattle.std.proofs.Common.{OnOk, OnErr, subst}
use Rattle.std.specs.Prelude.{IfErr}
use Rattle.pgapply.specs.Taken.{Folds, RefusesWork, Stays}
use Rattle.pgapply.specs.Tallies.{Counts}
use Rattle.pgapply.proofs.watched.WatchedReplicaStore.stage.Goals as goal

pub returns-clause-staged : goal.returns-clause-staged
returns-clause-staged g c =
    let it = g.C.ReplicaStore in
    subst (λ s. it.serves c.stage.new.self → OnOk c.stage.result (Folds it.stages s c.stage.new.self c.args.commit.now.work.now.changes))
    c.in_ok-note.ensures.store c.stage.ensures.staged

pub returns-clause-undone : goal.returns-clause-undone
returns-clause-undone g c =
    let it = g.C.ReplicaStore in
    subst (λ s. it.serves c.stage.new.self → OnErr c.stage.result (Stays it.stages s c.stage.new.self)) c.in_ok-note.ensures.store
    c.stage.ensures.undone

pub returns-clause-fault : goal.returns-clause-fault
returns-clause-fault g c =
    let it = g.C.ReplicaStore in
    subst (λ s. it.serves c.stage.new.self → IfErr c.stage.result (RefusesWork it.stages s c.args.commit.now.work.now.changes))
    c.in_ok-note.ensures.store c.stage.ensures.fault

pub returns-clause-unchanged : goal.returns-clause-unchanged
returns-clause-unchanged g c =
    let it = g.C.ReplicaStore in
    subst (λ s. it.serves c.stage.new.self → Stays it.holds s c.stage.new.self) c.in_ok-note.ensures.store c.stage.ensures.unchanged

pub returns-clause-crash : goal.returns-clause-crash
returns-clause-crash g c honest other left =
    let it = g.C.ReplicaStore in
    subst (λ s. it.reopens s other) c.in_ok-note.ensures.store (c.stage.ensures.crash honest other left)

pub returns-clause-why : goal.returns-clause-why
returns-clause-why g c =
    let it = g.C.ReplicaStore in
    subst (λ s. it.is_honest c.stage.new.self → it.serves s
    → IfErr c.stage.result (RefusesWork it.stages s c.args.commit.now.work.now.changes)) c.in_ok-note.ensures.store c.stage.ensures.why

pub returns-clause-counts : goal.returns-clause-counts
returns-clause-counts g c =
    let it = g.C.ReplicaStore in
    let commit = c.args.commit.now in
    subst (λ s. it.serves c.stage.new.self
    → OnOk c.stage.result (Counts it.stages s commit.end commit.about commit.work.now.changes (it.stages_tally s)
    (it.stages_tally c.stage.new.self))) c.in_ok-note.ensures.store c.stage.ensures.counts
