use Rattle.std.proofs.Common.{subst}
use Rattle.pgspool.specs.Labels.{HeldMap, items_of, held_of}
use Rattle.pgsub_core.specs.Calls.Committing.{Commits, RefusesCommit}
use Rattle.pgsub_core.specs.Machine.Counted.{CountsCommit}
use Rattle.pgsub_core.proofs.DescribedChanges.{on_residual, on_ok, if_err}
use Rattle.pgsub_core.proofs.Beside.{commits_beside, refuses_beside, counts_beside, refuses_load}
use Rattle.pgsub_core.proofs.Beside.{refuses_here}
use Rattle.pgsub_core.proofs.StagedParts.{if_ok}
use Rattle.pgsub_core.proofs.applier.stage_commit.Goals as goal

pub returns-clause-taken : goal.returns-clause-taken
returns-clause-taken g c serves =
    let it = g.C.ReplicaStore in
    let beside = c.load.ensures.beside in
    if_ok c.commit.result _ _ (c.commit.ensures.taken (c.in_ok-load.ensures.loaded (c.commit.ensures.steps.served serves)) serves)
    (λ confirmed' commits. subst (λ (held : HeldMap).
    Commits it.stages it.reach c.args.ending.end (items_of (held_of held c.args.ending.xid)) c.args.store.now c.args.confirmed
    c.args.book.now c.commit.new.store confirmed' c.commit.new.book) c.load.ensures.held
    (commits_beside it.stages it.reach c.args.store.now c.load.new.store c.commit.new.store beside.staged beside.reach_is
    c.args.ending.end (items_of (held_of (g.P.Spools.held c.load.new.spools)
    c.args.ending.xid)) c.args.confirmed c.args.book.now confirmed' c.commit.new.book commits))

pub returns-clause-counts : goal.returns-clause-counts
returns-clause-counts g c serves =
    let it = g.C.ReplicaStore in
    let beside = c.load.ensures.beside in
    on_ok c.commit.result _ _ (c.commit.ensures.counts (c.in_ok-load.ensures.loaded (c.commit.ensures.steps.served serves)) serves)
    (λ counts. subst (λ (held : HeldMap).
    CountsCommit it.stages it.reach it.stages_tally c.args.ending.end c.args.ending.about (items_of (held_of held c.args.ending.xid))
    c.args.store.now c.args.confirmed c.args.book.now c.commit.new.store) c.load.ensures.held
    (counts_beside it.stages it.reach c.args.store.now c.load.new.store c.commit.new.store beside.staged beside.reach_is
    c.args.ending.end (items_of (held_of (g.P.Spools.held c.load.new.spools)
    c.args.ending.xid)) c.args.confirmed c.args.book.now c.args.ending.about it.stages_tally beside.stages_tally_is counts))

pub returns-in_err-load-clause-refused : goal.returns-in_err-load-clause-refused
returns-in_err-load-clause-refused g c serves =
    let it = g.C.ReplicaStore in
    let beside = c.load.ensures.beside in
    let f = c.in_err-load.field-0.0 in
    on_residual c.from_residual.result f _ c.from_residual.ensures.1
    (refuses_load it.stages it.reach c.args.store.now c.load.new.store c.load.new.store beside.staged beside.reach_is
    c.args.ending.end _ c.args.confirmed c.args.book.now g.P.Spools.may_fail f c.in_err-load.ensures.refused)

pub returns-in_err-load-clause-why : goal.returns-in_err-load-clause-why
returns-in_err-load-clause-why g c honest serves =
    let it = g.C.ReplicaStore in
    let beside = c.load.ensures.beside in
    let f = c.in_err-load.field-0.0 in
    on_residual c.from_residual.result f _ c.from_residual.ensures.1
    (refuses_here it.stages it.reach c.args.store.now c.load.new.store c.args.ending.end _ c.args.confirmed c.args.book.now f
    (refuses_load it.stages it.reach c.args.store.now c.load.new.store c.load.new.store beside.staged beside.reach_is
    c.args.ending.end _ c.args.confirmed c.args.book.now g.P.Spools.may_fail f c.in_err-load.ensures.refused))

pub returns-clause-refused : goal.returns-clause-refused
returns-clause-refused g c serves =
    let it = g.C.ReplicaStore in
    let beside = c.load.ensures.beside in
    if_err c.commit.result _ _ (c.commit.ensures.refused (c.in_ok-load.ensures.loaded (c.commit.ensures.steps.served serves)) serves)
    (λ f refuses. subst (λ (held : HeldMap).
    RefusesCommit it.stages it.reach c.args.ending.end (items_of (held_of held c.args.ending.xid)) c.args.store.now c.args.confirmed
    c.args.book.now c.commit.new.store f) c.load.ensures.held
    (refuses_beside it.stages it.reach c.args.store.now c.load.new.store c.commit.new.store beside.staged beside.reach_is
    c.args.ending.end (items_of (held_of (g.P.Spools.held c.load.new.spools)
    c.args.ending.xid)) c.args.confirmed c.args.book.now f refuses))

pub returns-clause-why : goal.returns-clause-why
returns-clause-why g c honest serves =
    let it = g.C.ReplicaStore in
    let beside = c.load.ensures.beside in
    let serves_on = beside.serves_on (c.commit.ensures.steps.honest honest) serves in
    if_err c.commit.result _ _ (c.commit.ensures.why (c.in_ok-load.ensures.loaded serves_on) honest serves_on)
    (λ f refuses. subst (λ (held : HeldMap).
    RefusesCommit it.stages it.reach c.args.ending.end (items_of (held_of held c.args.ending.xid)) c.args.store.now c.args.confirmed
    c.args.book.now c.args.store.now f) c.load.ensures.held
    (refuses_here it.stages it.reach c.args.store.now c.load.new.store c.args.ending.end (items_of (held_of
    (g.P.Spools.held c.load.new.spools) c.args.ending.xid)) c.args.confirmed c.args.book.now f
    (refuses_beside it.stages it.reach c.args.store.now c.load.new.store c.load.new.store beside.staged beside.reach_is
    c.args.ending.end (items_of (held_of (g.P.Spools.held c.load.new.spools)
    c.args.ending.xid)) c.args.confirmed c.args.book.now f refuses)))
