use Rattle.std.proofs.Common.{◌≡◌, ◌<◌, true, false, Ok, refl, arith}
use Rattle.std.specs.Prelude.{nat_lt}
use Rattle.std.proofs.lemmas.Bool.Decides.{nat_tests}
use Rattle.pgspool.specs.Labels.{items_of, held_of}
use Rattle.pgsub_core.specs.Machine.Faults.{fault_of_store}
use Rattle.pgsub_core.proofs.DescribedChanges.{on_residual, on_told}
use Rattle.pgsub_core.proofs.Stepping.{steps_none}
use Rattle.pgsub_core.proofs.Commits.{commits_again, commits_changes, refuses_work}
use Rattle.pgsub_core.proofs.Commits.{refuses_undescribed}
use Rattle.pgsub_core.proofs.committing.commit.Goals as goal

pub returns-then-le-clause-taken : goal.returns-then-le-clause-taken
returns-then-le-clause-taken g c loaded serves =
    let items = items_of (held_of (g.P.Spools.held c.args.spools.now) c.args.ending.xid) in
    let test = c.if-le.true in
    let below = c.le.ensures in
    let standing = c.reached.ensures.reach in
    let not_below : nat_lt (g.C.ReplicaStore.reach c.args.store.now) c.args.ending.end ≡ false = grind (arith, nat_tests) in
    commits_again g.C.ReplicaStore.stages g.C.ReplicaStore.reach c.args.ending.end items c.args.store.now c.args.store.now c.args.confirmed
    c.args.book.now c.cache_relations.new.book not_below (c.in_ok-cache_relations.ensures.cached loaded)

pub returns-in_err-work-clause-refused : goal.returns-in_err-work-clause-refused
returns-in_err-work-clause-refused g c loaded serves =
    let items = items_of (held_of (g.P.Spools.held c.args.spools.now) c.args.ending.xid) in
    let test = c.if-le.false in
    let below = c.le.ensures in
    let standing = c.reached.ensures.reach in
    let lt : nat_lt (g.C.ReplicaStore.reach c.args.store.now) c.args.ending.end ≡ true = grind (arith, nat_tests) in
    on_residual c.from_residual-in_err-work.result c.in_err-work.field-0.0 _ c.from_residual-in_err-work.ensures.1
    (refuses_undescribed g.C.ReplicaStore.stages g.C.ReplicaStore.reach c.args.ending.end items c.args.store.now c.args.store.now
    c.args.confirmed c.args.book.now c.args.book.now lt c.in_err-work.field-0.0 (c.in_err-work.ensures.refused loaded))

pub returns-clause-taken : goal.returns-clause-taken
returns-clause-taken g c loaded serves =
    let items = items_of (held_of (g.P.Spools.held c.args.spools.now) c.args.ending.xid) in
    let test = c.if-le.false in
    let below = c.le.ensures in
    let standing = c.reached.ensures.reach in
    let lt : nat_lt (g.C.ReplicaStore.reach c.args.store.now) c.args.ending.end ≡ true = grind (arith, nat_tests) in
    commits_changes g.C.ReplicaStore.stages g.C.ReplicaStore.reach c.args.ending.end items c.args.store.now c.stage.new.self
    c.args.confirmed c.args.book.now c.describe.new.book lt c.later.result c.in_ok-work.work.changes
    (c.in_ok-work.ensures.changes loaded) (c.in_ok-work.ensures.cached loaded) (c.in_ok-stage.ensures.staged serves)
    c.in_ok-stage.ensures.end c.later.ensures

pub returns-in_err-stage-clause-refused : goal.returns-in_err-stage-clause-refused
returns-in_err-stage-clause-refused g c loaded serves =
    let items = items_of (held_of (g.P.Spools.held c.args.spools.now) c.args.ending.xid) in
    let test = c.if-le.false in
    let below = c.le.ensures in
    let standing = c.reached.ensures.reach in
    let lt : nat_lt (g.C.ReplicaStore.reach c.args.store.now) c.args.ending.end ≡ true = grind (arith, nat_tests) in
    let less : g.C.ReplicaStore.reach c.args.store.now < c.args.ending.end = grind (arith, nat_tests) in
    on_told c.from_residual-in_err-stage.result (fault_of_store c.in_err-stage.field-0.0) _ _ c.from_residual-in_err-stage.ensures.1
    (refuses_work g.C.ReplicaStore.stages g.C.ReplicaStore.reach c.args.ending.end items c.args.store.now c.stage.new.self c.args.confirmed
    c.args.book.now c.describe.new.book lt less c.in_ok-work.work.changes c.in_err-stage.field-0.0
    (c.in_ok-work.ensures.changes loaded) (c.in_err-stage.ensures.undone serves) (c.in_err-stage.ensures.fault serves))

pub returns-in_err-work-clause-why : goal.returns-in_err-work-clause-why
returns-in_err-work-clause-why g c loaded honest serves =
    let items = items_of (held_of (g.P.Spools.held c.args.spools.now) c.args.ending.xid) in
    let test = c.if-le.false in
    let below = c.le.ensures in
    let standing = c.reached.ensures.reach in
    let lt : nat_lt (g.C.ReplicaStore.reach c.args.store.now) c.args.ending.end ≡ true = grind (arith, nat_tests) in
    on_residual c.from_residual-in_err-work.result c.in_err-work.field-0.0 _ c.from_residual-in_err-work.ensures.1
    (refuses_undescribed g.C.ReplicaStore.stages g.C.ReplicaStore.reach c.args.ending.end items c.args.store.now c.args.store.now
    c.args.confirmed c.args.book.now c.args.book.now lt c.in_err-work.field-0.0 (c.in_err-work.ensures.refused loaded))

pub returns-in_err-stage-clause-why : goal.returns-in_err-stage-clause-why
returns-in_err-stage-clause-why g c loaded honest serves =
    let items = items_of (held_of (g.P.Spools.held c.args.spools.now) c.args.ending.xid) in
    let test = c.if-le.false in
    let below = c.le.ensures in
    let standing = c.reached.ensures.reach in
    let lt : nat_lt (g.C.ReplicaStore.reach c.args.store.now) c.args.ending.end ≡ true = grind (arith, nat_tests) in
    let less : g.C.ReplicaStore.reach c.args.store.now < c.args.ending.end = grind (arith, nat_tests) in
    on_told c.from_residual-in_err-stage.result (fault_of_store c.in_err-stage.field-0.0) _ _ c.from_residual-in_err-stage.ensures.1
    (refuses_work g.C.ReplicaStore.stages g.C.ReplicaStore.reach c.args.ending.end items c.args.store.now c.args.store.now c.args.confirmed
    c.args.book.now c.describe.new.book lt less c.in_ok-work.work.changes c.in_err-stage.field-0.0
    (c.in_ok-work.ensures.changes loaded) (λ tables h. h) (c.in_err-stage.ensures.why honest serves))

pub returns-then-le-clause-steps : goal.returns-then-le-clause-steps
returns-then-le-clause-steps g c =
    let it = g.C.ReplicaStore in
    steps_none it.holds it.place it.reopens it.serves it.is_honest it.reach it.tally it.stages_tally g.P.Spools.may_fail
    (Ok c.args.confirmed) c.args.store.now tt

pub returns-then-le-clause-counts : goal.returns-then-le-clause-counts
returns-then-le-clause-counts g c loaded serves tables h =
    let test = c.if-le.true in
    let below = c.le.ensures in
    let standing = c.reached.ensures.reach in
    let not_below : nat_lt (g.C.ReplicaStore.reach c.args.store.now) c.args.ending.end ≡ false = grind (arith, nat_tests) in
    rw not_below refl

pub returns-clause-counts : goal.returns-clause-counts
returns-clause-counts g c loaded serves tables h =
    let test = c.if-le.false in
    let below = c.le.ensures in
    let standing = c.reached.ensures.reach in
    let lt : nat_lt (g.C.ReplicaStore.reach c.args.store.now) c.args.ending.end ≡ true = grind (arith, nat_tests) in
    rw (lt, c.in_ok-work.ensures.changes loaded) (c.in_ok-stage.ensures.counts serves tables h)
