use Rattle.std.proofs.Common.{◌≡◌, ◌<◌, true, false, ap, sym, ◌∙◌, Ok, arith}
use Rattle.std.specs.Prelude.{nat_lt}
use Rattle.std.proofs.lemmas.Bool.Decides.{nat_tests}
use Rattle.pgspool.specs.Labels.{HeldMap, items_of, held_of}
use Rattle.pgsub_core.specs.Machine.Replica.{RelationCache}
use Rattle.pgsub_core.specs.Calls.Parting.{changes_in}
use Rattle.pgsub_core.proofs.DescribedChanges.{on_residual}
use Rattle.pgsub_core.proofs.Commits.{commits_again, commits_changes}
use Rattle.pgsub_core.proofs.StagedParts.{refuses_check, refuses_staging}
use Rattle.pgsub_core.proofs.committing_parts.take_parts.Goals as goal

pub returns-then-le-clause-taken : goal.returns-then-le-clause-taken
returns-then-le-clause-taken g c h serves =
    let items = items_of (held_of (g.P.Spools.held c.args.spools.now) c.args.ending.xid) in
    let test = c.if-le.true in
    let below = c.le.ensures in
    let standing = c.reached.ensures.reach in
    let not_below : nat_lt (g.C.ReplicaStore.reach c.args.store.now) c.args.ending.end ≡ false = grind (arith, nat_tests) in
    commits_again g.C.ReplicaStore.stages g.C.ReplicaStore.reach c.args.ending.end items c.args.store.now c.args.store.now c.args.confirmed
    c.args.book.now c.cache_parts.new.book not_below (c.in_ok-cache_parts.ensures.cached h)

pub returns-in_err-check_described-clause-refused : goal.returns-in_err-check_described-clause-refused
returns-in_err-check_described-clause-refused g c h serves =
    let items = items_of (held_of (g.P.Spools.held c.args.spools.now) c.args.ending.xid) in
    let test = c.if-le.false in
    let below = c.le.ensures in
    let standing = c.reached.ensures.reach in
    let lt : nat_lt (g.C.ReplicaStore.reach c.args.store.now) c.args.ending.end ≡ true = grind (arith, nat_tests) in
    let f = c.in_err-check_described.field-0.0 in
    on_residual c.from_residual-in_err-check_described.result f _ c.from_residual-in_err-check_described.ensures.1
    (refuses_check g.C.ReplicaStore.stages g.C.ReplicaStore.reach c.args.ending.end items c.args.store.now c.args.store.now
    c.args.confirmed c.args.book.now g.P.Spools.may_fail lt f (c.in_err-check_described.ensures.refused h))

pub returns-in_err-check_described-clause-why : goal.returns-in_err-check_described-clause-why
returns-in_err-check_described-clause-why g c h honest serves =
    let items = items_of (held_of (g.P.Spools.held c.args.spools.now) c.args.ending.xid) in
    let test = c.if-le.false in
    let below = c.le.ensures in
    let standing = c.reached.ensures.reach in
    let lt : nat_lt (g.C.ReplicaStore.reach c.args.store.now) c.args.ending.end ≡ true = grind (arith, nat_tests) in
    let f = c.in_err-check_described.field-0.0 in
    on_residual c.from_residual-in_err-check_described.result f _ c.from_residual-in_err-check_described.ensures.1
    (refuses_check g.C.ReplicaStore.stages g.C.ReplicaStore.reach c.args.ending.end items c.args.store.now c.args.store.now
    c.args.confirmed c.args.book.now g.P.Spools.may_fail lt f (c.in_err-check_described.ensures.refused h))

pub returns-in_err-stage_described-clause-refused : goal.returns-in_err-stage_described-clause-refused
returns-in_err-stage_described-clause-refused g c h serves =
    let held = g.P.Spools.held in
    let items = items_of (held_of (held c.args.spools.now) c.args.ending.xid) in
    let test = c.if-le.false in
    let below = c.le.ensures in
    let standing = c.reached.ensures.reach in
    let lt : nat_lt (g.C.ReplicaStore.reach c.args.store.now) c.args.ending.end ≡ true = grind (arith, nat_tests) in
    let less : g.C.ReplicaStore.reach c.args.store.now < c.args.ending.end = grind (arith, nat_tests) in
    let f = c.in_err-stage_described.field-0.0 in
    let e = c.in_err-stage_described.ensures in
    on_residual c.from_residual-in_err-stage_described.result f _ c.from_residual-in_err-stage_described.ensures.1
    (refuses_staging g.C.ReplicaStore.stages g.C.ReplicaStore.reach c.args.ending.end items c.args.store.now c.stage_described.new.store
    c.args.confirmed c.args.book.now g.P.Spools.may_fail lt less
    (changes_in c.in_ok-before.before (items_of (held_of (held c.check_described.new.spools) c.args.ending.xid))) f
    (c.in_ok-check_described.ensures.described (e.given_back h)
    ∙ ap (λ (b : RelationCache). Ok (changes_in b items)) (sym c.in_ok-before.ensures.same)
    ∙ ap (λ (m : HeldMap). Ok (changes_in c.in_ok-before.before (items_of (held_of m c.args.ending.xid))))
    (sym c.check_described.ensures.held))
    (e.undone serves) (e.fault h serves))

pub returns-in_err-stage_described-clause-why : goal.returns-in_err-stage_described-clause-why
returns-in_err-stage_described-clause-why g c h honest serves =
    let held = g.P.Spools.held in
    let items = items_of (held_of (held c.args.spools.now) c.args.ending.xid) in
    let test = c.if-le.false in
    let below = c.le.ensures in
    let standing = c.reached.ensures.reach in
    let lt : nat_lt (g.C.ReplicaStore.reach c.args.store.now) c.args.ending.end ≡ true = grind (arith, nat_tests) in
    let less : g.C.ReplicaStore.reach c.args.store.now < c.args.ending.end = grind (arith, nat_tests) in
    let f = c.in_err-stage_described.field-0.0 in
    let e = c.in_err-stage_described.ensures in
    on_residual c.from_residual-in_err-stage_described.result f _ c.from_residual-in_err-stage_described.ensures.1
    (refuses_staging g.C.ReplicaStore.stages g.C.ReplicaStore.reach c.args.ending.end items c.args.store.now c.args.store.now
    c.args.confirmed c.args.book.now g.P.Spools.may_fail lt less
    (changes_in c.in_ok-before.before (items_of (held_of (held c.check_described.new.spools) c.args.ending.xid))) f
    (c.in_ok-check_described.ensures.described (e.given_back h)
    ∙ ap (λ (b : RelationCache). Ok (changes_in b items)) (sym c.in_ok-before.ensures.same)
    ∙ ap (λ (m : HeldMap). Ok (changes_in c.in_ok-before.before (items_of (held_of m c.args.ending.xid))))
    (sym c.check_described.ensures.held))
    (λ tables staged. staged) (e.why h honest serves))

pub returns-clause-taken : goal.returns-clause-taken
returns-clause-taken g c h serves =
    let held = g.P.Spools.held in
    let items = items_of (held_of (held c.args.spools.now) c.args.ending.xid) in
    let test = c.if-le.false in
    let below = c.le.ensures in
    let standing = c.reached.ensures.reach in
    let lt : nat_lt (g.C.ReplicaStore.reach c.args.store.now) c.args.ending.end ≡ true = grind (arith, nat_tests) in
    let e = c.in_ok-stage_described.ensures in
    commits_changes g.C.ReplicaStore.stages g.C.ReplicaStore.reach c.args.ending.end items c.args.store.now c.stage_described.new.store
    c.args.confirmed c.args.book.now c.check_described.new.book lt c.later.result
    (changes_in c.in_ok-before.before (items_of (held_of (held c.check_described.new.spools) c.args.ending.xid)))
    (c.in_ok-check_described.ensures.described (e.given_back h)
    ∙ ap (λ (b : RelationCache). Ok (changes_in b items)) (sym c.in_ok-before.ensures.same)
    ∙ ap (λ (m : HeldMap). Ok (changes_in c.in_ok-before.before (items_of (held_of m c.args.ending.xid))))
    (sym c.check_described.ensures.held))
    (c.in_ok-check_described.ensures.cached (e.given_back h)) (e.staged h serves) e.end c.later.ensures
