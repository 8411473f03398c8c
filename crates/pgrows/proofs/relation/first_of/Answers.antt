use Rattle.std.proofs.Common.{sym, ◌∙◌, arith}
use Rattle.pgrows.proofs.SetUp.{index_shape}
use Rattle.pgrows.proofs.First.{front_ended, front_met}
use Rattle.pgrows.proofs.relation.first_of.Goals as goal

pub seek-requires-clause-table : goal.seek-requires-clause-table
seek-requires-clause-table g c clean is =
    let store = c.args.store.now in
    let good = c.requires clean in
    absurd (let e = sym (index_shape good (g.met.S.Alter.listed store good.unbroken) (g.met.S.Store.ordered store good.unbroken)) ∙ is in
    cc)

pub seek-requires-clause-frozen : goal.seek-requires-clause-frozen
seek-requires-clause-frozen g c clean is =
    let store = c.args.store.now in
    let good = c.requires clean in
    absurd (let e = sym (index_shape good (g.met.S.Alter.listed store good.unbroken) (g.met.S.Store.ordered store good.unbroken)) ∙ is in
    cc)

pub returns-then-not-branch-clause-found : goal.returns-then-not-branch-clause-found
returns-then-not-branch-clause-found g c clean =
    let store = c.args.store.now in
    let good = c.requires (omega (arith, c.seek.ensures.quiet.clean, c.next.ensures.quiet.clean)) in
    front_ended good (g.met.S.Alter.listed store good.unbroken) (g.met.S.Store.ordered store good.unbroken) c.args.oid c.write_front.new.key
    c.in_ok-write_front.ensures
    (c.in_ok-seek.ensures.ok (omega (arith, c.next.ensures.quiet.clean))) c.next.new.row (g.S.Store.view c.next.new.self)
    (rw c.if-not-branch.true at (c.in_ok-next.ensures.ok clean))

pub returns-clause-found : goal.returns-clause-found
returns-clause-found g c clean =
    let store = c.args.store.now in
    let good = c.requires (omega (arith, c.seek.ensures.quiet.clean, c.next.ensures.quiet.clean)) in
    front_met good (g.met.S.Alter.listed store good.unbroken) (g.met.S.Store.ordered store good.unbroken) c.args.oid c.write_front.new.key
    c.in_ok-write_front.ensures
    (c.in_ok-seek.ensures.ok (omega (arith, c.next.ensures.quiet.clean))) c.next.new.row (g.S.Store.view c.next.new.self)
    (rw c.if-not-branch.false at (c.in_ok-next.ensures.ok clean)) c.id_within.result c.id_within.ensures
