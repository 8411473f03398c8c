use Rattle.std.proofs.Common.{sym, ◌∙◌, arith}
use Rattle.pgrows.proofs.SetUp.{index_shape}
use Rattle.pgrows.proofs.Walked.{no_entry, an_entry}
use Rattle.pgrows.proofs.walk.seek_next.Goals as goal

pub seek-requires-clause-table : goal.seek-requires-clause-table
seek-requires-clause-table g c clean is =
    let store = c.args.store.now in
    let good = c.requires clean in
    absurd (let e = sym (index_shape good (g.met.S.Alter.listed store good.unbroken) (g.met.S.Store.ordered store good.unbroken)) ∙ is in
    cc)

pub seek-requires-clause-frozen : goal.seek-requires-clause-frozen
seek-requires-clause-frozen g c clean is =
    let store = c.args.store.now in
    let good = c.requires clean in
    absurd (let e = sym (index_shape good (g.met.S.Alter.listed store good.unbroken) (g.met.S.Store.ordered store good.unbroken)) ∙ is in
    cc)

pub returns-then-not-branch-clause-found : goal.returns-then-not-branch-clause-found
returns-then-not-branch-clause-found g c clean =
    let store = c.args.store.now in
    let good = c.requires (omega (arith, c.seek.ensures.quiet.clean, c.next.ensures.quiet.clean)) in
    no_entry good (g.met.S.Alter.listed store good.unbroken) (g.met.S.Store.ordered store good.unbroken) c.args.oid c.args.from.now
    c.write_key.new.key c.in_ok-write_key.ensures
    (c.in_ok-seek.ensures.ok (omega (arith, c.next.ensures.quiet.clean))) c.next.new.row (g.S.Store.view c.next.new.self)
    (rw c.if-not-branch.true at (c.in_ok-next.ensures.ok clean))

pub returns-clause-found : goal.returns-clause-found
returns-clause-found g c clean =
    let store = c.args.store.now in
    let good = c.requires (omega (arith, c.seek.ensures.quiet.clean, c.next.ensures.quiet.clean)) in
    an_entry good (g.met.S.Alter.listed store good.unbroken) (g.met.S.Store.ordered store good.unbroken) c.args.oid c.args.from.now
    c.write_key.new.key c.in_ok-write_key.ensures
    (c.in_ok-seek.ensures.ok (omega (arith, c.next.ensures.quiet.clean))) c.next.new.row (g.S.Store.view c.next.new.self)
    (rw c.if-not-branch.false at (c.in_ok-next.ensures.ok clean)) c.is_within.result c.is_within.ensures.yes c.is_within.ensures.no
