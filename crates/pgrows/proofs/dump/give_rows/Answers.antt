use Rattle.std.proofs.Common.{◌≡◌, ◌++◌, Some, sym, ap, subst, ◌∙◌, arith, rules, to_z-of_z, SFits}
use Rattle.std.proofs.Common.{w64}
use Rattle.sqlite_trees.specs.Tree.{Trees}
use Rattle.sqlite_trees.specs.View.{View, IsClean}
use Rattle.sqlite_rules.specs.Lists.{Has}
use Rattle.sqlite_rules.proofs.ViewLemmas.{still_quiet}
use Rattle.pgrows.proofs.SetUp.{index_shape}
use Rattle.pgrows.specs.Dump.{Defines, shown_by}
use Rattle.pgtables.specs.Kept.{tables_in}
use Rattle.pgtables.specs.DumpOrder.{dump_of}
use Rattle.pgrows.proofs.Given.{IsGiving, begins, front, ended, entry_in, reads_next, shown_in}
use Rattle.pgrows.proofs.Given.{given_one}
use Rattle.pgrows.proofs.dump.give_rows.Goals as goal

pub seek-requires-clause-table : goal.seek-requires-clause-table
seek-requires-clause-table g c clean is =
    let store = c.args.store.now in
    let good = c.requires clean in
    absurd (let e = sym (index_shape good (g.met.S.Alter.listed store good.unbroken) (g.met.S.Store.ordered store good.unbroken)) ∙ is in
    cc)

pub seek-requires-clause-frozen : goal.seek-requires-clause-frozen
seek-requires-clause-frozen g c clean is =
    let store = c.args.store.now in
    let good = c.requires clean in
    absurd (let e = sym (index_shape good (g.met.S.Alter.listed store good.unbroken) (g.met.S.Store.ordered store good.unbroken)) ∙ is in
    cc)

pub loop-init : goal.loop-init
loop-init g c = (
  (λ clean.
      let good = c.requires (omega (arith, c.seek.ensures.quiet.clean)) in
      begins good (g.met.S.Alter.listed c.args.store.now good.unbroken) (g.met.S.Store.ordered c.args.store.now good.unbroken)
      (λ start. g.T.RowSink.has_taken start c.args.sink.now) (g.S.Store.view c.seek.new.self) c.clear.new.self c.args.definition.now
      c.clear.ensures (c.in_ok-seek.ensures.ok clean)),
  c.in_ok-seek.ensures.live,
  c.seek.ensures.quiet,
)

pub returns-in_err-next-clause-front : goal.returns-in_err-next-clause-front
returns-in_err-next-clause-front g c clean start =
    let at : IsClean (g.S.Store.view c.loop.store) = omega (arith, c.next.ensures.quiet.clean) in
    let was : IsClean (g.S.Store.view c.args.store.now) = omega (arith, c.loop.invariant.2.clean, c.next.ensures.quiet.clean) in
    let good = c.requires was in
    front good (g.met.S.Alter.listed c.args.store.now good.unbroken) (g.met.S.Store.ordered c.args.store.now good.unbroken)
    (λ start. g.T.RowSink.has_taken start c.args.sink.now) (g.S.Store.view c.loop.store)
    (λ start. g.T.RowSink.has_taken start c.loop.sink) c.loop.definition c.loop.known (c.loop.invariant.0 at) start

pub returns-then-not-branch-clause-front : goal.returns-then-not-branch-clause-front
returns-then-not-branch-clause-front g c clean start =
    let at : IsClean (g.S.Store.view c.loop.store) = omega (arith, c.next.ensures.quiet.clean) in
    let was : IsClean (g.S.Store.view c.args.store.now) = omega (arith, c.loop.invariant.2.clean, c.next.ensures.quiet.clean) in
    let good = c.requires was in
    front good (g.met.S.Alter.listed c.args.store.now good.unbroken) (g.met.S.Store.ordered c.args.store.now good.unbroken)
    (λ start. g.T.RowSink.has_taken start c.args.sink.now) (g.S.Store.view c.loop.store)
    (λ start. g.T.RowSink.has_taken start c.loop.sink) c.loop.definition c.loop.known (c.loop.invariant.0 at) start

pub returns-then-not-branch-clause-all : goal.returns-then-not-branch-clause-all
returns-then-not-branch-clause-all g c clean _ start =
    let at : IsClean (g.S.Store.view c.loop.store) = omega (arith, c.next.ensures.quiet.clean) in
    let was : IsClean (g.S.Store.view c.args.store.now) = omega (arith, c.loop.invariant.2.clean, c.next.ensures.quiet.clean) in
    let good = c.requires was in
    ended good (g.met.S.Alter.listed c.args.store.now good.unbroken) (g.met.S.Store.ordered c.args.store.now good.unbroken)
    (λ start. g.T.RowSink.has_taken start c.args.sink.now) (g.S.Store.view c.loop.store)
    (λ start. g.T.RowSink.has_taken start c.loop.sink) c.loop.definition c.loop.known (c.loop.invariant.0 at)
    (g.S.Store.view c.next.new.self) c.next.new.row (rw c.if-not-branch.true at (c.in_ok-next.ensures.ok clean)) start

pub show-requires-clause-entry : goal.show-requires-clause-entry
show-requires-clause-entry g c clean =
    let at : IsClean (g.S.Store.view c.loop.store) = omega (arith, c.next.ensures.quiet.clean) in
    let was : IsClean (g.S.Store.view c.args.store.now) = omega (arith, c.loop.invariant.2.clean, c.next.ensures.quiet.clean) in
    let good = c.requires was in
    let step = rw c.if-not-branch.false at (c.in_ok-next.ensures.ok clean) in
    let there = entry_in good (g.met.S.Alter.listed c.args.store.now good.unbroken) (g.met.S.Store.ordered c.args.store.now good.unbroken)
    (λ start. g.T.RowSink.has_taken start c.args.sink.now) (g.S.Store.view c.loop.store)
    (λ start. g.T.RowSink.has_taken start c.loop.sink) c.loop.definition c.loop.known (c.loop.invariant.0 at)
    (g.S.Store.view c.next.new.self) c.next.new.row step in
    let read = reads_next good (g.met.S.Alter.listed c.args.store.now good.unbroken) (g.met.S.Store.ordered c.args.store.now good.unbroken)
    (λ start. g.T.RowSink.has_taken start c.args.sink.now) (g.S.Store.view c.loop.store)
    (λ start. g.T.RowSink.has_taken start c.loop.sink) c.loop.definition c.loop.known (c.loop.invariant.0 at)
    (g.S.Store.view c.next.new.self) c.next.new.row step in
    subst (λ (db : Trees). Has (db 2) c.next.new.row) (sym (ap (λ (v : View). v.trees) read)) there

pub returns-in_err-oid-clause-front : goal.returns-in_err-oid-clause-front
returns-in_err-oid-clause-front g c clean start =
    let at : IsClean (g.S.Store.view c.loop.store) = omega (arith, c.next.ensures.quiet.clean, c.show.ensures.quiet.clean) in
    let was : IsClean (g.S.Store.view c.args.store.now) =
    omega (arith, c.loop.invariant.2.clean, c.next.ensures.quiet.clean, c.show.ensures.quiet.clean) in
    let good = c.requires was in
    front good (g.met.S.Alter.listed c.args.store.now good.unbroken) (g.met.S.Store.ordered c.args.store.now good.unbroken)
    (λ start. g.T.RowSink.has_taken start c.args.sink.now) (g.S.Store.view c.loop.store)
    (λ start. g.T.RowSink.has_taken start c.loop.sink) c.loop.definition c.loop.known (c.loop.invariant.0 at) start

pub returns-then-not-take-clause-front : goal.returns-then-not-take-clause-front
returns-then-not-take-clause-front g c clean start =
    let at : IsClean (g.S.Store.view c.loop.store) = omega (arith, c.next.ensures.quiet.clean, c.show.ensures.quiet.clean) in
    let was : IsClean (g.S.Store.view c.args.store.now) =
    omega (arith, c.loop.invariant.2.clean, c.next.ensures.quiet.clean, c.show.ensures.quiet.clean) in
    let good = c.requires was in
    let f = front good (g.met.S.Alter.listed c.args.store.now good.unbroken) (g.met.S.Store.ordered c.args.store.now good.unbroken)
    (λ start. g.T.RowSink.has_taken start c.args.sink.now) (g.S.Store.view c.loop.store)
    (λ start. g.T.RowSink.has_taken start c.loop.sink) c.loop.definition c.loop.known (c.loop.invariant.0 at) start in
    (f.0, f.1, f.2, λ before h. c.take.ensures.stays c.if-not-take.true start (before ++ f.0) (f.3 before h))

pub returns-then-not-take-clause-left : goal.returns-then-not-take-clause-left
returns-then-not-take-clause-left g c clean _ =
    let at : IsClean (g.S.Store.view c.loop.store) = omega (arith, c.next.ensures.quiet.clean, c.show.ensures.quiet.clean) in
    let mid : IsClean (g.S.Store.view c.next.new.self) = omega (arith, c.show.ensures.quiet.clean) in
    let was : IsClean (g.S.Store.view c.args.store.now) =
    omega (arith, c.loop.invariant.2.clean, c.next.ensures.quiet.clean, c.show.ensures.quiet.clean) in
    let good = c.requires was in
    let listed = g.met.S.Alter.listed c.args.store.now good.unbroken in
    let ordered = g.met.S.Store.ordered c.args.store.now good.unbroken in
    let step = rw c.if-not-branch.false at (c.in_ok-next.ensures.ok mid) in
    let giving = c.loop.invariant.0 at in
    let read = reads_next good listed ordered (λ start. g.T.RowSink.has_taken start c.args.sink.now) (g.S.Store.view c.loop.store)
    (λ start. g.T.RowSink.has_taken start c.loop.sink) c.loop.definition c.loop.known giving (g.S.Store.view c.next.new.self)
    c.next.new.row step in
    let trees : (g.S.Store.view c.next.new.self).trees ≡ (g.S.Store.view c.args.store.now).trees = ap (λ (v : View). v.trees) read in
    let shown = subst (λ (db : Trees). c.show.new.shown ≡ shown_by db c.next.new.row) trees (c.in_ok-oid.ensures.shown clean) in
    let there = shown_in good listed ordered (λ start. g.T.RowSink.has_taken start c.args.sink.now) (g.S.Store.view c.loop.store)
    (λ start. g.T.RowSink.has_taken start c.loop.sink) c.loop.definition c.loop.known giving (g.S.Store.view c.next.new.self)
    c.next.new.row step in (
      c.show.new.shown,
      subst (Has (dump_of (tables_in (g.S.Store.view c.args.store.now).trees))) (sym shown) there,
      c.take.ensures.left c.if-not-take.true,
    )

pub loop-preserved : goal.loop-preserved
loop-preserved g c = (
  (λ clean.
      let at : IsClean (g.S.Store.view c.loop.store) = omega (arith, c.next.ensures.quiet.clean, c.show.ensures.quiet.clean) in
      let mid : IsClean (g.S.Store.view c.next.new.self) = omega (arith, c.show.ensures.quiet.clean) in
      let was : IsClean (g.S.Store.view c.args.store.now) =
      omega (arith, c.loop.invariant.2.clean, c.next.ensures.quiet.clean, c.show.ensures.quiet.clean) in
      let good = c.requires was in
      let step = rw c.if-not-branch.false at (c.in_ok-next.ensures.ok mid) in
      let read = reads_next good (g.met.S.Alter.listed c.args.store.now good.unbroken)
      (g.met.S.Store.ordered c.args.store.now good.unbroken) (λ start. g.T.RowSink.has_taken start c.args.sink.now)
      (g.S.Store.view c.loop.store) (λ start. g.T.RowSink.has_taken start c.loop.sink) c.loop.definition c.loop.known
      (c.loop.invariant.0 at) (g.S.Store.view c.next.new.self) c.next.new.row step in
      let same = c.in_ok-oid.ensures.same clean in
      let trees : (g.S.Store.view c.next.new.self).trees ≡ (g.S.Store.view c.args.store.now).trees = ap (λ (v : View). v.trees) read in
      let shown = subst (λ (db : Trees). c.show.new.shown ≡ shown_by db c.next.new.row) trees (c.in_ok-oid.ensures.shown clean) in
      let fits : SFits w64 c.in_ok-oid.oid = search rules in
      let defines = subst (λ (db : Trees). Defines db c.show.new.definition c.in_ok-oid.oid) trees (c.in_ok-oid.ensures.defines clean) in
      let more = c.take.ensures.took c.if-not-take.false in
      let one = given_one good (g.met.S.Alter.listed c.args.store.now good.unbroken) (g.met.S.Store.ordered c.args.store.now good.unbroken)
      (λ start. g.T.RowSink.has_taken start c.args.sink.now) (g.S.Store.view c.loop.store)
      (λ start. g.T.RowSink.has_taken start c.loop.sink) c.loop.definition c.loop.known (c.loop.invariant.0 at)
      (g.S.Store.view c.next.new.self) c.next.new.row step (λ start. g.T.RowSink.has_taken start c.take.new.self) c.show.new.shown
      c.show.new.definition c.in_ok-oid.oid shown defines more in
      simp to_z-of_z (subst (λ v.
      IsGiving (g.S.Store.view c.args.store.now) v (λ start. g.T.RowSink.has_taken start c.args.sink.now)
      (λ start. g.T.RowSink.has_taken start c.take.new.self) c.show.new.definition (Some c.in_ok-oid.oid)) (sym same) one)),
  c.in_ok-oid.ensures.stay 0 (c.in_ok-next.ensures.stay 0 c.loop.invariant.1),
  still_quiet c.loop.invariant.2 (still_quiet c.next.ensures.quiet c.show.ensures.quiet),
)

pub returns-clause-front : goal.returns-clause-front
returns-clause-front g c at start =
    let was : IsClean (g.S.Store.view c.args.store.now) = omega (arith, c.loop.invariant.2.clean) in
    let good = c.requires was in
    front good (g.met.S.Alter.listed c.args.store.now good.unbroken) (g.met.S.Store.ordered c.args.store.now good.unbroken)
    (λ start. g.T.RowSink.has_taken start c.args.sink.now) (g.S.Store.view c.loop.store)
    (λ start. g.T.RowSink.has_taken start c.loop.sink) c.loop.definition c.loop.known (c.loop.invariant.0 at) start
