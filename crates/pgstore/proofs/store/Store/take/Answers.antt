use Rattle.std.proofs.Common.{◌≡◌, ◌<◌, ◌^◌, refl, arith, sym, subst, ap, ◌∙◌}
use Rattle.std.specs.Int.{w64, to_be_bytes}
use Rattle.sqlite.specs.State.{Survives}
use Rattle.pgrows.specs.Rows.{state}
use Rattle.pgapply.specs.Works.{change_values}
use Rattle.pgstore.specs.Sources.{rows_in}
use Rattle.pgstore.specs.StoreValue.{StoreValue, Takes, LeavesWork}
use Rattle.pgstore.proofs.Groups.{taken_empty, unstaged_empty}
use Rattle.pgstore.proofs.Stores.{refused_left, stays_store, taken_store, takes, survives_work}
use Rattle.pgstore.proofs.store.Store.take.Goals as goal

pub invariant_of-self : goal.invariant_of-self
invariant_of-self g c =
    let range : c.args.end < 2 ^ 64 = omega arith in
    let changes : change_values c.definitions.result.now c.entries.result ≡ c.args.work.now.changes =
    ap (λ ds. change_values ds c.entries.result) c.definitions.ensures.definitions ∙ c.entries.ensures.changes in
    let later : c.self.inside.position < c.args.end =
    subst (λ (s : StoreValue g.row.S.Denot). s.position < c.args.end) (sym c.self.view_is) c.requires in
    let old = rows_in c.self.inside.source in
    let new = rows_in c.take_all-taken.new.source in (
      c.take_all-taken.ensures.source,
      stays_store g.S.Store old new c.self.inside.position c.take_all-taken.ensures.crash.clean c.in-Err.ensures.commit c.self.invariant.1
          (refused_left g.S.Store old new c.self.inside.position c.definitions.result.now c.entries.result c.args.end
          (to_be_bytes w64 c.args.end) refl range c.args.work.now.changes changes later c.take_all-taken.ensures.crash)
          g.met.S.Store.settled,
      unstaged_empty g.S.Store new c.self.inside.position c.self.invariant.1.range c.unstage.new.self c.self.inside.group c.unstage.ensures,
    )

pub invariant_of-self-2 : goal.invariant_of-self-2
invariant_of-self-2 g c =
    let range : c.args.end < 2 ^ 64 = omega arith in
    let new = rows_in c.take_all-taken.new.source in (
      c.take_all-taken.ensures.source,
      taken_store g.S.Store (rows_in c.self.inside.source) new c.self.inside.position c.take_all-taken.ensures.crash.clean
          c.definitions.result.now c.entries.result c.args.end (to_be_bytes w64 c.args.end) refl range c.in_default.ensures.taken
          c.self.invariant.1 g.met.S.Store.settled,
      taken_empty g.S.Store new c.args.end range c.take.new.self _ c.take.ensures,
    )

pub returns-clause-taken : goal.returns-clause-taken
returns-clause-taken g c clean =
    let range : c.args.end < 2 ^ 64 = omega arith in
    let changes : change_values c.definitions.result.now c.entries.result ≡ c.args.work.now.changes =
    ap (λ ds. change_values ds c.entries.result) c.definitions.ensures.definitions ∙ c.entries.ensures.changes in
    subst (λ (s : StoreValue g.row.S.Denot).
    Takes g.S.Store s (record { rows = rows_in c.take_all-taken.new.source; position = c.args.end; group = c.take.new.self })
    c.args.work.now.changes c.args.end) c.self.view_is
    (takes g.S.Store (rows_in c.self.inside.source) (rows_in c.take_all-taken.new.source) c.self.inside.position
    c.take_all-taken.ensures.crash.clean c.definitions.result.now c.entries.result c.args.end (to_be_bytes w64 c.args.end) refl
    range c.in_default.ensures.taken c.self.inside.group c.take.new.self c.args.work.now.changes changes clean)

pub returns-in-Err-clause-crash : goal.returns-in-Err-clause-crash
returns-in-Err-clause-crash g c =
    let range : c.args.end < 2 ^ 64 = omega arith in
    let changes : change_values c.definitions.result.now c.entries.result ≡ c.args.work.now.changes =
    ap (λ ds. change_values ds c.entries.result) c.definitions.ensures.definitions ∙ c.entries.ensures.changes in
    subst (λ (s : StoreValue g.row.S.Denot).
    Survives (state g.S.Store s.rows) (state g.S.Store (rows_in c.take_all-taken.new.source))
    (LeavesWork g.S.Store s c.args.work.now.changes c.args.end)) c.self.view_is
    (survives_work g.S.Store (rows_in c.self.inside.source) (rows_in c.take_all-taken.new.source) c.self.inside.position
    c.definitions.result.now c.entries.result c.args.end (to_be_bytes w64 c.args.end) refl range c.args.work.now.changes changes
    c.self.inside.group c.take_all-taken.ensures.crash)

pub returns-clause-crash : goal.returns-clause-crash
returns-clause-crash g c =
    let range : c.args.end < 2 ^ 64 = omega arith in
    let changes : change_values c.definitions.result.now c.entries.result ≡ c.args.work.now.changes =
    ap (λ ds. change_values ds c.entries.result) c.definitions.ensures.definitions ∙ c.entries.ensures.changes in
    subst (λ (s : StoreValue g.row.S.Denot).
    Survives (state g.S.Store s.rows) (state g.S.Store (rows_in c.take_all-taken.new.source))
    (LeavesWork g.S.Store s c.args.work.now.changes c.args.end)) c.self.view_is
    (survives_work g.S.Store (rows_in c.self.inside.source) (rows_in c.take_all-taken.new.source) c.self.inside.position
    c.definitions.result.now c.entries.result c.args.end (to_be_bytes w64 c.args.end) refl range c.args.work.now.changes changes
    c.self.inside.group c.take_all-taken.ensures.crash)

pub take_all-taken-requires-clause-stored : goal.take_all-taken-requires-clause-stored
take_all-taken-requires-clause-stored g c clean still = c.self.invariant.1.stored clean still
