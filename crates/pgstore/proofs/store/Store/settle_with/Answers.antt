use Rattle.std.proofs.Common.{sym, subst}
use Rattle.sqlite.specs.State.{Survives}
use Rattle.pgrows.specs.Rows.{state}
use Rattle.pgapply.specs.Value.{Tables}
use Rattle.pgencoded.specs.Acts.{committed_of}
use Rattle.pgencoded.specs.Spelled.{IsStored}
use Rattle.pgstore.specs.Sources.{rows_in}
use Rattle.pgledger.specs.Ledgers.{Syncs}
use Rattle.pgledger.proofs.Calls.{rests_then, syncs_then}
use Rattle.pgstore.specs.StoreValue.{LeavesGroup, LeavesSynced, Plans, StoreValue}
use Rattle.pgstore.proofs.Groups.{settled_empty, settled_store, settles_held, some_staged}
use Rattle.pgstore.proofs.Groups.{survives_group, survives_synced, unsettled_left, unstaged_empty}
use Rattle.pgstore.proofs.Stores.{stays_store}
use Rattle.pgstore.proofs.store.Store.settle_with.Goals as goal

pub invariant_of-self-in-Err : goal.invariant_of-self-in-Err
invariant_of-self-in-Err g c =
    let old = rows_in c.self.inside.source in
    let new = rows_in c.settle_told.new.source in
    let position = c.self.inside.position in
    let group = c.self.inside.group in
    let more = some_staged g.S.Store old position group c.is_empty.result c.self.invariant.2 c.is_empty.ensures c.if-is_empty.false in
    let stands = sym c.in_default.ensures.lost in (
      c.settle_told.ensures.source,
      stays_store g.S.Store old new position c.settle_told.ensures.crash.clean c.in-Err.ensures.commit c.self.invariant.1
          (unsettled_left g.S.Store old new position group more stands c.reach-reach.result c.reach-reach.ensures c.self.invariant.2
          c.settle_told.ensures.crash) g.met.S.Store.settled,
      unstaged_empty g.S.Store new position c.self.invariant.1.range c.unstage-in-Err.new.self group c.unstage-in-Err.ensures,
    )

pub returns-in-Err-clause-crash : goal.returns-in-Err-clause-crash
returns-in-Err-clause-crash g c =
    let old = rows_in c.self.inside.source in
    let new = rows_in c.settle_told.new.source in
    let position = c.self.inside.position in
    let group = c.self.inside.group in
    let more = some_staged g.S.Store old position group c.is_empty.result c.self.invariant.2 c.is_empty.ensures c.if-is_empty.false in
    let stands = sym c.in_default.ensures.lost in
    subst (λ (s : StoreValue g.row.S.Denot). Survives (state g.S.Store s.rows) (state g.S.Store new) (LeavesGroup g.S.Store s))
    c.self.view_is
    (survives_group g.S.Store old new position group more stands c.reach-reach.result c.reach-reach.ensures c.self.invariant.2.range
    c.settle_told.ensures.crash)

pub invariant_of-self-2 : goal.invariant_of-self-2
invariant_of-self-2 g c =
    let old = rows_in c.self.inside.source in
    let new = rows_in c.settle_told.new.source in
    let position = c.self.inside.position in
    let group = c.self.inside.group in
    let more = some_staged g.S.Store old position group c.is_empty.result c.self.invariant.2 c.is_empty.ensures c.if-is_empty.false in
    let stands = sym c.in_default.ensures.lost in (
      c.settle_told.ensures.source,
      settled_store g.S.Store old new position group more stands c.reach-reach.result c.reach-reach.ensures
          c.settle_told.ensures.crash.clean c.self.invariant.2 c.in_default-settle_told.ensures.settled g.met.S.Store.settled,
      settled_empty g.S.Store old new position group more stands c.reach-reach.result c.reach-reach.ensures c.self.invariant.2
          c.settle.new.self c.settle.ensures,
    )

pub returns-clause-settled : goal.returns-clause-settled
returns-clause-settled g c clean =
    let old = rows_in c.self.inside.source in
    let new = rows_in c.settle_told.new.source in
    let position = c.self.inside.position in
    let group = c.self.inside.group in
    let more = some_staged g.S.Store old position group c.is_empty.result c.self.invariant.2 c.is_empty.ensures c.if-is_empty.false in
    let stands = sym c.in_default.ensures.lost in
    subst (λ (s : StoreValue g.row.S.Denot). (t : Tables) → Plans g.S.Store s t → IsStored t (committed_of g.S.Store new)) c.self.view_is
    (settles_held g.S.Store old new position group more stands c.reach-reach.result c.reach-reach.ensures
    (c.in_default-settle_told.ensures.settled clean))

pub returns-clause-crash : goal.returns-clause-crash
returns-clause-crash g c =
    let old = rows_in c.self.inside.source in
    let new = rows_in c.settle_told.new.source in
    let position = c.self.inside.position in
    let group = c.self.inside.group in
    let more = some_staged g.S.Store old position group c.is_empty.result c.self.invariant.2 c.is_empty.ensures c.if-is_empty.false in
    let stands = sym c.in_default.ensures.lost in
    subst (λ (s : StoreValue g.row.S.Denot). Survives (state g.S.Store s.rows) (state g.S.Store new) (LeavesGroup g.S.Store s))
    c.self.view_is
    (survives_group g.S.Store old new position group more stands c.reach-reach.result c.reach-reach.ensures c.self.invariant.2.range
    c.settle_told.ensures.crash)

pub returns-in-Err-clause-commits_synced : goal.returns-in-Err-clause-commits_synced
returns-in-Err-clause-commits_synced g c =
    let l = g.L.Ledger in
    let old = rows_in c.self.inside.source in
    let new = rows_in c.settle_told.new.source in
    let position = c.self.inside.position in
    let group = c.self.inside.group in
    let before = c.args.ledger.now in
    let after = c.stick-in-Err.new.self in
    let more = some_staged g.S.Store old position group c.is_empty.result c.self.invariant.2 c.is_empty.ensures c.if-is_empty.false in
    let stands = sym c.in_default.ensures.lost in
    subst (λ (s : StoreValue g.row.S.Denot).
    Survives (state g.S.Store s.rows) (state g.S.Store new)
    (LeavesSynced g.S.Store (l.is_stuck before) (Syncs l.keeps l.begins l.outlasts before after) s)) c.self.view_is
    (survives_synced g.S.Store old new position group more stands c.reach-reach.result c.reach-reach.ensures (l.is_stuck before)
    (Syncs l.keeps l.begins l.outlasts before c.settle_told.new.ledger) (Syncs l.keeps l.begins l.outlasts before after)
    (λ syncs. syncs_then l.begins l.is_wanting l.is_hearing l.outlasts l.reopens l.keeps before c.settle_told.new.ledger after syncs
    c.stick-in-Err.ensures.rests) c.self.invariant.2.range c.settle_told.ensures.crash_synced)

pub returns-clause-commits_synced : goal.returns-clause-commits_synced
returns-clause-commits_synced g c =
    let l = g.L.Ledger in
    let old = rows_in c.self.inside.source in
    let new = rows_in c.settle_told.new.source in
    let position = c.self.inside.position in
    let group = c.self.inside.group in
    let before = c.args.ledger.now in
    let after = c.settle_told.new.ledger in
    let more = some_staged g.S.Store old position group c.is_empty.result c.self.invariant.2 c.is_empty.ensures c.if-is_empty.false in
    let stands = sym c.in_default.ensures.lost in
    subst (λ (s : StoreValue g.row.S.Denot).
    Survives (state g.S.Store s.rows) (state g.S.Store new)
    (LeavesSynced g.S.Store (l.is_stuck before) (Syncs l.keeps l.begins l.outlasts before after) s)) c.self.view_is
    (survives_synced g.S.Store old new position group more stands c.reach-reach.result c.reach-reach.ensures (l.is_stuck before)
    (Syncs l.keeps l.begins l.outlasts before after) (Syncs l.keeps l.begins l.outlasts before after) (λ syncs. syncs)
    c.self.invariant.2.range c.settle_told.ensures.crash_synced)

pub returns-in-Err-clause-rests : goal.returns-in-Err-clause-rests
returns-in-Err-clause-rests g c =
    let l = g.L.Ledger in
    rests_then l.begins l.is_wanting l.is_hearing l.outlasts l.reopens c.args.ledger.now c.settle_told.new.ledger c.stick-in-Err.new.self
    c.settle_told.ensures.rests c.stick-in-Err.ensures.rests

pub returns-in-Err-clause-kept : goal.returns-in-Err-clause-kept
returns-in-Err-clause-kept g c es kept = c.stick-in-Err.ensures.kept es (c.settle_told.ensures.kept es kept)
