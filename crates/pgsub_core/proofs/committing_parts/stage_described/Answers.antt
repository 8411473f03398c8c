use Rattle.std.proofs.Common.{rules}
use Rattle.std.specs.Prelude.{IsTrue}
use Rattle.pgapply.specs.Taken.{RefusesWork}
use Rattle.pgspool.specs.Labels.{items_of, held_of}
use Rattle.pgsub_core.specs.Calls.Parting.{changes_in}
use Rattle.pgsub_core.proofs.StagedParts.{told_stops}
use Rattle.pgsub_core.proofs.committing_parts.stage_described.Goals as goal

pub returns-clause-fault : goal.returns-clause-fault
returns-clause-fault g c h serves =
    let honest : IsTrue (g.P.Spools.is_honest c.stage_parts-staged.new.parts.spools) = search rules in
    told_stops g.P.Spools.may_fail (RefusesWork g.C.ReplicaStore.stages c.args.store.now
    (changes_in c.args.book.now (items_of (held_of (g.P.Spools.held c.args.spools.now) c.args.ending.xid)))) c.stage_parts-staged.result
    c.parts.inside.fault c.staging_told.result c.staging_told.ensures c.parts.invariant.1 (c.stage_parts-staged.ensures.fault serves honest)

pub returns-clause-why : goal.returns-clause-why
returns-clause-why g c h store_honest serves =
    let honest : IsTrue (g.P.Spools.is_honest c.stage_parts-staged.new.parts.spools) = search rules in
    told_stops g.P.Spools.may_fail (RefusesWork g.C.ReplicaStore.stages c.args.store.now
    (changes_in c.args.book.now (items_of (held_of (g.P.Spools.held c.args.spools.now) c.args.ending.xid)))) c.stage_parts-staged.result
    c.parts.inside.fault c.staging_told.result c.staging_told.ensures c.parts.invariant.1
    (c.stage_parts-staged.ensures.why store_honest serves honest)
