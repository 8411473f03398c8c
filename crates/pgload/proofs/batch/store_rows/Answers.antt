use Rattle.std.proofs.Common.{◌≡◌, subst}
use Rattle.pgapply.specs.Taken.{Folds}
use Rattle.pgload.specs.Loads.{inserts}
use Rattle.pgload.proofs.Batches.{first_defined, work_has}
use Rattle.pgload.proofs.batch.store_rows.Goals as goal

pub returns-clause-stored : goal.returns-clause-stored
returns-clause-stored g c serves cells are =
    let defined = first_defined c.new-work.result.definitions c.define.new.self.definitions c.in_ok-number.number c.in-Ok.definition
    c.args.definition.now c.new-work.ensures.definitions c.in_ok-number.ensures.ok.number_is c.in_ok-number.ensures.ok.definitions
    c.in-Ok.ensures.same in
    let has : c.insert_rows.new.work.changes ≡ inserts c.args.definition.now cells =
    work_has c.new-work.result.changes c.define.new.self.changes c.insert_rows.new.work.changes c.args.definition.now cells
    c.new-work.ensures.changes c.in_ok-number.ensures.ok.changes
    (c.in_ok-insert_rows.ensures.changes cells are c.args.definition.now defined) in
    subst (λ changes. Folds g.C.ReplicaStore.holds c.args.store.now c.take.new.self changes) has (c.in_ok-take.ensures.taken serves)
