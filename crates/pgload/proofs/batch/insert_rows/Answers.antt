use Rattle.std.proofs.Common.{◌≡◌, ◌∙◌, Some, subst, sym}
use Rattle.std.specs.Prelude.{slice_get}
use Rattle.pgload.proofs.Batches.{IsAddedTo, one_added, all_added, is_smaller, left_of}
use Rattle.pgload.proofs.Batches.{some_spelled}
use Rattle.pgload.proofs.batch.insert_rows.Goals as goal

pub loop-row-smaller : goal.loop-row-smaller
loop-row-smaller c = is_smaller c.loop-row.rest.now c.in-Ok.row c.in-Ok.len c.in-Ok.ensures.found.2 c.in-Ok.ensures.found.1

pub loop-row-preserved : goal.loop-row-preserved
loop-row-preserved c = record {
  same = c.in_ok-change.ensures.ok.0 ∙ c.loop-row.invariant.same;
  added = λ cells are.
      subst (λ rest. IsAddedTo c.args.work.now.definitions c.args.def c.args.work.now.changes c.change.new.self.changes rest cells)
      (sym (left_of c.loop-row.rest.now c.in-Ok.len))
      (one_added c.args.work.now.definitions c.args.def c.args.work.now.changes c.loop-row.work.changes c.loop-row.rest.now cells
      c.in-Ok.row c.in-Ok.len c.change.new.self.changes (c.loop-row.invariant.added cells are) c.in-Ok.ensures.exact
      (some_spelled c.in-Ok.row) c.in-Ok.ensures.found.1
      (λ definition at. c.in_ok-change.ensures.ok.1 definition
      (subst (λ definitions. slice_get definitions c.args.def ≡ Some definition) (sym c.loop-row.invariant.same) at)));
}

pub returns-clause-changes : goal.returns-clause-changes
returns-clause-changes c cells are definition at =
    all_added c.args.work.now.definitions c.args.def c.args.work.now.changes c.loop-row.work.changes c.loop-row.rest.now cells
    c.in_default.field-0 (c.loop-row.invariant.added cells are) c.in_default.ensures.exact definition at
