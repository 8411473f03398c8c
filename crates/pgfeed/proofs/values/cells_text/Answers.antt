use Rattle.std.proofs.Common.{ap, ◌∙◌}
use Rattle.pgfeed.proofs.Writing.{all_cells, no_cell, one_cell}
use Rattle.pgfeed.proofs.values.cells_text.Goals as goal

pub loop-cell-init : goal.loop-cell-init
loop-cell-init c =
    let began = c.in_ok-begin_array.ensures in
    record {
      before = began.room.0 ∙ c.new-out.ensures.before ∙ c.in_ok-with_capacity.ensures.items;
      tokens = no_cell _ _ _ _ c.new-out.ensures.tokens began.ok
          (c.into_iter-cell-iterator.ensures.into_iter_gives ∙ c.cells-cell-items.ensures.cells);
    }

pub loop-cell-preserved : goal.loop-cell-preserved
loop-cell-preserved c =
    let wrote = c.in_ok-write_cell.ensures in
    record {
      before = wrote.0 ∙ c.loop-cell.invariant.before;
      tokens = one_cell _ _ _ _ _ _ c.loop-cell.invariant.tokens c.in-Some.ensures.steps wrote.1;
    }

pub returns-in-Ok : goal.returns-in-Ok
returns-in-Ok c =
    let ended = c.in_ok-end_array.ensures in
    ap (λ v. v.items) c.in-Ok.ensures.ok
    ∙ all_cells _ _ _ _ _ _ c.loop-cell.invariant.tokens c.in-None.ensures.steps.0 ended.ok (ended.room.0 ∙ c.loop-cell.invariant.before)
    c.into_inner.ensures.items
