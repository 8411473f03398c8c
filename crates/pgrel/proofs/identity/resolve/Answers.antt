use Rattle.std.proofs.Common.{◌++◌, ap, sym, subst, ◌∙◌}
use Rattle.std.proofs.lemmas.List.{append-nil}
use Rattle.pgtuple.specs.Limits.{IsTuple}
use Rattle.pgrel.specs.Identity.{resolved}
use Rattle.pgrel.proofs.Limits.{resolved_is_tuple}
use Rattle.pgrel.proofs.identity.resolve.Goals as goal

pub from_vec-requires : goal.from_vec-requires
from_vec-requires c =
    let items = sym (append-nil c.loop-cell.cells.items)
    ∙ ap (λ l. c.loop-cell.cells.items ++ resolved l c.loop-cell.olds) (sym c.in-None.ensures.steps.0) ∙ c.loop-cell.invariant.1 in
    subst IsTuple (sym items)
    (resolved_is_tuple c.args.new.now c.args.old_row.now c.width-width.ensures.limits c.width-old_width.ensures.limits)
