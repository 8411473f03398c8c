use Rattle.std.proofs.Common.{◌≡◌, ◌++◌, length, ap, sym, ◌∙◌, subst, append-nil, arith}
use Rattle.pgtuple.specs.Limits.{IsTuple}
use Rattle.pgrel.specs.Identity.{key_cells}
use Rattle.pgrel.proofs.Loops.{drop_all}
use Rattle.pgrel.proofs.Limits.{key_is_tuple}
use Rattle.pgrel.proofs.identity.key_tuple.Goals as goal

pub from_vec-requires : goal.from_vec-requires
from_vec-requires c =
    let columns = c.args.columns.now in
    let all : length columns ≡ c.loop-column.column-index = omega (arith, c.loop-column-test.false, c.loop-column.auto.column-index-end) in
    let items : c.loop-column.key.items ≡ key_cells columns c.args.row.now =
    sym (append-nil c.loop-column.key.items)
    ∙ ap (λ cs. c.loop-column.key.items ++ key_cells cs c.loop-column.cells) (sym (drop_all columns c.loop-column.column-index all))
    ∙ c.loop-column.invariant in
    subst IsTuple (sym items) (key_is_tuple columns c.args.row.now c.width-width.ensures.limits)
