use Rattle.std.proofs.Common.{◌≡◌, ◌∷◌, ◌++◌, [], ap, sym, ◌∙◌, rules}
use Rattle.std.specs.Prelude.{option_map}
use Rattle.std.specs.Option.{option_to_list}
use Rattle.pgtuple.specs.Borrowed.{cell_value}
use Rattle.pgrel.specs.Identity.{key_cells}
use Rattle.pgrel.proofs.Loops.{key_cells_none}
use Rattle.pgrel.proofs.identity.next_key_cell.Goals as goal

pub returns-in_err-cell : goal.returns-in_err-cell
returns-in_err-cell c = λ rest.
    let after : c.next.new.self ≡ [] = search rules in
    ap (key_cells (c.args.column.now ∷ rest)) c.in_err-cell.ensures.steps.0
    ∙ sym ((λ i. option_to_list (option_map cell_value (c.from_residual.ensures i)) ++ key_cells rest (after i)) ∙ key_cells_none rest)
