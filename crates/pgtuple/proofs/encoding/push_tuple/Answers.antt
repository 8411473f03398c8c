use Rattle.std.proofs.Common.{append_assoc, length}
use Rattle.std.specs.Int.{w16, to_be_bytes}
use Rattle.std.specs.List.{flat_map}
use Rattle.pgtuple.specs.Cells.{cell_spelling, tuple_spelling}
use Rattle.pgtuple.proofs.encoding.push_tuple.Goals as goal

pub returns-clause-ok : goal.returns-clause-ok
unfolding tuple_spelling
returns-clause-ok c =
    let cells = c.args.cells.now in
    rw (c.in_ok-push_cells.ensures.ok, c.in_ok-extend_from_slice.ensures.items, c.to_be_bytes.ensures)
    (append_assoc c.args.out.now.items (to_be_bytes w16 (length cells)) (flat_map cell_spelling cells))
