use Rattle.std.proofs.Common.{◌≡◌, ap, subst, sym, ◌∙◌, arith}
use Rattle.pgtuple.specs.Cells.{tuple_spelling}
use Rattle.pgtuple.specs.Forms.{form_cells, IsForm}
use Rattle.pgtuple.proofs.Lengths.{tuple_bounded}
use Rattle.pgtuple.proofs.borrowed.TupleRef.spelled_len.Goals as goal

pub overflow_add-result : goal.overflow_add-result
overflow_add-result c = omega
    (arith, tuple_bounded c.in-Owned.cells.now (subst IsForm c.in-Owned.is c.self.invariant), c.spelled_lens.ensures)

pub returns-in-Owned : goal.returns-in-Owned
unfolding tuple_spelling
returns-in-Owned c =
    let same : c.in-Owned.cells.now ≡ c.args.self.now = sym (ap form_cells c.in-Owned.is) ∙ c.self.view_is in
    rw (c.spelled_lens.ensures, ← same) (omega arith)
