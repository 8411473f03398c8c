use Rattle.std.proofs.Common.{List, ap, subst, sym, ◌∙◌}
use Rattle.std.proofs.lemmas.List.Elements.{recursion_from_All}
use Rattle.pgtuple.specs.declared.cell.Cell.{Cell}
use Rattle.pgtuple.specs.Limits.{IsTextCell, IsWireTuple}
use Rattle.pgtuple.specs.Forms.{form_cells, IsForm}
use Rattle.pgtuple.proofs.borrowed.TupleRef.fits_wire.Goals as goal

pub returns-in-Owned : goal.returns-in-Owned
returns-in-Owned c =
    let same = sym (ap form_cells c.in-Owned.is) ∙ c.self.view_is in
    subst (λ (cells : List Cell). IsWireTuple cells) same
    (record {
      tuple = subst IsForm c.in-Owned.is c.self.invariant;
      texts = recursion_from_All IsTextCell c.in-Owned.cells.now c.have_utf8.ensures;
    })

pub returns-in-Spelled : goal.returns-in-Spelled
returns-in-Spelled c =
    let same = sym (ap form_cells c.in-Spelled.is) ∙ c.self.view_is in
    subst (λ (cells : List Cell). IsWireTuple cells) same (subst IsForm c.in-Spelled.is c.self.invariant).fits
