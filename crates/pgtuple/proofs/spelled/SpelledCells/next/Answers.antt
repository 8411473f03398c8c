use Rattle.std.proofs.Common.{ap, subst, sym, ◌∷◌, ◌∙◌, ◌-◌}
use Rattle.std.specs.Result.{result_ok}
use Rattle.pgtuple.specs.Reading.{At, cells_at}
use Rattle.pgtuple.specs.Spelled.{cells_read, IsRead}
use Rattle.pgtuple.proofs.SpelledReads.{none_left, next_read, known_cell}
use Rattle.pgtuple.proofs.spelled.SpelledCells.next.Goals as goal

pub returns-then-self-eq0 : goal.returns-then-self-eq0
returns-then-self-eq0 c =
    let none = sym c.self.view_is ∙ none_left c.self.inside.left c.self.inside.reader c.if-self-eq0.true in
    (none, none)

pub invariant_of-self : goal.invariant_of-self
invariant_of-self c =
    let first = next_read c.self.inside.left c.self.inside.reader c.if-self-eq0.false c.self.invariant in
    let known = known_cell c.cell.result c.self.inside.reader c.cell.new.reader first.0 c.cell.ensures first.1.here in
    subst (λ (at : At). IsRead (cells_at (c.self.inside.left - 1) at)) (sym known.3) first.1.there

pub returns : goal.returns
returns c =
    let first = next_read c.self.inside.left c.self.inside.reader c.if-self-eq0.false c.self.invariant in
    let known = known_cell c.cell.result c.self.inside.reader c.cell.new.reader first.0 c.cell.ensures first.1.here in
    rw (c.ok.ensures.value ∙ ap result_ok known.1)
    (sym c.self.view_is ∙ first.1.all ∙ (λ i. sym known.2 i ∷ cells_read (cells_at (c.self.inside.left - 1) (sym known.3 i))))
