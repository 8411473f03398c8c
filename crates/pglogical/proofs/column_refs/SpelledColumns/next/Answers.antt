use Rattle.std.proofs.Common.{ap, subst, sym, ◌∷◌, ◌∙◌, ◌-◌}
use Rattle.std.specs.Result.{result_ok}
use Rattle.pglogical.specs.Reading.{At, columns_at}
use Rattle.pglogical.specs.Columns.{columns_read, IsRead}
use Rattle.pglogical.proofs.ColumnReads.{none_left, next_read, known_column}
use Rattle.pglogical.proofs.column_refs.SpelledColumns.next.Goals as goal

pub returns-then-self-eq0 : goal.returns-then-self-eq0
returns-then-self-eq0 c =
    let none = sym c.self.view_is ∙ none_left c.self.inside.left c.self.inside.reader c.if-self-eq0.true in
    (none, none)

pub invariant_of-self : goal.invariant_of-self
invariant_of-self c =
    let first = next_read c.self.inside.left c.self.inside.reader c.if-self-eq0.false c.self.invariant in
    let known = known_column c.column.result c.self.inside.reader c.column.new.reader first.0 c.column.ensures first.1.here in
    subst (λ (at : At). IsRead (columns_at (c.self.inside.left - 1) at)) (sym known.3) first.1.there

pub returns : goal.returns
returns c =
    let first = next_read c.self.inside.left c.self.inside.reader c.if-self-eq0.false c.self.invariant in
    let known = known_column c.column.result c.self.inside.reader c.column.new.reader first.0 c.column.ensures first.1.here in
    rw (c.ok.ensures.value ∙ ap result_ok known.1)
    (sym c.self.view_is ∙ first.1.all ∙ (λ i. sym known.2 i ∷ columns_read (columns_at (c.self.inside.left - 1) (sym known.3 i))))
