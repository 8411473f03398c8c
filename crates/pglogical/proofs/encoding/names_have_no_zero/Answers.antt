use Rattle.std.proofs.Common.{ap, sym, ◌∙◌}
use Rattle.std.specs.Prelude.{◌&&◌}
use Rattle.pglogical.specs.SpellableTests.{names_have_no_zero}
use Rattle.pglogical.proofs.encoding.names_have_no_zero.Goals as goal

pub loop-column-preserved : goal.loop-column-preserved
loop-column-preserved c =
    ap (λ b. b && names_have_no_zero c.next.new.self) (sym c.if-not-has_no_zero.false ∙ c.has_no_zero.ensures)
    ∙ sym (ap names_have_no_zero c.in-Some.ensures.steps) ∙ c.loop-column.invariant

pub returns-then-not-has_no_zero : goal.returns-then-not-has_no_zero
returns-then-not-has_no_zero c =
    ap (λ b. b && names_have_no_zero c.next.new.self) (sym c.if-not-has_no_zero.true ∙ c.has_no_zero.ensures)
    ∙ sym (ap names_have_no_zero c.in-Some.ensures.steps) ∙ c.loop-column.invariant

pub returns : goal.returns
returns c = sym (ap names_have_no_zero c.in-None.ensures.steps.0) ∙ c.loop-column.invariant
