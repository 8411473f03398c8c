use Rattle.std.proofs.Common.{ap, sym, ◌∙◌}
use Rattle.std.specs.Prelude.{◌||◌}
use Rattle.pgrel.specs.Identity.{has_unchanged}
use Rattle.pgrel.proofs.identity.has_unchanged.Goals as goal

pub loop-cell-preserved : goal.loop-cell-preserved
loop-cell-preserved c =
    ap (λ b. b || has_unchanged c.next.new.self) (sym c.if-is_unchanged.false ∙ c.is_unchanged.ensures)
    ∙ sym (ap has_unchanged c.in-Some.ensures.steps) ∙ c.loop-cell.invariant

pub returns-then-is_unchanged : goal.returns-then-is_unchanged
returns-then-is_unchanged c =
    ap (λ b. b || has_unchanged c.next.new.self) (sym c.if-is_unchanged.true ∙ c.is_unchanged.ensures)
    ∙ sym (ap has_unchanged c.in-Some.ensures.steps) ∙ c.loop-cell.invariant

pub returns : goal.returns
returns c = sym (ap has_unchanged c.in-None.ensures.steps.0) ∙ c.loop-cell.invariant
