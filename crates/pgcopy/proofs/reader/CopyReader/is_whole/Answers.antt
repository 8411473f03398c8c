use Rattle.std.proofs.Common.{subst, ap, ◌∙◌, ℕ, List, false, not, length}
use Rattle.std.specs.Prelude.{◌==◌}
use Rattle.pgcopy.proofs.Whole.{Tells, fault_tells, marker_tells, rest_tells}
use Rattle.pgcopy.proofs.reader.CopyReader.is_whole.Goals as goal

pub returns-in-Some : goal.returns-in-Some
returns-in-Some c = subst (λ state. Tells state false) c.self.view_is (fault_tells _ c.in-Some.field-0 c.in-Some.is)

pub returns-then-not-self : goal.returns-then-not-self
returns-then-not-self c =
    subst (λ state. Tells state c.is_empty.result) c.self.view_is (rest_tells _ c.is_empty.result c.in-None.is c.if-not-self.true
    (c.is_empty.ensures ∙ ap (λ (bytes : List ℕ). length bytes == 0) c.as_slice.ensures.value))

pub returns-else-not-self : goal.returns-else-not-self
returns-else-not-self c =
    subst (λ state. Tells state (not c.self.inside.marked)) c.self.view_is (marker_tells _ c.in-None.is c.if-not-self.false)
