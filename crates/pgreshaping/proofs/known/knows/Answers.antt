use Rattle.std.proofs.Common.{ap, sym, ◌∙◌}
use Rattle.std.specs.Prelude.{Some}
use Rattle.pgreshaping.proofs.SameDefinition.{one_definition}
use Rattle.pgreshaping.proofs.known.knows.Goals as goal

pub returns-in-Ok-clause-same : goal.returns-in-Ok-clause-same
returns-in-Ok-clause-same c same =
    c.in-Ok.ensures.found ∙ ap Some (one_definition c.in-Ok.there.now c.args.def.now (sym c.eq.ensures ∙ same))
