use Rattle.std.proofs.Common.{ap, subst, ◌∙◌, arith}
use Rattle.std.specs.Int.{w64, to_be_bytes}
use Rattle.pgencoded.specs.Acts.{Places}
use Rattle.pgreshaping.proofs.Remembering.{none_known}
use Rattle.pgstore.proofs.Committed.{places}
use Rattle.pgstore.proofs.committing.put_all.Goals as goal

pub returns-clause-made : goal.returns-clause-made
returns-clause-made g c clean =
    subst (λ position. Places g.S.Store c.args.rows.now c.put_position.new.self c.args.definitions.now c.args.changes.now position)
    (c.to_be_bytes.ensures ∙ ap (to_be_bytes w64) c.end.view_is)
    (places g.S.Store c.args.rows.now c.take_changes.new.rows c.put_position.new.self c.args.definitions.now c.args.changes.now
    c.to_be_bytes.result
    c.in_ok-take_changes.ensures.made (omega (arith, c.put_position.ensures.survives.clean)) (c.in_ok-put_position.ensures.made clean))

pub take_changes-requires-clause-known : goal.take_changes-requires-clause-known
take_changes-requires-clause-known g c = none_known g.S.Store c.new-known.result c.args.rows.now c.new-known.ensures
