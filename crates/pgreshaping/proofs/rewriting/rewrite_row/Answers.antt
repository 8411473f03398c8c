use Rattle.std.proofs.Common.{ap, ◌∙◌}
use Rattle.pgtables.specs.Kept as stored
use Rattle.pgrel.specs.Carried.{placed_cells}
use Rattle.pgrel.proofs.CarriedRows.{carried_by_places}
use Rattle.pgreshaping.proofs.InPlace.{rewrites_one}
use Rattle.pgreshaping.proofs.rewriting.rewrite_row.Goals as goal

pub returns-clause-made : goal.returns-clause-made
returns-clause-made g c clean =
    rewrites_one g.S.Store c.args.rows.now c.put_row.new.self c.args.old.now c.args.def.now c.args.ident.now _ _ c.args.kept.now _ _
    (λ row kept. c.in_ok-was.ensures.ok row.cells kept.tuple (c.body.ensures ∙ ap (λ (k : stored.Copies). k.body) kept.is))
    (c.borrowed-row.ensures ∙ c.in_ok-next.ensures.ok ∙ ap (placed_cells _) c.requires
    ∙ carried_by_places c.args.old.now.columns c.args.def.now.columns _)
    (c.as_slice.ensures ∙ c.in_ok-body.ensures.ok) c.copies.ensures c.encode.ensures.limits (c.in_ok-put_row.ensures.made clean)
