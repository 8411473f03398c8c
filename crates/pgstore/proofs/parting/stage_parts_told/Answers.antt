use Rattle.std.proofs.Common.{refl, ◌∙◌}
use Rattle.pgstore.specs.Sources.{rows_in}
use Rattle.pgstore.specs.Staged.{before_of}
use Rattle.pgstore.proofs.Drafting.{parts_append}
use Rattle.pgstore.proofs.parting.stage_parts_told.Goals as goal

pub returns-in-Ok-clause-told : goal.returns-in-Ok-clause-told
returns-in-Ok-clause-told g c clean honest =
    let l = g.L.Ledger in
    let old = c.args.ledger.now in
    let drafts = c.stage_parts_all.ensures.drafts in
    let begun = c.begin_parts.ensures.rests.wanting_is in
    let ended = c.end_parts.ensures.rests.wanting_is in
    parts_append l.drafts l.keeps l.is_wanting l.heard g.met.L.Ledger.unasked old c.begin_parts.new.self c.stage_parts_all.new.ledger
    c.end_parts.new.self (before_of g.S.Store c.args.is_first (rows_in c.args.source.now)) (g.P.Parts.left c.args.parts.now) c.args.end
    c.args.about c.begin_parts.ensures.kept drafts.kept (drafts.heard_is ∙ c.begin_parts.ensures.heard) begun
    (ended ∙ drafts.rests.wanting_is ∙ begun) c.in_default.ensures.begun (c.in_default-stage_parts_all.ensures.told clean honest)
    c.in-Ok.ensures.appended (l.is_wanting old) refl
