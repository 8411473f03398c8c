use Rattle.std.proofs.Common.{[], ◌∷◌, ◌++◌, ap, ◌∙◌}
use Rattle.pgledger.specs.Images.{image_of}
use Rattle.pgchanging.specs.Looks.{told_more}
use Rattle.pgchanging.proofs.FoundRows.{told_wanted}
use Rattle.pgchanging.proofs.looking.Telling.look.Goals as goal

pub returns-clause-told : goal.returns-clause-told
returns-clause-told g c clean v rows h =
    let told = image_of c.args.def.now c.args.op.now rows in
    told_wanted c.self.inside.is_wanted c.if-not-self.false c.self.inside.images.items c.push.new.self.items told
    (c.in_ok-push.ensures.items ∙ ap (λ i. c.self.inside.images.items ++ i ∷ []) (c.in_ok-image.ensures.image clean v rows h))
    ∙ ap (λ t. told_more t (told ∷ [])) c.self.view_is
