use Rattle.std.proofs.Common.{sym, ap, ◌∙◌}
use Rattle.pgledger.specs.declared.image.Image.TheVariants.{Inserted}
use Rattle.pgledger.specs.Images.{image_of}
use Rattle.pgchanging.proofs.FoundRows.{insert_is, truncate_is}
use Rattle.pgchanging.proofs.looking.look_at.Goals as goal

pub returns-in-Insert-clause-image : goal.returns-in-Insert-clause-image
returns-in-Insert-clause-image g c clean v rows h =
    ap Inserted c.reborrow.ensures ∙ insert_is c.args.def.now _ rows ∙ sym (ap (λ o. image_of c.args.def.now o rows) c.in-Insert.is)

pub returns-in-Truncate-clause-image : goal.returns-in-Truncate-clause-image
returns-in-Truncate-clause-image g c clean v rows h =
    truncate_is c.args.def.now rows ∙ sym (ap (λ o. image_of c.args.def.now o rows) c.in-Truncate.is)
