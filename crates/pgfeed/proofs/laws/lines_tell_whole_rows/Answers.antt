use Rattle.std.proofs.Common.{[], ◌∷◌}
use Rattle.pglogical.specs.declared.message.RelationDef.{RelationDef}
use Rattle.pgapply.specs.Value.{Rows}
use Rattle.pgledger.specs.declared.image.Image.{Image}
use Rattle.pgledger.specs.declared.image.Image.TheVariants.{Inserted, Updated, Deleted, Truncated}
use Rattle.pgledger.specs.declared.image.Image.TheVariants.{Missed}
use Rattle.pgledger.specs.Images.{Leads}
use Rattle.pgfeed.specs.Whole.{LinesTellWholeRows, TellsWhole}
use Rattle.pgfeed.proofs.laws.lines_tell_whole_rows.Goals as goal

whole : (def : RelationDef) (image : Image) (rows next : Rows) → Leads def image rows next → TellsWhole image
whole def (Inserted row) rows next leads = leads.0.1
whole def (Updated old new) rows next leads = (leads.1.1.1, leads.2.0.1)
whole def (Deleted row) rows next leads = leads.1.1
whole def Truncated rows next leads = tt
whole def (Missed old new) rows next leads = tt

all_whole : LinesTellWholeRows
all_whole tables next [] lead = tt
all_whole tables next (line ∷ ls) lead =
    (whole line.definition line.image lead.1.found lead.1.after lead.1.leads, all_whole lead.0 next ls lead.2)

pub returns : goal.returns
returns c = all_whole
