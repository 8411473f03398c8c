use Rattle.std.proofs.Common.{length, ap, ◌∙◌}
use Rattle.pgspool.proofs.EncodedLemmas.{count_is}
use Rattle.pgspool.proofs.encoded_items.EncodedItemsTransactionItems.len.Goals as goal

pub returns : goal.returns
returns c = c.len.ensures ∙ c.self.inside.marks.ok.0 ∙ count_is _ _ _ _ _ c.self.invariant ∙ ap length c.self.view_is
