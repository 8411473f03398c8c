use Rattle.std.proofs.Common.{sym, ap, ◌∙◌}
use Rattle.std.specs.FinMap as map
use Rattle.pgfilespools.specs.Kept.{items_kept}
use Rattle.pgfilespools.specs.Spooled.{FileSpooled}
use Rattle.pgfilespools.proofs.Counting.{len-held_by, within_most}
use Rattle.pgfilespools.proofs.file_spools.FileSpools.may_open.Goals as goal

pub returns : goal.returns
returns g c =
    let s = c.self.inside in
    let count = len-held_by (items_kept (g.D.Disk.seen s.blocks.disk)) s.transactions.entries c.len.ensures.unique in
    within_most c.len.result _ _ (ap (λ (v : FileSpooled). map.len v.held) (sym c.self.view_is) ∙ count ∙ sym c.len.ensures.len)
