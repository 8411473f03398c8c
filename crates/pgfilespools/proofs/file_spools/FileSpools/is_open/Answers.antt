use Rattle.std.proofs.Common.{sym, ◌∙◌}
use Rattle.pgspool.proofs.HeldBy.{contains_key-held_by}
use Rattle.pgfilespools.specs.Kept.{items_kept}
use Rattle.pgfilespools.proofs.file_spools.FileSpools.is_open.Goals as goal

pub returns : goal.returns
returns g c =
    let s = c.self.inside in
    rw (← c.self.view_is) (c.contains_key.ensures
    ∙ sym (contains_key-held_by (items_kept (g.D.Disk.seen s.blocks.disk)) s.transactions.entries c.args.xid))
