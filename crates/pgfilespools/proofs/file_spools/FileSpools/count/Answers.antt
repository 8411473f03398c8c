use Rattle.std.proofs.Common.{sym, ap, length, ◌∙◌}
use Rattle.pgfilespools.proofs.Keeping.{count_is}
use Rattle.pgfilespools.proofs.Spooling.{found_held, absent_held}
use Rattle.pgfilespools.proofs.file_spools.FileSpools.count.Goals as goal

pub returns-in-Some : goal.returns-in-Some
returns-in-Some g c =
    let s = c.self.inside in
    let file = g.D.Disk.seen s.blocks.disk in
    let t = c.in-Some.items.now in
    rw (← c.self.view_is) (c.len.ensures
    ∙ count_is s.blocks.key file s.blocks.owners.items t (c.self.invariant.0.each c.args.xid t c.in-Some.ensures.value).0
    ∙ ap length (sym (found_held file s.transactions.entries c.args.xid t c.in-Some.ensures.value)))

pub returns-in-None : goal.returns-in-None
returns-in-None g c =
    let s = c.self.inside in
    rw (← c.self.view_is)
    (ap length (sym (absent_held (g.D.Disk.seen s.blocks.disk) s.transactions.entries c.args.xid c.in-None.ensures.value)))
