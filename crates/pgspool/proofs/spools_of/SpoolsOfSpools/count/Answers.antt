use Rattle.std.proofs.Common.{sym, ap, length, ◌∙◌}
use Rattle.pgspool.proofs.OpenEntries.{held_there, held_absent}
use Rattle.pgspool.proofs.HeldBy.{listed_entries, listed_there, listed_absent}
use Rattle.pgspool.proofs.spools_of.SpoolsOfSpools.count.Goals as goal

pub returns-in-Some : goal.returns-in-Some
returns-in-Some g c =
    let listed = g.T.TransactionItems.listed in
    let entries = c.self.inside.transactions.entries in
    rw (← c.self.view_is) (c.len.ensures
    ∙ ap length (sym (held_there (listed_entries listed entries) c.args.xid _
    (listed_there listed entries c.args.xid c.in-Some.items.now c.in-Some.ensures.value))))

pub returns-in-None : goal.returns-in-None
returns-in-None g c =
    let listed = g.T.TransactionItems.listed in
    let entries = c.self.inside.transactions.entries in
    rw (← c.self.view_is) (ap length
    (sym (held_absent (listed_entries listed entries) c.args.xid (listed_absent listed entries c.args.xid c.in-None.ensures.value))))
