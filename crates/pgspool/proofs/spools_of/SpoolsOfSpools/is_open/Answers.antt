use Rattle.std.proofs.Common.{sym, ◌∙◌}
use Rattle.pgspool.proofs.HeldBy.{contains_key-held_by}
use Rattle.pgspool.proofs.spools_of.SpoolsOfSpools.is_open.Goals as goal

pub returns : goal.returns
returns g c = rw (← c.self.view_is)
    (c.contains_key.ensures ∙ sym (contains_key-held_by g.T.TransactionItems.listed c.self.inside.transactions.entries c.args.xid))
