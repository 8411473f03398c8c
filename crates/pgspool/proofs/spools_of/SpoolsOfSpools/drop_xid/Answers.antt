use Rattle.std.proofs.Common.{◌≡◌, ap, arith}
use Rattle.pgspool.specs.Labels.{costs, held_of}
use Rattle.pgspool.specs.Spooled.{held_by}
use Rattle.pgspool.proofs.OpenEntries.{IsCounted-remove, one_within_all, held_there}
use Rattle.pgspool.proofs.HeldBy.{listed_entries, listed_there, held_by-taken}
use Rattle.pgspool.proofs.spools_of.SpoolsOfSpools.drop_xid.Given.{Over}
use Rattle.pgspool.proofs.spools_of.SpoolsOfSpools.drop_xid.Goals.{In-Some}
use Rattle.pgspool.proofs.spools_of.SpoolsOfSpools.drop_xid.Goals as goal

there : (g : Over) (c : In-Some g)
    → held_of (held_by g.T.TransactionItems.listed c.self.inside.transactions.entries) c.args.xid
    ≡ g.T.TransactionItems.listed c.in-Some.items
there g c =
    let listed = g.T.TransactionItems.listed in
    let entries = c.self.inside.transactions.entries in
    held_there (listed_entries listed entries) c.args.xid _ (listed_there listed entries c.args.xid c.in-Some.items c.in-Some.ensures.value)

pub overflow_sub-self : goal.overflow_sub-self
overflow_sub-self g c =
    let all = one_within_all (held_by g.T.TransactionItems.listed c.self.inside.transactions.entries) c.self.inside.bytes
    c.self.inside.max_bytes c.args.xid c.self.invariant in
    let here = ap costs (there g (goal.at.overflow_sub-self g c).In-Some) in
    omega arith

pub invariant_of-self : goal.invariant_of-self
invariant_of-self g c =
    let listed = g.T.TransactionItems.listed in
    let held = held_by listed c.self.inside.transactions.entries in
    let all = one_within_all held c.self.inside.bytes c.self.inside.max_bytes c.args.xid c.self.invariant in
    let here = ap costs (there g (goal.at.invariant_of-self g c).In-Some) in
    rw (held_by-taken listed c.self.inside.transactions.entries c.swap_remove.new.self.entries c.args.xid c.swap_remove.ensures.updates.0)
    (IsCounted-remove held c.self.inside.bytes c.self.inside.max_bytes c.args.xid _ c.self.invariant (omega arith))

pub returns-in-Some-clause-held : goal.returns-in-Some-clause-held
returns-in-Some-clause-held g c =
    rw (← c.self.view_is) (held_by-taken g.T.TransactionItems.listed c.self.inside.transactions.entries c.swap_remove.new.self.entries
    c.args.xid c.swap_remove.ensures.updates.0)

pub returns-in_default-clause-held : goal.returns-in_default-clause-held
returns-in_default-clause-held g c =
    rw (← c.self.view_is) (held_by-taken g.T.TransactionItems.listed c.self.inside.transactions.entries c.swap_remove.new.self.entries
    c.args.xid c.swap_remove.ensures.updates.0)
