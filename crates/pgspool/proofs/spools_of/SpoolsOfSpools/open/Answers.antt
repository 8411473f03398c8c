use Rattle.std.proofs.Common.{◌≡◌, ◌≤◌, [], ap, ◌∙◌, arith}
use Rattle.std.specs.FinMap as map
use Rattle.pgspool.specs.Labels.{costs, held_of}
use Rattle.pgspool.specs.Spooled.{held_by}
use Rattle.pgspool.proofs.OpenEntries.{IsCounted-insert, held_closed}
use Rattle.pgspool.proofs.HeldBy.{held_by-put}
use Rattle.pgspool.proofs.spools_of.SpoolsOfSpools.open.Given.{Over}
use Rattle.pgspool.proofs.spools_of.SpoolsOfSpools.open.Goals.{In_ok-insert}
use Rattle.pgspool.proofs.spools_of.SpoolsOfSpools.open.Goals as goal

opened : (g : Over) (c : In_ok-insert g)
    → held_by g.T.TransactionItems.listed c.insert.new.self.entries
    ≡ map.insert (held_by g.T.TransactionItems.listed c.self.inside.transactions.entries) c.args.xid
    (g.T.TransactionItems.listed c.new.result)
opened g c = held_by-put g.T.TransactionItems.listed c.self.inside.transactions.entries c.insert.new.self.entries c.args.xid c.new.result
    c.in_ok-insert.ensures.updates.0

nothing_held : (g : Over) (c : In_ok-insert g)
    → held_of (held_by g.T.TransactionItems.listed c.self.inside.transactions.entries) c.args.xid ≡ []
nothing_held g c = held_closed (held_by g.T.TransactionItems.listed c.self.inside.transactions.entries) c.args.xid
    (ap (λ s. map.contains_key s.held c.args.xid) c.self.view_is ∙ c.requires)

pub invariant_of-self-2 : goal.invariant_of-self-2
invariant_of-self-2 g c =
    let listed = g.T.TransactionItems.listed in
    let held = held_by listed c.self.inside.transactions.entries in
    let before = ap costs (nothing_held g (goal.at.invariant_of-self-2 g c).In_ok-insert) in
    let after = ap costs c.new.ensures in
    let within : c.self.inside.bytes ≤ c.self.inside.max_bytes = c.self.invariant.within in
    rw (opened g (goal.at.invariant_of-self-2 g c).In_ok-insert)
    (IsCounted-insert held c.self.inside.bytes c.self.inside.max_bytes c.args.xid (listed c.new.result) c.self.inside.bytes c.self.invariant
    (omega arith) within)

pub returns-clause-ok : goal.returns-clause-ok
returns-clause-ok g c =
    rw (← c.self.view_is) (opened g (goal.at.returns-clause-ok g c).In_ok-insert
    ∙ ap (map.insert (held_by g.T.TransactionItems.listed c.self.inside.transactions.entries) c.args.xid) c.new.ensures)
