use Rattle.std.proofs.Common.{◌≡◌, refl, ap, subst, ◌∙◌, arith}
use Rattle.std.specs.Prelude.{IsSome}
use Rattle.std.specs.FinMap as map
use Rattle.pgspool.specs.Labels.{costs, held_of}
use Rattle.pgspool.specs.Spooled.{held_by}
use Rattle.pgspool.proofs.OpenEntries.{IsCounted-insert, one_within_all, held_there, cut_there}
use Rattle.pgspool.proofs.OpenEntries.{cut_absent}
use Rattle.pgspool.proofs.HeldBy.{listed_entries, listed_there, listed_absent, held_by-put}
use Rattle.pgspool.proofs.spools_of.SpoolsOf.shorten.Given.{Over}
use Rattle.pgspool.proofs.spools_of.SpoolsOf.shorten.Goals.{In-Some, After-cut}
use Rattle.pgspool.proofs.spools_of.SpoolsOf.shorten.Goals as goal

there : (g : Over) (c : In-Some g)
    → held_of (held_by g.T.TransactionItems.listed c.self.inside.transactions.entries) c.args.xid
    ≡ g.T.TransactionItems.listed c.in-Some.items.now
there g c =
    let listed = g.T.TransactionItems.listed in
    let entries = c.self.inside.transactions.entries in
    held_there (listed_entries listed entries) c.args.xid _
    (listed_there listed entries c.args.xid c.in-Some.items.now c.in-Some.ensures.value)

pub overflow_sub-self : goal.overflow_sub-self
overflow_sub-self g c =
    let all = one_within_all (held_by g.T.TransactionItems.listed c.self.inside.transactions.entries) c.self.inside.bytes
    c.self.inside.max_bytes c.args.xid c.self.invariant in
    let here = ap costs (there g (goal.at.overflow_sub-self g c).In-Some) in
    omega arith

changed : (g : Over) (c : After-cut g)
    → held_by g.T.TransactionItems.listed (c.get_mut.follows.lender c.cut.new.self).entries
    ≡ map.insert (held_by g.T.TransactionItems.listed c.self.inside.transactions.entries) c.args.xid
    (g.T.TransactionItems.listed c.cut.new.self)
changed g c = held_by-put g.T.TransactionItems.listed c.self.inside.transactions.entries (c.get_mut.follows.lender c.cut.new.self).entries
    c.args.xid c.cut.new.self
    ((c.get_mut.follows.holds c.cut.new.self).3 (subst IsSome c.in-Some.ensures.value refl)).0

pub invariant_of-self : goal.invariant_of-self
invariant_of-self g c =
    let listed = g.T.TransactionItems.listed in
    let held = held_by listed c.self.inside.transactions.entries in
    let here = ap costs (there g (goal.at.invariant_of-self g c).In-Some) in
    let all = one_within_all held c.self.inside.bytes c.self.inside.max_bytes c.args.xid c.self.invariant in
    rw (changed g (goal.at.invariant_of-self g c).After-cut)
    (IsCounted-insert held c.self.inside.bytes c.self.inside.max_bytes c.args.xid (listed c.cut.new.self) _ c.self.invariant (omega arith)
    (omega arith))

pub returns-in-Some-clause-held : goal.returns-in-Some-clause-held
returns-in-Some-clause-held g c =
    let listed = g.T.TransactionItems.listed in
    let entries = c.self.inside.transactions.entries in
    rw (← c.self.view_is) (changed g (goal.at.returns-in-Some-clause-held g c).After-cut
    ∙ ap (map.insert (held_by listed entries) c.args.xid) c.cut.ensures.held
    ∙ cut_there (listed_entries listed entries) c.args.xid c.args.subxid _
    (listed_there listed entries c.args.xid c.in-Some.items.now c.in-Some.ensures.value))

pub returns-in_default-clause-held : goal.returns-in_default-clause-held
returns-in_default-clause-held g c =
    let listed = g.T.TransactionItems.listed in
    let entries = c.self.inside.transactions.entries in
    rw (← c.self.view_is) (ap (λ m. held_by listed m.entries) c.get_mut.follows.holds-at-none
    ∙ cut_absent (listed_entries listed entries) c.args.xid c.args.subxid
    (listed_absent listed entries c.args.xid c.in_default.ensures.value))
