use Rattle.std.proofs.Common.{◌≡◌, ◌++◌, ◌∷◌, [], refl, sym, ap, subst, true≢false, ◌∙◌, arith}
use Rattle.std.specs.Prelude.{IsSome}
use Rattle.std.specs.FinMap as map
use Rattle.std.proofs.lemmas.List.Sums.{sum_by_push}
use Rattle.pgtuple.proofs.Appending.{on_err}
use Rattle.pgspool.specs.Labels.{LabelledItem, cost, costs, held_of}
use Rattle.pgspool.specs.Spooled.{held_by}
use Rattle.pgspool.proofs.OpenEntries.{IsCounted-insert, one_within_all, held_there, closed_absent}
use Rattle.pgspool.proofs.OpenEntries.{insert_back}
use Rattle.pgspool.proofs.HeldBy.{listed_entries, listed_there, listed_absent, held_by-put}
use Rattle.pgspool.proofs.spools_of.SpoolsOfSpools.push.Given.{Over}
use Rattle.pgspool.proofs.spools_of.SpoolsOfSpools.push.Goals.{In-Some, After-push}
use Rattle.pgspool.proofs.spools_of.SpoolsOfSpools.push.Goals as goal

pub unreachable-requires : goal.unreachable-requires
unreachable-requires g c =
    let listed = g.T.TransactionItems.listed in
    let entries = c.self.inside.transactions.entries in
    true≢false (sym (ap (λ s. map.contains_key s.held c.args.xid) c.self.view_is ∙ c.requires.open)
    ∙ closed_absent (listed_entries listed entries) c.args.xid (listed_absent listed entries c.args.xid c.in_default.ensures.value))

there : (g : Over) (c : In-Some g)
    → held_of (held_by g.T.TransactionItems.listed c.self.inside.transactions.entries) c.args.xid
    ≡ g.T.TransactionItems.listed c.in-Some.items.now
there g c =
    let listed = g.T.TransactionItems.listed in
    let entries = c.self.inside.transactions.entries in
    held_there (listed_entries listed entries) c.args.xid _
    (listed_there listed entries c.args.xid c.in-Some.items.now c.in-Some.ensures.value)

changed : (g : Over) (c : After-push g)
    → held_by g.T.TransactionItems.listed (c.get_mut.follows.lender c.push.new.self).entries
    ≡ map.insert (held_by g.T.TransactionItems.listed c.self.inside.transactions.entries) c.args.xid
    (g.T.TransactionItems.listed c.push.new.self)
changed g c = held_by-put g.T.TransactionItems.listed c.self.inside.transactions.entries (c.get_mut.follows.lender c.push.new.self).entries
    c.args.xid c.push.new.self
    ((c.get_mut.follows.holds c.push.new.self).3 (subst IsSome c.in-Some.ensures.value refl)).0

pub push-requires-clause-fits : goal.push-requires-clause-fits
push-requires-clause-fits g c =
    let all = one_within_all (held_by g.T.TransactionItems.listed c.self.inside.transactions.entries) c.self.inside.bytes
    c.self.inside.max_bytes c.args.xid c.self.invariant in
    let here = ap costs (there g (goal.at.push-requires-clause-fits g c).In-Some) in
    omega arith

pub invariant_of-self-2 : goal.invariant_of-self-2
invariant_of-self-2 g c =
    let listed = g.T.TransactionItems.listed in
    let held = held_by listed c.self.inside.transactions.entries in
    let here = ap costs (there g (goal.at.invariant_of-self-2 g c).In-Some) in
    let pushed = ap costs c.in_ok-push.ensures.ok
    ∙ sum_by_push (λ (l : LabelledItem). cost l.1) (listed c.in-Some.items.now) (c.args.subxid, c.args.item.now) in
    rw (changed g (goal.at.invariant_of-self-2 g c).After-push)
    (IsCounted-insert held c.self.inside.bytes c.self.inside.max_bytes c.args.xid (listed c.push.new.self) _ c.self.invariant (omega arith)
    (omega arith))

unchanged : (g : Over) (c : After-push g) → g.T.TransactionItems.listed c.push.new.self ≡ g.T.TransactionItems.listed c.in-Some.items.now
    → held_by g.T.TransactionItems.listed (c.get_mut.follows.lender c.push.new.self).entries
    ≡ held_by g.T.TransactionItems.listed c.self.inside.transactions.entries
unchanged g c same =
    let listed = g.T.TransactionItems.listed in
    let entries = c.self.inside.transactions.entries in
    changed g c
    ∙ ap (map.insert (held_by listed entries) c.args.xid) same
    ∙ insert_back (listed_entries listed entries) c.args.xid _
    (listed_there listed entries c.args.xid c.in-Some.items.now c.in-Some.ensures.value)

pub invariant_of-self : goal.invariant_of-self
invariant_of-self g c = rw (unchanged g (goal.at.invariant_of-self g c).After-push c.in_err-push.ensures.err) c.self.invariant

pub returns-clause-ok : goal.returns-clause-ok
returns-clause-ok g c =
    rw (← c.self.view_is) (changed g (goal.at.returns-clause-ok g c).After-push
    ∙ ap (map.insert (held_by g.T.TransactionItems.listed c.self.inside.transactions.entries) c.args.xid)
    (c.in_ok-push.ensures.ok ∙ (λ i. sym (there g (goal.at.returns-clause-ok g c).In-Some) i ++ (c.args.subxid, c.args.item.now) ∷ [])))

pub returns-in_err-push-clause-err : goal.returns-in_err-push-clause-err
returns-in_err-push-clause-err g c =
    on_err c.from_residual.result
    (rw (← c.self.view_is) (unchanged g (goal.at.returns-in_err-push-clause-err g c).After-push c.in_err-push.ensures.err))
