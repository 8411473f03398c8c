use Rattle.std.proofs.Common.{◌≡◌, [], length, sym, ap, ◌∙◌, arith}
use Rattle.std.specs.Prelude.{option_map, slice_get}
use Rattle.pgspool.specs.Labels.{LabelledItem, held_of}
use Rattle.pgspool.specs.Spooled.{held_by}
use Rattle.pgspool.proofs.CopiedItems.{item_there}
use Rattle.pgspool.proofs.OpenEntries.{held_there, held_absent}
use Rattle.pgspool.proofs.HeldBy.{listed_entries, listed_there, listed_absent}
use Rattle.pgspool.proofs.spools_of.SpoolsOfSpools.item.Given.{Over}
use Rattle.pgspool.proofs.spools_of.SpoolsOfSpools.item.Goals.{In_err-items, In_ok-items}
use Rattle.pgspool.proofs.spools_of.SpoolsOfSpools.item.Goals as goal

none_held : (g : Over) (c : In_err-items g)
    → held_of (held_by g.T.TransactionItems.listed c.self.inside.transactions.entries) c.args.xid ≡ []
none_held g c =
    let listed = g.T.TransactionItems.listed in
    let entries = c.self.inside.transactions.entries in
    held_absent (listed_entries listed entries) c.args.xid (listed_absent listed entries c.args.xid c.in_err-items.ensures.value)

these_held : (g : Over) (c : In_ok-items g)
    → held_of (held_by g.T.TransactionItems.listed c.self.inside.transactions.entries) c.args.xid
    ≡ g.T.TransactionItems.listed c.in_ok-items.items.now
these_held g c =
    let listed = g.T.TransactionItems.listed in
    let entries = c.self.inside.transactions.entries in
    held_there (listed_entries listed entries) c.args.xid _
    (listed_there listed entries c.args.xid c.in_ok-items.items.now c.in_ok-items.ensures.value)

pub returns-in_err-items-clause-value : goal.returns-in_err-items-clause-value
returns-in_err-items-clause-value g c =
    let none = none_held g (goal.at.returns-in_err-items-clause-value g c).In_err-items in
    λ _. rw (← c.self.view_is) (c.from_residual.ensures
    ∙ ap (λ l. option_map (λ (e : LabelledItem). e.1) (slice_get l c.args.index)) (sym none))

pub returns-in_err-items-clause-there : goal.returns-in_err-items-clause-there
returns-in_err-items-clause-there g c =
    let none = ap length (none_held g (goal.at.returns-in_err-items-clause-there g c).In_err-items) in
    rw (← c.self.view_is) (λ below. absurd (omega arith))

pub returns-clause-value : goal.returns-clause-value
returns-clause-value g c =
    let these = these_held g (goal.at.returns-clause-value g c).In_ok-items in
    λ _. rw (← c.self.view_is) (c.item.ensures.value
    ∙ ap (λ l. option_map (λ (e : LabelledItem). e.1) (slice_get l c.args.index)) (sym these))

pub returns-clause-there : goal.returns-clause-there
returns-clause-there g c =
    let these = ap length (these_held g (goal.at.returns-clause-there g c).In_ok-items) in
    let items = g.T.TransactionItems.listed c.in_ok-items.items.now in
    rw (← c.self.view_is) (λ below. item_there items c.args.index c.item.result c.item.ensures.value (omega arith))
