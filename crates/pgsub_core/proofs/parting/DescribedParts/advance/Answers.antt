use Rattle.std.proofs.Common.{◌≡◌, ◌≤◌, ◌++◌, ap, sym, ◌∙◌, subst, length, drop}
use Rattle.pgspool.specs.Labels.{HeldMap, items_of, held_of}
use Rattle.pgsub_core.specs.Machine.Replica.{all_cached}
use Rattle.pgsub_core.specs.Calls.Parting.{Parting, part, changes_in, left_in, IsDescribed}
use Rattle.pgsub_core.proofs.DescribedChanges.{items-length}
use Rattle.pgsub_core.proofs.PartChanges.{described_on, goes_on}
use Rattle.pgsub_core.proofs.parting.DescribedParts.advance.Goals as goal

pub invariant_of-self-in-Ok-load_part : goal.invariant_of-self-in-Ok-load_part
invariant_of-self-in-Ok-load_part g c =
    let it = g.P.Spools in
    let inside = c.self.inside in
    let was = c.self.invariant.0 in
    let e = c.in-Ok-load_part.ensures in
    let held = held_of (it.held inside.spools.now) inside.xid in (
      record {
        order = e.order;
        within = subst (λ n. c.in-Ok-load_part.next ≤ n) (sym (items-length (held_of (it.held c.load_part.new.self) inside.xid)))
            (subst (λ (m : HeldMap). c.in-Ok-load_part.next ≤ length (held_of m inside.xid)) (sym e.held) e.within);
        ready = λ wide. e.ready;
        read = λ h wide. e.loaded h;
        described = λ h.
            subst (λ (m : HeldMap). IsDescribed c.cache_part.new.book (drop inside.to (items_of (held_of m inside.xid)))) (sym e.held)
            (described_on inside.book.now c.cache_part.new.book (items_of held) inside.from inside.to was.order
            (was.described (e.honest h)) (c.in-Ok.ensures.cached (was.read (e.honest h))));
      },
      c.self.invariant.1,
    )

pub returns-in-Ok-load_part-clause-part : goal.returns-in-Ok-load_part-clause-part
returns-in-Ok-load_part-clause-part g c h there =
    let it = g.P.Spools in
    let inside = c.self.inside in
    let was = c.self.invariant.0 in
    let e = c.in-Ok-load_part.ensures in
    let held = held_of (it.held inside.spools.now) inside.xid in
    let book = c.cache_part.new.book in
    let next = c.in-Ok-load_part.next in
    ap (λ (p : Parting g.row.P.Denot). left_in it.held p) (sym c.self.view_is)
    ∙ subst (λ (m : HeldMap).
    changes_in (all_cached inside.book.now (part (items_of held) inside.from inside.to)) (drop inside.to (items_of held))
    ≡ changes_in book (part (items_of (held_of m inside.xid)) inside.to next)
    ++ changes_in (all_cached book (part (items_of (held_of m inside.xid)) inside.to next)) (drop next (items_of (held_of m inside.xid))))
    (sym e.held)
    (goes_on inside.book.now book (items_of held) inside.from inside.to was.order
    (was.described (e.honest h)) (c.in-Ok.ensures.cached (was.read (e.honest h))) next e.order)
