use Rattle.std.proofs.Common.{refl, subst, ◌∙◌}
use Rattle.std.specs.Prelude.{IsSome}
use Rattle.pgfilespools.proofs.Spooling.{back_held, back_spooled}
use Rattle.pgfilespools.proofs.file_spools.FileSpools.spill.Goals as goal

pub spill-written-requires-clause-kept : goal.spill-written-requires-clause-kept
spill-written-requires-clause-kept g c = (c.self.invariant.0.each c.args.xid c.in-Some.items.now c.in-Some.ensures.value).0

pub invariant_of-self-2 : goal.invariant_of-self-2
invariant_of-self-2 g c =
    let s = c.self.inside in
    let b = s.blocks in
    let w = c.spill-written in
    let b' = w.new.blocks in
    let seen = g.D.Disk.seen in
    let t = c.in-Some.items.now in
    let each = c.self.invariant.0.each c.args.xid t c.in-Some.ensures.value in (
      back_spooled c.args.xid b.key b'.key (seen b.disk) (seen b'.disk) b.owners.items b'.owners.items
          (λ owner p other is. w.ensures.others owner p is)
          w.ensures.key s.transactions.entries (c.get_mut.follows.lender w.new.self).entries s.bytes s.max_bytes c.self.invariant.0
          w.new.self ((c.get_mut.follows.holds w.new.self).3 (subst IsSome c.in-Some.ensures.value refl)).0
          w.ensures.kept (w.ensures.xid ∙ each.1) t c.in-Some.ensures.value w.ensures.items,
      w.ensures.usable,
    )

pub returns-clause-held : goal.returns-clause-held
returns-clause-held g c =
    let s = c.self.inside in
    let b = s.blocks in
    let w = c.spill-written in
    let b' = w.new.blocks in
    let seen = g.D.Disk.seen in
    let t = c.in-Some.items.now in
    let each = c.self.invariant.0.each c.args.xid t c.in-Some.ensures.value in
    rw (← c.self.view_is) (
    back_held c.args.xid b.key b'.key (seen b.disk) (seen b'.disk) b.owners.items b'.owners.items
    (λ owner p other is. w.ensures.others owner p is)
    w.ensures.key s.transactions.entries (c.get_mut.follows.lender w.new.self).entries s.bytes s.max_bytes c.self.invariant.0
    w.new.self ((c.get_mut.follows.holds w.new.self).3 (subst IsSome c.in-Some.ensures.value refl)).0
    w.ensures.kept (w.ensures.xid ∙ each.1) t c.in-Some.ensures.value w.ensures.items)
