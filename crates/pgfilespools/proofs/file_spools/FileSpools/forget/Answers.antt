use Rattle.std.proofs.Common.{◌-◌, sym, ap, subst, arith, IsTrue}
use Rattle.pgspool.specs.Labels.{costs}
use Rattle.pgspool.proofs.HeldBy.{held_by-taken}
use Rattle.pgspool.proofs.OpenEntries.{one_within_all}
use Rattle.pgfilespools.specs.Kept.{items_kept}
use Rattle.pgfilespools.specs.Spooled.{held_in_file}
use Rattle.pgfilespools.proofs.Spooling.{found_held, own_others, taken_held, taken_spooled}
use Rattle.pgfilespools.proofs.file_spools.FileSpools.forget.Goals as goal

pub overflow_sub-self : goal.overflow_sub-self
overflow_sub-self g c =
    let s = c.self.inside in
    let file = g.D.Disk.seen s.blocks.disk in
    let each = c.self.invariant.0.each c.args.xid c.in-Some.items c.in-Some.ensures.value in
    let all = one_within_all (held_in_file file s.transactions.entries) s.bytes s.max_bytes c.args.xid c.self.invariant.0.counted in
    let here = ap costs (found_held file s.transactions.entries c.args.xid c.in-Some.items c.in-Some.ensures.value) in
    let counted = each.0.stored.index.counted in
    let is = c.bytes.ensures in
    omega arith

pub free-requires : goal.free-requires
free-requires g c = (c.self.invariant.0.each c.args.xid c.in-Some.items c.in-Some.ensures.value).0

pub invariant_of-self : goal.invariant_of-self
invariant_of-self g c =
    let s = c.self.inside in
    let b = s.blocks in
    let b' = c.free.new.blocks in
    let seen = g.D.Disk.seen in
    let t = c.in-Some.items in
    let each = c.self.invariant.0.each c.args.xid t c.in-Some.ensures.value in
    let all = one_within_all (held_in_file (seen b.disk) s.transactions.entries) s.bytes s.max_bytes c.args.xid
    c.self.invariant.0.counted in
    let here = ap costs (found_held (seen b.disk) s.transactions.entries c.args.xid t c.in-Some.ensures.value) in
    let counted = each.0.stored.index.counted in
    let is = c.bytes.ensures in (
      taken_spooled c.args.xid b.key b'.key (seen b.disk) (seen b'.disk) b.owners.items b'.owners.items
          (own_others t.strand.xid c.args.xid b.key (seen b.disk) (seen b'.disk) b.owners.items b'.owners.items each.1
          c.free.ensures.others)
          c.free.ensures.key s.transactions.entries c.swap_remove.new.self.entries s.bytes s.max_bytes c.self.invariant.0
          c.swap_remove.ensures.updates.0 (s.bytes - c.bytes.result) (omega arith),
      subst (λ d. IsTrue (g.D.Disk.is_usable d)) (sym c.free.ensures.disk) c.self.invariant.1,
    )

pub returns-in-Some-clause-held : goal.returns-in-Some-clause-held
returns-in-Some-clause-held g c =
    let s = c.self.inside in
    let b = s.blocks in
    let b' = c.free.new.blocks in
    let seen = g.D.Disk.seen in
    let t = c.in-Some.items in
    let each = c.self.invariant.0.each c.args.xid t c.in-Some.ensures.value in
    rw (← c.self.view_is) (
    taken_held c.args.xid b.key b'.key (seen b.disk) (seen b'.disk) b.owners.items b'.owners.items
    (own_others t.strand.xid c.args.xid b.key (seen b.disk) (seen b'.disk) b.owners.items b'.owners.items each.1 c.free.ensures.others)
    c.free.ensures.key s.transactions.entries c.swap_remove.new.self.entries s.bytes s.max_bytes c.self.invariant.0
    c.swap_remove.ensures.updates.0)

pub returns-in_default-clause-held : goal.returns-in_default-clause-held
returns-in_default-clause-held g c =
    let s = c.self.inside in
    rw (← c.self.view_is) (held_by-taken (items_kept (g.D.Disk.seen s.blocks.disk)) s.transactions.entries c.swap_remove.new.self.entries
    c.args.xid c.swap_remove.ensures.updates.0)
