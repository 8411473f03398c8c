use Rattle.std.proofs.Common.{◌≤◌, ◌-◌, refl, sym, ap, subst, ◌∙◌, arith, IsTrue}
use Rattle.std.specs.Prelude.{IsSome}
use Rattle.std.specs.FinMap as map
use Rattle.pgspool.specs.Labels.{costs}
use Rattle.pgspool.proofs.HeldBy.{listed_entries, listed_there, listed_absent}
use Rattle.pgspool.proofs.OpenEntries.{one_within_all, cut_there, cut_absent}
use Rattle.pgfilespools.specs.Kept.{items_kept}
use Rattle.pgfilespools.specs.Spooled.{held_in_file}
use Rattle.pgfilespools.proofs.Spooling.{found_held, own_others, put_held, put_spooled}
use Rattle.pgfilespools.proofs.file_spools.FileSpools.shorten.Goals as goal

pub cut-requires : goal.cut-requires
cut-requires g c = (c.self.invariant.0.each c.args.xid c.in-Some.items.now c.in-Some.ensures.value).0

pub overflow_sub-self : goal.overflow_sub-self
overflow_sub-self g c =
    let s = c.self.inside in
    let file = g.D.Disk.seen s.blocks.disk in
    let all = one_within_all (held_in_file file s.transactions.entries) s.bytes s.max_bytes c.args.xid c.self.invariant.0.counted in
    let here = ap costs (found_held file s.transactions.entries c.args.xid c.in-Some.items.now c.in-Some.ensures.value) in
    let freed = c.cut.ensures.freed in
    omega arith

pub invariant_of-self : goal.invariant_of-self
invariant_of-self g c =
    let s = c.self.inside in
    let b = s.blocks in
    let b' = c.cut.new.blocks in
    let seen = g.D.Disk.seen in
    let t = c.in-Some.items.now in
    let each = c.self.invariant.0.each c.args.xid t c.in-Some.ensures.value in
    let all = one_within_all (held_in_file (seen b.disk) s.transactions.entries) s.bytes s.max_bytes c.args.xid
    c.self.invariant.0.counted in
    let within : s.bytes ≤ s.max_bytes = c.self.invariant.0.counted.within in
    let here = ap costs (found_held (seen b.disk) s.transactions.entries c.args.xid t c.in-Some.ensures.value) in
    let freed = c.cut.ensures.freed in
    let same = ap (λ d. costs (items_kept (seen d) c.cut.new.self)) c.cut.ensures.disk in (
      put_spooled c.args.xid b.key b'.key (seen b.disk) (seen b'.disk) b.owners.items b'.owners.items
          (own_others t.strand.xid c.args.xid b.key (seen b.disk) (seen b'.disk) b.owners.items b'.owners.items each.1 c.cut.ensures.others)
          c.cut.ensures.key s.transactions.entries (c.get_mut.follows.lender c.cut.new.self).entries s.bytes s.max_bytes c.self.invariant.0
          c.cut.new.self ((c.get_mut.follows.holds c.cut.new.self).3 (subst IsSome c.in-Some.ensures.value refl)).0
          c.cut.ensures.kept (c.cut.ensures.xid ∙ each.1) (s.bytes - c.cut.result) (omega arith) (omega arith),
      subst (λ d. IsTrue (g.D.Disk.is_usable d)) (sym c.cut.ensures.disk) c.self.invariant.1,
    )

pub returns-in-Some-clause-held : goal.returns-in-Some-clause-held
returns-in-Some-clause-held g c =
    let s = c.self.inside in
    let b = s.blocks in
    let b' = c.cut.new.blocks in
    let seen = g.D.Disk.seen in
    let t = c.in-Some.items.now in
    let entries = s.transactions.entries in
    let each = c.self.invariant.0.each c.args.xid t c.in-Some.ensures.value in
    rw (← c.self.view_is) (
    put_held c.args.xid b.key b'.key (seen b.disk) (seen b'.disk) b.owners.items b'.owners.items
    (own_others t.strand.xid c.args.xid b.key (seen b.disk) (seen b'.disk) b.owners.items b'.owners.items each.1 c.cut.ensures.others)
    c.cut.ensures.key entries (c.get_mut.follows.lender c.cut.new.self).entries s.bytes s.max_bytes c.self.invariant.0
    c.cut.new.self ((c.get_mut.follows.holds c.cut.new.self).3 (subst IsSome c.in-Some.ensures.value refl)).0
    c.cut.ensures.kept (c.cut.ensures.xid ∙ each.1)
    ∙ ap (map.insert (held_in_file (seen b.disk) entries) c.args.xid)
    (ap (λ d. items_kept (seen d) c.cut.new.self) c.cut.ensures.disk ∙ c.cut.ensures.held)
    ∙ cut_there (listed_entries (items_kept (seen b.disk)) entries) c.args.xid c.args.subxid (items_kept (seen b.disk) t)
    (listed_there (items_kept (seen b.disk)) entries c.args.xid t c.in-Some.ensures.value))

pub returns-in_default-clause-held : goal.returns-in_default-clause-held
returns-in_default-clause-held g c =
    let s = c.self.inside in
    let file = g.D.Disk.seen s.blocks.disk in
    rw (← c.self.view_is) (ap (λ m. held_in_file file m.entries) c.get_mut.follows.holds-at-none
    ∙ cut_absent (listed_entries (items_kept file) s.transactions.entries) c.args.xid c.args.subxid
    (listed_absent (items_kept file) s.transactions.entries c.args.xid c.in_default.ensures.value))
