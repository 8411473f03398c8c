use Rattle.std.proofs.Common.{◌≤◌, refl, ap, ◌∙◌, arith}
use Rattle.std.specs.FinMap as map
use Rattle.pgspool.specs.Labels.{costs}
use Rattle.pgspool.proofs.OpenEntries.{held_closed}
use Rattle.pgfilespools.specs.Spooled.{held_in_file}
use Rattle.pgfilespools.proofs.Spooling.{all_stay, put_held, put_spooled}
use Rattle.pgfilespools.proofs.file_spools.FileSpools.open.Goals as goal

pub invariant_of-self-2 : goal.invariant_of-self-2
invariant_of-self-2 g c =
    let s = c.self.inside in
    let b = s.blocks in
    let file = g.D.Disk.seen b.disk in
    let t = c.new-items.result in
    let before = ap costs (held_closed (held_in_file file s.transactions.entries) c.args.xid
    (ap (λ v. map.contains_key v.held c.args.xid) c.self.view_is ∙ c.requires)) in
    let after = ap costs (c.new-items.ensures.empty file) in
    let within : s.bytes ≤ s.max_bytes = c.self.invariant.0.counted.within in (
      put_spooled c.args.xid b.key b.key file file b.owners.items b.owners.items (all_stay c.args.xid b.key file b.owners.items)
          refl s.transactions.entries c.insert.new.self.entries s.bytes s.max_bytes c.self.invariant.0 t c.in_ok-insert.ensures.updates.0
          (c.new-items.ensures.kept b.key file b.owners.items) c.new-items.ensures.xid s.bytes (omega arith) within,
      c.self.invariant.1,
    )

pub returns-clause-ok : goal.returns-clause-ok
returns-clause-ok g c =
    let s = c.self.inside in
    let b = s.blocks in
    let file = g.D.Disk.seen b.disk in
    let t = c.new-items.result in
    rw (← c.self.view_is) (
    put_held c.args.xid b.key b.key file file b.owners.items b.owners.items (all_stay c.args.xid b.key file b.owners.items)
    refl s.transactions.entries c.insert.new.self.entries s.bytes s.max_bytes c.self.invariant.0 t c.in_ok-insert.ensures.updates.0
    (c.new-items.ensures.kept b.key file b.owners.items) c.new-items.ensures.xid
    ∙ ap (map.insert (held_in_file file s.transactions.entries) c.args.xid) (c.new-items.ensures.empty file))
