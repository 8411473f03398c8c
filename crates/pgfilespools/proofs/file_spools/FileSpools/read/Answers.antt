use Rattle.std.proofs.Common.{sym, ap, length, ◌∙◌}
use Rattle.pgfilespools.specs.Kept.{items_kept}
use Rattle.pgfilespools.proofs.Keeping.{count_is}
use Rattle.pgfilespools.proofs.Spooling.{found_held, absent_held, read_same, read_all}
use Rattle.pgfilespools.proofs.file_spools.FileSpools.read.Goals as goal

pub load-requires-clause-kept : goal.load-requires-clause-kept
load-requires-clause-kept g c = (c.self.invariant.0.each c.args.xid c.in-Some.items.now c.in-Some.ensures.value).0

pub returns-in-Some-clause-read : goal.returns-in-Some-clause-read
returns-in-Some-clause-read g c =
    let s = c.self.inside in
    let file = g.D.Disk.seen s.blocks.disk in
    let t = c.in-Some.items.now in
    rw (← c.self.view_is) (λ clean. read_same c.load.result (items_kept file t) _
    (sym (found_held file s.transactions.entries c.args.xid t c.in-Some.ensures.value)) (c.load.ensures.read clean))

pub returns-in-Some-clause-all : goal.returns-in-Some-clause-all
returns-in-Some-clause-all g c =
    let s = c.self.inside in
    let file = g.D.Disk.seen s.blocks.disk in
    let t = c.in-Some.items.now in
    rw (← c.self.view_is) (read_all c.load.result t.count _
    (count_is s.blocks.key file s.blocks.owners.items t (c.self.invariant.0.each c.args.xid t c.in-Some.ensures.value).0
    ∙ ap length (sym (found_held file s.transactions.entries c.args.xid t c.in-Some.ensures.value))) c.load.ensures.count)

pub returns-in-None-clause-read : goal.returns-in-None-clause-read
returns-in-None-clause-read g c =
    let s = c.self.inside in
    rw (← c.self.view_is) (λ clean. c.new.ensures
    ∙ sym (absent_held (g.D.Disk.seen s.blocks.disk) s.transactions.entries c.args.xid c.in-None.ensures.value))

pub returns-in-None-clause-all : goal.returns-in-None-clause-all
returns-in-None-clause-all g c =
    let s = c.self.inside in
    rw (← c.self.view_is) (ap length (c.new.ensures
    ∙ sym (absent_held (g.D.Disk.seen s.blocks.disk) s.transactions.entries c.args.xid c.in-None.ensures.value)))
