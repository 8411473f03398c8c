use Rattle.std.proofs.Common.{◌≡◌, ◌≤◌, sym, ap, subst, length, ◌∙◌, arith}
use Rattle.std.specs.Prelude.{IfOk, slice_range}
use Rattle.pgfilespools.proofs.Keeping.{count_is}
use Rattle.pgfilespools.proofs.Spooling.{found_held, absent_held}
use Rattle.pgfilespools.proofs.file_spools.FileSpools.read_part.Goals as goal

pub load_part-requires-clause-kept : goal.load_part-requires-clause-kept
load_part-requires-clause-kept g c = (c.self.invariant.0.each c.args.xid c.in-Some.items.now c.in-Some.ensures.value).0

pub returns-in-Some-clause-read : goal.returns-in-Some-clause-read
returns-in-Some-clause-read g c =
    let s = c.self.inside in
    let file = g.D.Disk.seen s.blocks.disk in
    rw (← c.self.view_is) (λ clean.
    subst (λ held. IfOk c.load_part.result (λ it. it.0 ≡ slice_range held c.args.from it.1))
    (sym (found_held file s.transactions.entries c.args.xid c.in-Some.items.now c.in-Some.ensures.value))
    (c.load_part.ensures.read clean))

pub returns-in-Some-clause-within : goal.returns-in-Some-clause-within
returns-in-Some-clause-within g c =
    let s = c.self.inside in
    let file = g.D.Disk.seen s.blocks.disk in
    let t = c.in-Some.items.now in
    rw (← c.self.view_is) (
    subst (λ n. IfOk c.load_part.result (λ it. it.1 ≤ n))
    (count_is s.blocks.key file s.blocks.owners.items t (c.self.invariant.0.each c.args.xid t c.in-Some.ensures.value).0
    ∙ ap length (sym (found_held file s.transactions.entries c.args.xid t c.in-Some.ensures.value)))
    c.load_part.ensures.within)

pub returns-in-Some-clause-some : goal.returns-in-Some-clause-some
returns-in-Some-clause-some g c =
    let s = c.self.inside in
    let file = g.D.Disk.seen s.blocks.disk in
    let t = c.in-Some.items.now in
    let count = count_is s.blocks.key file s.blocks.owners.items t
    (c.self.invariant.0.each c.args.xid t c.in-Some.ensures.value).0
    ∙ ap length (sym (found_held file s.transactions.entries c.args.xid t c.in-Some.ensures.value)) in
    rw (← c.self.view_is) (λ below. c.load_part.ensures.some (omega (arith, count, below)))

pub returns-in-None-clause-some : goal.returns-in-None-clause-some
returns-in-None-clause-some g c =
    let s = c.self.inside in
    let none = ap length (absent_held (g.D.Disk.seen s.blocks.disk) s.transactions.entries c.args.xid c.in-None.ensures.value) in
    rw (← c.self.view_is) (λ below. absurd (omega (arith, none, below)))
