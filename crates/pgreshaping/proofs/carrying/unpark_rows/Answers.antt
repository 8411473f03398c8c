use Rattle.std.proofs.Common.{subst, arith}
use Rattle.std.proofs.lemmas.Result.{err_from_is_err_and}
use Rattle.pgtables.specs.Kept.{without_row}
use Rattle.sqlite.specs.State.{HasCleanDisk}
use Rattle.pgrows.specs.Rows.{Makes, state}
use Rattle.pgencoded.proofs.Acting.{own_fault}
use Rattle.pgencoded.proofs.Formed.{own_of_read, read_refuses}
use Rattle.pgencoded.proofs.Going.{goes_then}
use Rattle.pgreshaping.proofs.CarriedOn.{carries_end, carries_fit, carries_on, carries_on_none}
use Rattle.pgreshaping.proofs.CarriedOn.{refuses_on}
use Rattle.pgreshaping.proofs.carrying.unpark_rows.Goals as goal

pub loop-init : goal.loop-init
loop-init g c = carries_on_none g.S.Store c.args.rows.now c.args.old.now c.args.def.now c.args.park c.requires.apart

pub loop-preserved : goal.loop-preserved
loop-preserved g c =
    carries_on g.S.Store c.args.rows.now c.args.old.now c.args.def.now c.args.park c.requires.apart c.loop.rows c.loop.invariant
    c.next_row.new.self c.carry_row.new.rows c.delete_row.new.self c.in-Some.ident.items c.in-Some.kept
    (λ mid. (rw c.in-Some.is at (c.in_ok-ident.ensures.found mid), c.in_ok-ident.ensures.made mid))
    (record { keeps = c.next_row.ensures.keeps; survives = c.next_row.ensures.survives })
    c.in_ok-carry_row.ensures.made c.carry_row.ensures.goes
    (λ clean. subst (λ place. Makes g.S.Store (without_row c.args.park place) c.carry_row.new.rows c.delete_row.new.self)
    c.as_slice.ensures.value (c.in_ok-_was_parked.ensures.made clean))
    (record { keeps = c.delete_row.ensures.keeps; survives = c.delete_row.ensures.survives })

pub returns-in_default-clause-made : goal.returns-in_default-clause-made
returns-in_default-clause-made g c clean =
    carries_end g.S.Store c.args.rows.now c.args.old.now c.args.def.now c.args.park c.requires.apart c.loop.rows c.loop.invariant
    c.next_row.new.self (λ mid. (rw c.in_default.is at (c.in_ok-ident.ensures.found mid), c.in_ok-ident.ensures.made mid))
    (record { keeps = c.next_row.ensures.keeps; survives = c.next_row.ensures.survives }) clean

pub returns-in_err-ident-clause-fault : goal.returns-in_err-ident-clause-fault
returns-in_err-ident-clause-fault g c clean =
    read_refuses c.from_residual-in_err-ident.result c.in_err-ident.field-0.0 c.from_residual-in_err-ident.ensures.1
    (λ fault is v entries start h kept.
    let was = c.next_row.ensures.survives.clean in
    let fit = carries_fit g.S.Store c.args.rows.now c.args.old.now c.args.def.now c.args.park c.requires.apart c.loop.rows
    c.loop.invariant (omega (arith, was)) v entries start h kept in
    own_fault fault _ (own_of_read _ fault (c.in_err-ident.ensures.formed clean fit) is))

pub returns-in_err-carry_row-clause-fault : goal.returns-in_err-carry_row-clause-fault
returns-in_err-carry_row-clause-fault g c clean =
    let p = err_from_is_err_and c.from_residual-in_err-carry_row.result c.from_residual-in_err-carry_row.ensures.1 in
    let goes = c.carry_row.ensures.goes in
    let mid : HasCleanDisk (state g.S.Store c.next_row.new.self) = omega (arith, goes.survives.clean) in
    rw (p.1, p.2) (refuses_on g.S.Store c.args.rows.now c.args.old.now c.args.def.now c.args.park c.requires.apart c.loop.rows
    c.loop.invariant c.next_row.new.self c.in-Some.ident.items c.in-Some.kept _ mid
    (rw c.in-Some.is at (c.in_ok-ident.ensures.found mid), c.in_ok-ident.ensures.made mid)
    (record { keeps = c.next_row.ensures.keeps; survives = c.next_row.ensures.survives }) (c.in_err-carry_row.ensures.fault clean))

pub returns-in_default-clause-goes : goal.returns-in_default-clause-goes
returns-in_default-clause-goes g c =
    goes_then g.S.Store c.args.rows.now c.loop.rows c.next_row.new.self c.loop.invariant.goes c.next_row.ensures.keeps
    c.next_row.ensures.survives
