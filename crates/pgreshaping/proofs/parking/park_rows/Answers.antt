use Rattle.std.proofs.Common.{subst, arith}
use Rattle.pgrows.specs.Rows.{Makes}
use Rattle.pgencoded.proofs.Formed.{own_of_read, read_refuses}
use Rattle.pgencoded.proofs.Going.{goes_then}
use Rattle.pgreshaping.specs.Parks.{parked_row}
use Rattle.pgreshaping.proofs.Parked.{parks_end, parks_fit, parks_on, parks_on_none}
use Rattle.pgreshaping.proofs.parking.park_rows.Goals as goal

pub loop-init : goal.loop-init
loop-init g c = parks_on_none g.S.Store c.args.rows.now c.args.oid c.args.park c.requires

pub loop-preserved : goal.loop-preserved
loop-preserved g c =
    parks_on g.S.Store c.args.rows.now c.args.oid c.args.park c.requires c.loop.rows c.loop.invariant c.next_row.new.self
    c.park_row.new.rows c.in-Some.ident.items c.in-Some.kept
    (λ mid. (rw c.in-Some.is at (c.in_ok-ident.ensures.found mid), c.in_ok-ident.ensures.made mid))
    (record { keeps = c.next_row.ensures.keeps; survives = c.next_row.ensures.survives })
    (λ clean. subst (λ place. Makes g.S.Store (parked_row c.args.oid c.args.park place c.in-Some.kept) c.next_row.new.self
    c.park_row.new.rows) c.as_slice.ensures.value (c.in_ok-park_row.ensures.made clean))
    c.park_row.ensures.goes

pub returns-in_default-clause-made : goal.returns-in_default-clause-made
returns-in_default-clause-made g c clean =
    parks_end g.S.Store c.args.rows.now c.args.oid c.args.park c.requires c.loop.rows c.loop.invariant c.next_row.new.self
    (λ mid. (rw c.in_default.is at (c.in_ok-ident.ensures.found mid), c.in_ok-ident.ensures.made mid))
    (record { keeps = c.next_row.ensures.keeps; survives = c.next_row.ensures.survives }) clean

pub returns-in_err-ident-clause-fault : goal.returns-in_err-ident-clause-fault
returns-in_err-ident-clause-fault g c clean =
    read_refuses c.from_residual.result c.in_err-ident.field-0.0 c.from_residual.ensures.1
    (λ fault is free fit.
    let was = c.next_row.ensures.survives.clean in
    own_of_read _ fault (c.in_err-ident.ensures.formed clean
    (parks_fit g.S.Store c.args.rows.now c.args.oid c.args.park c.requires c.loop.rows c.loop.invariant (omega (arith, was)) free fit)) is)

pub returns-in_default-clause-goes : goal.returns-in_default-clause-goes
returns-in_default-clause-goes g c =
    goes_then g.S.Store c.args.rows.now c.loop.rows c.next_row.new.self c.loop.invariant.goes c.next_row.ensures.keeps
    c.next_row.ensures.survives
