use Rattle.std.proofs.Common.{◌<◌, ℕ, IfErr, subst, sym}
use Rattle.pgload.specs.Loading.{HasCome, IsBadEnd, most_parts}
use Rattle.pgload.proofs.Parts.{no_table, at_end, bad_end}
use Rattle.pgload.proofs.load.Load.end.Goals as goal

pub returns-clause-fault : goal.returns-clause-fault
returns-clause-fault g c come has =
    let s = g.C.ReplicaStore in
    let max_line = c.args.self.now.limits.max_line in
    let here = subst (λ opened. HasCome s.holds s.place s.reopens s.serves s.is_honest max_line come c.args.self.now.store opened
    c.args.self.now.closed)
    (no_table c.args.self.now.table c.if-is_some.ensures) has in
    let above = subst (λ (p : ℕ). most_parts < p) c.point.view_is c.if-point-le-MOST_PARTS.false in
    subst (λ r. IfErr r (IsBadEnd s.holds s.place s.reopens s.serves s.is_honest max_line come c.args.point c.close-in-Err.new.self.store))
    (sym c.close-in-Err.ensures.fault)
    (subst (λ it. IsBadEnd s.holds s.place s.reopens s.serves s.is_honest max_line come c.args.point it c.from.result) (sym
    c.close-in-Err.ensures.store)
    (subst (λ it. IsBadEnd s.holds s.place s.reopens s.serves s.is_honest max_line come c.args.point c.take.new.self it) (sym
    c.from.ensures)
    (bad_end s.holds s.place s.reopens s.serves s.is_honest max_line come c.args.self.now.closed c.args.point c.args.self.now.store
    c.take.new.self c.new-nothing.result.changes
    c.new-nothing.ensures.changes here above c.in-Err.ensures.served c.in-Err.ensures.honest c.in-Err.ensures.crash c.in-Err.fault
    c.in-Err.ensures.fault c.in-Err.ensures.position)))

pub returns-in-Ok-clause-ended : goal.returns-in-Ok-clause-ended
returns-in-Ok-clause-ended g c come has =
    let s = g.C.ReplicaStore in
    let max_line = c.args.self.now.limits.max_line in
    let here = subst (λ opened. HasCome s.holds s.place s.reopens s.serves s.is_honest max_line come c.args.self.now.store opened
    c.args.self.now.closed)
    (no_table c.args.self.now.table c.if-is_some.ensures) has in
    let above = subst (λ (p : ℕ). most_parts < p) c.point.view_is c.if-point-le-MOST_PARTS.false in
    at_end s.holds s.place s.reopens s.serves s.is_honest max_line come c.args.self.now.closed c.args.point c.args.self.now.store
    c.take.new.self c.new-nothing.result.changes
    c.new-nothing.ensures.changes here above c.in-Ok.ensures.served c.in-Ok.ensures.honest c.in-Ok.ensures.crash
    c.in-Ok.ensures.taken c.in-Ok.ensures.end c.in-Ok.ensures.open
