use Rattle.std.proofs.Common.{arith}
use Rattle.pglogical.proofs.Oids.{oids_none, oids_some}
use Rattle.pglogical.proofs.oid_refs.first_of.Goals as goal

pub returns-in-None : goal.returns-in-None
returns-in-None c = oids_none c.args.bytes.now c.in-None.ensures.cases

pub returns-in-Some : goal.returns-in-Some
returns-in-Some c =
    let cases = c.in-Some.ensures.cases in
    rw c.from_be_bytes.ensures (oids_some c.args.bytes.now c.in-Some.first.now c.in-Some.others.now (omega arith) cases.0 cases.1)
