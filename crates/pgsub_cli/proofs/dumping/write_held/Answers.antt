use Rattle.pgsub_core.specs.Machine.Faults.{IsReadFault}
use Rattle.pgsub_cli.proofs.LineSteps.{ends_for, held_printed}
use Rattle.pgsub_cli.proofs.dumping.write_held.Goals as goal

pub returns-clause-prints : goal.returns-clause-prints
returns-clause-prints g c honest =
    let it = g.C.ReplicaStore in
    let old = c.args.store.now in
    let mid = c.confirm.new.store in
    let written = c.write_rows-printed in
    let new = written.new.store in
    let own = written.ensures.honest honest in
    held_printed g.W.Output.takes g.W.Output.failed it.holds it.place it.serves old mid new c.args.out written.result.1 c.args.stopped
    (c.in_default.ensures.open own) c.confirm.ensures.served c.confirm.ensures.unchanged c.confirm.ensures.place written.result.0
    (written.ensures.open honest) written.ensures.unchanged written.ensures.place
    (ends_for (λ f. it.is_honest new → IsReadFault f) IsReadFault (λ f read. read honest) written.result.0 written.ensures.ends)
    (written.ensures.dumps honest) c.ended_after.result c.ended_after.ensures
