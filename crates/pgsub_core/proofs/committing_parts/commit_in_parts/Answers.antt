use Rattle.pgspool.specs.Labels.{items_of, held_of}
use Rattle.pgsub_core.proofs.StagedParts.{commits_noted}
use Rattle.pgsub_core.proofs.committing_parts.commit_in_parts.Goals as goal

pub returns-clause-taken : goal.returns-clause-taken
returns-clause-taken g c serves =
    let it = g.C.ReplicaStore in
    let e = c.take_parts-taken.ensures in
    let noted = c.note_beside.ensures in
    commits_noted it.stages it.reach c.args.ending.end (items_of (held_of (g.P.Spools.held c.args.spools.now) c.args.ending.xid))
    c.args.store.now c.take_parts-taken.new.store c.note_beside.new.store c.args.confirmed c.args.book.now c.take_parts-taken.new.book
    noted.beside.staged noted.beside.reach_is c.take_parts-taken.result (e.taken (noted.noted serves) (noted.beside.served serves))
