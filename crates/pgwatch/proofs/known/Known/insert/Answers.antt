use Rattle.std.proofs.Common.{ap, ◌∙◌}
use Rattle.pgorder.proofs.Members.{from_list-inserted}
use Rattle.pgwatch.specs.Known.{with_known}
use Rattle.pgwatch.proofs.known.Known.insert.Goals as goal

pub returns-clause-ok : goal.returns-clause-ok
returns-clause-ok c = from_list-inserted c.self.inside.oids c.insert.new.self c.args.oid c.in_ok-insert.ensures.updates
    ∙ ap (with_known c.args.oid) c.self.view_is
