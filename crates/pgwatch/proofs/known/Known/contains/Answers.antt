use Rattle.std.proofs.Common.{sym, ap, ◌∙◌}
use Rattle.std.specs.Cmp.{nat_cmp_total}
use Rattle.std.specs.FinSet.{contains-from_list}
use Rattle.pgwatch.specs.Known.{is_known}
use Rattle.pgwatch.proofs.known.Known.contains.Goals as goal

pub returns : goal.returns
returns c = c.contains.ensures ∙ sym (contains-from_list nat_cmp_total _ c.args.oid) ∙ ap (is_known c.args.oid) c.self.view_is
