use Rattle.std.proofs.Common.{refl}
use Rattle.pgadding.proofs.WorkedRepair as worked
use Rattle.pgadding.proofs.laws.repairs_are_passed_on.Goals as goal

pub returns : goal.returns
returns c = record {
  comes = refl;
  replaced = refl;
  goes = refl;
  more = refl;
  some = refl;
  all = refl;
  keepalive = refl;
  begin = refl;
  not_yet = refl;
  no_more = refl;
  work = refl;
  example = worked.is_example;
}
