use Rattle.std.proofs.Common.{refl}
use Rattle.pgadding.proofs.Worked as worked
use Rattle.pgadding.proofs.laws.sessions_are_passed_on.Goals as goal

pub returns : goal.returns
returns c = record {
  keepalive = refl;
  begin = refl;
  not_yet = refl;
  no_more = refl;
  later = refl;
  meanwhile = (refl, refl);
  seen = refl;
  example = worked.is_example;
}
