use Rattle.std.proofs.Common.{refl}
use Rattle.pgrepeats.proofs.past.Past.forget_first.Goals as goal

pub returns : goal.returns
returns c = record {
  end = c.in-Some.end;
  noted = _;
  was = c.in-Some.ensures.value;
  least = c.in-Some.ensures.least;
  goes = c.in-Some.ensures.updates;
  fewer = c.in-Some.ensures.fewer;
  since = refl;
  newest = refl;
  changed = refl;
  limit = refl;
}
