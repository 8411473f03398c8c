-- Where memory runs out before the first frame no line is shown.
use Rattle.std.proofs.Common.{List, [], ℕ, refl, sym, append-nil}
use Rattle.std.specs.Prelude.{Some, Err}
use Rattle.pgorder.specs.declared.Version.{Version}
use Rattle.pgshow.specs.declared.fault.Fault.TheVariants.{Memory}
use Rattle.pgshow.specs.Shown.{IsShownAs}
use Rattle.pgembed.specs.Shown.{Shows}

nothing_shown : (version : Version) (session : List ℕ) → IsShownAs version 16777216 session [] (Some Memory)
nothing_shown version session = record {
  said = [];
  rest = session;
  begins = record { whole = refl; each = tt; fits = tt; shape = record { pieces = []; rest = []; follow = tt; front = refl } };
  lines = refl;
  ends = tt;
}

pub shows_nothing : (version : Version) (session old : List ℕ) → Shows version session old old (Err Memory)
shows_nothing version session old = ([], sym (append-nil old), nothing_shown version session)
