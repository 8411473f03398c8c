use Rattle.std.proofs.Common.{◌≡◌}
use Rattle.pgwatch.specs.Hearing.{first_unknown}
use Rattle.pgwatch.proofs.watch.first_unknown.Given as goal

abbrev pub invariant-loop-oid : goal.invariant-loop-oid
invariant-loop-oid l = first_unknown l.known l.oid-iterator ≡ first_unknown l.known l.oids
