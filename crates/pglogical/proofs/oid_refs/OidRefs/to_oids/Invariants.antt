use Rattle.std.proofs.Common.{◌≡◌, ◌++◌}
use Rattle.pglogical.proofs.oid_refs.OidRefs.to_oids.Given as goal

abbrev pub invariant-loop-oid : goal.invariant-loop-oid
invariant-loop-oid l = l.oids.items ++ l.oid-iterator ≡ l.self
