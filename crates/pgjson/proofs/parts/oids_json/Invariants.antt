use Rattle.std.proofs.Common.{◌≡◌, ◌++◌, map}
use Rattle.serde_json.specs.View.{view}
use Rattle.pgjson.specs.Messages.{natural}
use Rattle.pgjson.proofs.parts.oids_json.Given as goal

abbrev pub invariant-loop-oid : goal.invariant-loop-oid
invariant-loop-oid l = map view l.values.items ++ map natural l.oid-iterator ≡ map natural l.oids
