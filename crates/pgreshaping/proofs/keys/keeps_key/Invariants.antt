use Rattle.std.proofs.Common.{drop}
use Rattle.pgreshaping.specs.Rewrites.{KeepsKey}
use Rattle.pgreshaping.proofs.keys.keeps_key.Given as goal

abbrev pub invariant-loop-column : goal.invariant-loop-column
invariant-loop-column l = KeepsKey (drop l.column-index l.old) l.left → KeepsKey l.old l.new
