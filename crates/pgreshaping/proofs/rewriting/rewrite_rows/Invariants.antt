use Rattle.pgreshaping.specs.Rewrites.{RewritesOn}
use Rattle.pgreshaping.proofs.rewriting.rewrite_rows.Given as goal

abbrev pub invariant-loop : goal.invariant-loop
invariant-loop g l = RewritesOn g.S.Store l.fn.rows l.rows l.old l.def l.from.items
