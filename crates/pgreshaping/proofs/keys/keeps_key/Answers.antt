use Rattle.std.proofs.Common.{◌≡◌, length, sym, subst, ◌∙◌, arith}
use Rattle.std.proofs.lemmas.Bool.{not-true}
use Rattle.pgreshaping.specs.Rewrites.{KeepsKey}
use Rattle.pgrel.proofs.Loops.{drop_all}
use Rattle.pgreshaping.proofs.KeptKeys.{keeps_none}
use Rattle.pgreshaping.proofs.keys.keeps_key.Goals as goal

pub returns : goal.returns
returns c none =
    let old = c.args.old.now in
    let all : length old ≡ c.loop-column.column-index = omega (arith, c.loop-column-test.false, c.loop-column.auto.column-index-end) in
    c.loop-column.invariant (subst (λ cs. KeepsKey cs c.loop-column.left.now) (sym (drop_all old c.loop-column.column-index all))
    (keeps_none c.loop-column.left.now (sym c.has_key_column.ensures ∙ not-true _ none)))
