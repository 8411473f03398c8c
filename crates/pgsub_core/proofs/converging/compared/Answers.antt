use Rattle.std.proofs.Common.{rules, refl, sym, ◌∙◌}
use Rattle.std.proofs.lemmas.Bool.{true≢false}
use Rattle.pgsub_core.proofs.Comparing.{same_rows-Decides}
use Rattle.pgsub_core.proofs.converging.compared.Goals as goal

pub returns-then-same_rows : goal.returns-then-same_rows
returns-then-same_rows c =
    (refl, search rules, (same_rows-Decides c.args.rows.now c.args.others.now c.same_rows.result c.same_rows.ensures).0 c.if-same_rows.true)

pub returns-else-same_rows : goal.returns-else-same_rows
returns-else-same_rows c = (
  refl,
  search rules,
  λ e.
      true≢false (sym ((same_rows-Decides c.args.rows.now c.args.others.now c.same_rows.result c.same_rows.ensures).1 e)
      ∙ c.if-same_rows.false),
)
