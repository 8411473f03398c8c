use Rattle.std.proofs.Common.{sym, ◌∙◌}
use Rattle.pgreshaping.proofs.KeptKeys.{leaves_other, leaves_own}
use Rattle.pgreshaping.proofs.keys.behind_column.Goals as goal

pub returns-then-not-column : goal.returns-then-not-column
returns-then-not-column c =
    leaves_other c.args.column.now c.args.new.now c.if-not-column.true (sym c.is_key_name.ensures ∙ c.if-is_key_name.false)

pub returns : goal.returns
returns c =
    leaves_own c.args.column.now c.args.new.now c.in_ok-rest.rest.now c.if-not-column.false c.in_ok-rest.ensures
    (sym c.is_key_name-2.ensures ∙ c.if-is_key_name-2.false)
