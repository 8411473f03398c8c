use Rattle.std.proofs.Common.{List, subst, sym}
use Rattle.pglogical.specs.declared.message.Column.{Column}
use Rattle.pglogical.specs.Typed.{AreTypedColumns}
use Rattle.pglogical.proofs.message_ref.show_columns.Goals as goal

pub loop-each-preserved : goal.loop-each-preserved
loop-each-preserved c = λ others.
    c.loop-each.invariant (subst (λ (l : List Column). AreTypedColumns l) (sym c.in-Some.ensures.steps) (c.show_column.ensures, others))

pub returns : goal.returns
returns c = c.loop-each.invariant (subst (λ (l : List Column). AreTypedColumns l) (sym c.in-None.ensures.steps.0) tt)
