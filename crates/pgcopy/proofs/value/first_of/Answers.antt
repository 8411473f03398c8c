use Rattle.std.proofs.Common.{sym, ◌∙◌}
use Rattle.pgcopy.proofs.Plain.{value_first_nil, value_first_return, value_first_plain}
use Rattle.pgcopy.proofs.Plain.{value_first_cut, value_first_sequence}
use Rattle.pgcopy.proofs.value.first_of.Goals as goal

pub returns-in_default-clause-first : goal.returns-in_default-clause-first
returns-in_default-clause-first c = value_first_nil c.args.field.now c.in_default.ensures.cases

pub returns-then-byte-eq13-clause-fault : goal.returns-then-byte-eq13-clause-fault
returns-then-byte-eq13-clause-fault c =
    value_first_return c.args.field.now c.in-Some.behind.now c.in-Some.byte.now c.in-Some.ensures.cases.0 c.if-byte-eq13.true

pub returns-then-byte-ne-BACKSLASH-clause-first : goal.returns-then-byte-ne-BACKSLASH-clause-first
returns-then-byte-ne-BACKSLASH-clause-first c =
    value_first_plain c.args.field.now c.in-Some.behind.now c.in-Some.byte.now c.in-Some.ensures.cases.0 c.if-byte-eq13.false
    c.if-byte-ne-BACKSLASH.true

pub returns-then-is_empty-clause-fault : goal.returns-then-is_empty-clause-fault
returns-then-is_empty-clause-fault c =
    value_first_cut c.args.field.now c.in-Some.behind.now c.in-Some.byte.now c.in-Some.ensures.cases.0 c.if-byte-ne-BACKSLASH.false
    (sym c.is_empty.ensures ∙ c.if-is_empty.true)

pub returns-clause-first : goal.returns-clause-first
returns-clause-first c =
    value_first_sequence c.args.field.now c.in-Some.behind.now c.split_at.result.1.now c.in-Some.byte.now c.sequence-meant.result
    c.in-Some.ensures.cases.0 c.if-byte-ne-BACKSLASH.false (sym c.is_empty.ensures ∙ c.if-is_empty.false) c.sequence-meant.ensures.value
    c.split_at.ensures.back
