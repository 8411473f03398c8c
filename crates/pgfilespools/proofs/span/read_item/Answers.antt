use Rattle.std.proofs.Common.{ap, sym, ◌∙◌}
use Rattle.pgspool.specs.Marks.{item_at_all}
use Rattle.pglogical.specs.Borrowed.{message_value}
use Rattle.pgfilespools.proofs.Spanning.{spellable_part}
use Rattle.pgfilespools.proofs.span.read_item.Goals as goal

pub returns-in-Ok-clause-value : goal.returns-in-Ok-clause-value
returns-in-Ok-clause-value c = c.item_of.ensures ∙ sym (ap item_at_all c.in-Ok.ensures.exact)

pub returns-in-Err-clause-value : goal.returns-in-Err-clause-value
returns-in-Err-clause-value c = sym (ap item_at_all c.in-Err.ensures.exact)

pub returns-in-Ok-clause-spellable : goal.returns-in-Ok-clause-spellable
returns-in-Ok-clause-spellable c =
    spellable_part (message_value c.in-Ok.message) c.args.bytes.now c.item_of.result c.in-Ok.ensures.found c.item_of.ensures
