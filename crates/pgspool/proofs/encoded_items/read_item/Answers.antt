use Rattle.std.proofs.Common.{ap, sym, ◌∙◌}
use Rattle.pgspool.specs.Marks.{item_at_all}
use Rattle.pgspool.proofs.encoded_items.read_item.Goals as goal

pub returns-in-Ok : goal.returns-in-Ok
returns-in-Ok c = c.item_of.ensures ∙ sym (ap item_at_all c.in-Ok.ensures.exact)

pub returns-in-Err : goal.returns-in-Err
returns-in-Err c = sym (ap item_at_all c.in-Err.ensures.exact)
