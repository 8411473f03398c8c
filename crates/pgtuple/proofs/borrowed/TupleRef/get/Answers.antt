use Rattle.std.proofs.lemmas.Iterator.Consumers.{nth_from_yields_List, YieldsList-from_first}
use Rattle.pgtuple.specs.Borrowed.{cell_value}
use Rattle.pgtuple.proofs.borrowed.TupleRef.get.Goals as goal

pub returns-in-Spelled : goal.returns-in-Spelled
returns-in-Spelled c =
    nth_from_yields_List c.nth.result c.nth.new.self c.args.k c.nth.ensures.ran
    (YieldsList-from_first cell_value (λ cells. cells) c.args.self.now c.cells.ensures.cells)
