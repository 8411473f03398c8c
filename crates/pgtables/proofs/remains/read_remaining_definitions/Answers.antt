use Rattle.sqlite.specs.Held.{state}
use Rattle.pgtables.proofs.FoundDefinitions.{none_found}
use Rattle.pgtables.proofs.remains.read_remaining_definitions.Goals as goal

pub returns-else-left-clause-found : goal.returns-else-left-clause-found
returns-else-left-clause-found g c clean =
    none_found c.args.left (state g.S.Store c.args.conn.now).now.trees _ c.if-left.false c.new.ensures.items
