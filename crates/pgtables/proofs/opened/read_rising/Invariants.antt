use Rattle.std.proofs.Common.{take}
use Rattle.pgtables.specs.Opened.{AreDefinitionsRead}
use Rattle.pgtables.proofs.FoundDefinitions.{AreUpTo}
use Rattle.pgtables.proofs.opened.read_rising.Given as goal

abbrev pub invariant-loop-row : goal.invariant-loop-row
invariant-loop-row l = AreDefinitionsRead (take l.row-index l.rows) l.all.items × AreUpTo l.last l.all.items
