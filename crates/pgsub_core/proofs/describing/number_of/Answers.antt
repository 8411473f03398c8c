use Rattle.std.proofs.Common.{Some, sym, ap, ◌∙◌}
use Rattle.std.specs.Prelude.{nat_eq}
use Rattle.indexmap.specs.IndexMap.{get}
use Rattle.pgsub_core.proofs.DescribedChanges.{numbered_then}
use Rattle.pgsub_core.proofs.describing.number_of.Goals as goal

pub returns-clause-numbers : goal.returns-clause-numbers
returns-clause-numbers c =
    let ok = c.in_ok-number.ensures.ok in
    let same = c.in_ok-copy.ensures.same in
    rw ok.definitions
    (numbered_then c.args.book.now c.args.draft.now.work.definitions (get nat_eq c.args.draft.now.numbers) (get nat_eq c.insert.new.self)
    c.args.oid c.in_ok-number.number c.in_ok-copy.copy c.requires
    (c.in_ok-def.ensures.found ∙ ap Some (sym same)) ok.number_is c.in_ok-insert.ensures.updates.0)
