use Rattle.std.proofs.Common.{ap, sym, ◌∙◌, subst}
use Rattle.std.specs.FinMap as map
use Rattle.pgrel.specs.Known.{AreDefinitions}
use Rattle.pgrel.proofs.Lookups.{insert_lookup, insert_definition, get_lookup, refused}
use Rattle.pgrel.proofs.book.Book.set.Goals as goal

pub invariant_of-self-2 : goal.invariant_of-self-2
invariant_of-self-2 c = subst AreDefinitions (sym c.in_ok-insert.ensures.entries)
    (insert_definition c.self.inside.relations.entries c.args.def c.self.invariant c.requires)

pub returns-clause-ok : goal.returns-clause-ok
returns-clause-ok c =
    insert_lookup c.self.inside.relations.entries c.insert.new.self.entries c.args.def.oid c.args.def c.in_ok-insert.ensures.updates.0
    ∙ ap (λ known. map.insert known c.args.def.oid c.args.def) c.self.view_is

pub returns-in_err-insert-clause-absent : goal.returns-in_err-insert-clause-absent
returns-in_err-insert-clause-absent c =
    refused c.from_residual.result
    (ap (λ known. map.get known c.args.def.oid) (sym c.self.view_is) ∙ get_lookup c.self.inside.relations.entries c.args.def.oid
    ∙ c.in_err-insert.ensures.absent)
