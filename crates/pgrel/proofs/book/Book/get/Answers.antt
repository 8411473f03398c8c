use Rattle.std.proofs.Common.{ap, sym, ◌∙◌}
use Rattle.std.specs.Prelude.{◌==◌}
use Rattle.std.specs.FinMap as map
use Rattle.std.specs.Map.{lookup}
use Rattle.pgrel.proofs.Lookups.{get_lookup, answer_found, answer_unknown, answer_named}
use Rattle.pgrel.proofs.Lookups.{answer_spellable}
use Rattle.pgrel.proofs.book.Book.get.Goals as goal

pub returns-clause-found : goal.returns-clause-found
returns-clause-found c =
    answer_found c.get.result c.ok_or.result c.args.oid (map.get c.args.self.now c.args.oid) c.ok_or.ensures.value
    (c.get.ensures.value ∙ sym (get_lookup c.self.inside.relations.entries c.args.oid)
    ∙ ap (λ known. map.get known c.args.oid) c.self.view_is)

pub returns-clause-unknown : goal.returns-clause-unknown
returns-clause-unknown c =
    answer_unknown c.get.result c.ok_or.result c.args.oid (map.get c.args.self.now c.args.oid) c.ok_or.ensures.value
    (c.get.ensures.value ∙ sym (get_lookup c.self.inside.relations.entries c.args.oid)
    ∙ ap (λ known. map.get known c.args.oid) c.self.view_is)

pub returns-clause-named : goal.returns-clause-named
returns-clause-named c =
    let entries = c.self.inside.relations.entries in
    answer_named c.ok_or.result c.args.oid entries c.self.invariant
    (answer_found c.get.result c.ok_or.result c.args.oid (lookup (λ k. c.args.oid == k) entries) c.ok_or.ensures.value c.get.ensures.value)

pub returns-clause-spellable : goal.returns-clause-spellable
returns-clause-spellable c =
    let entries = c.self.inside.relations.entries in
    answer_spellable c.ok_or.result c.args.oid entries c.self.invariant
    (answer_found c.get.result c.ok_or.result c.args.oid (lookup (λ k. c.args.oid == k) entries) c.ok_or.ensures.value c.get.ensures.value)
