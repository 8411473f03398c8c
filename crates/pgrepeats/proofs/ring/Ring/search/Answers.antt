use Rattle.std.proofs.Common.{rules, subst}
use Rattle.std.specs.List.Sorted.{IsSearchInRange}
use Rattle.std.proofs.lemmas.List.Sorted.{answers_always}
use Rattle.pgrepeats.proofs.Rings.{searched}
use Rattle.pgrepeats.proofs.ring.Ring.search.Goals as goal

-- the closure gives where a commit ends
pub returns-clause-found : goal.returns-clause-found
returns-clause-found c =
    let facts = c.binary_search_by_key.ensures in
    let by_key = facts.position (λ e. e.0) (answers_always _ _ _ (λ f a r g called. search rules)) in
    let bound = subst (IsSearchInRange c.binary_search_by_key.result) c.self.inside.entries.ok.0 facts.bound in
    rw (← c.self.view_is) (searched _ c.self.invariant c.args.end _ bound by_key).0

pub returns-clause-absent : goal.returns-clause-absent
returns-clause-absent c =
    let facts = c.binary_search_by_key.ensures in
    let by_key = facts.position (λ e. e.0) (answers_always _ _ _ (λ f a r g called. search rules)) in
    let bound = subst (IsSearchInRange c.binary_search_by_key.result) c.self.inside.entries.ok.0 facts.bound in
    rw (← c.self.view_is) (searched _ c.self.invariant c.args.end _ bound by_key).1
