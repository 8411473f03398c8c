use Rattle.std.proofs.Common.{◌≡◌, ◌≤◌, ◌∷◌, ◌++◌, [], sym, ◌∙◌, subst, ap, Some, None, nat_eq}
use Rattle.std.specs.Prelude.{option_map, slice_get, take}
use Rattle.std.specs.Map.Iter.{deref_pair}
use Rattle.pglogical.specs.declared.message.RelationDef.{RelationDef}
use Rattle.std.specs.Map.{lookup}
use Rattle.indexmap.specs.IndexMap.{get}
use Rattle.std.specs.FinMap as map
use Rattle.indexmap.proofs.CallerLemmas.{insert_entry-new}
use Rattle.pgrel.specs.Known.{AreDefinitions}
use Rattle.pgrel.proofs.Copied.{absent_before, take_one, take_whole}
use Rattle.pgrel.proofs.book.Book.copy.Goals as goal

pub loop-place-init : goal.loop-place-init
loop-place-init c = c.new-relations.ensures.empty

pub loop-place-preserved : goal.loop-place-preserved
loop-place-preserved c =
    let es = c.self.inside.relations.entries in
    let def = c.in-Ok.copy in
    let at : slice_get es c.loop-place.place ≡ Some (c.unwrap.result.0.now, def) =
    sym c.get_index.ensures.entry ∙ ap (λ r. option_map deref_pair r) c.unwrap.ensures
    ∙ ap (λ (d : RelationDef). Some (c.unwrap.result.0.now, d)) (sym c.in-Ok.ensures.same) in
    let none : lookup (nat_eq c.unwrap.result.0.now) (take c.loop-place.place es) ≡ None =
    absent_before es c.loop-place.place c.unwrap.result.0.now def c.len-place-end.ensures.unique at in
    let absent : get nat_eq c.loop-place.relations c.unwrap.result.0.now ≡ None =
    subst (λ them. lookup (nat_eq c.unwrap.result.0.now) them ≡ None) (sym c.loop-place.invariant) none in
    c.in_ok-insert.ensures.entries ∙ insert_entry-new nat_eq c.loop-place.relations c.unwrap.result.0.now def absent
    ∙ ap (λ them. them ++ (c.unwrap.result.0.now, def) ∷ []) c.loop-place.invariant
    ∙ sym (take_one es c.loop-place.place (c.unwrap.result.0.now, def) at)

all_copied : (c : goal.After-loop-place) → c.loop-place.relations.entries ≡ c.self.inside.relations.entries
all_copied c = c.loop-place.invariant ∙ take_whole c.self.inside.relations.entries c.loop-place.place
    (subst (λ n. n ≤ c.loop-place.place) c.len-place-end.ensures.len c.loop-place-test.false)

pub invariant_of-result : goal.invariant_of-result
invariant_of-result c =
    subst AreDefinitions (sym (all_copied c)) c.self.invariant

pub returns-clause-same : goal.returns-clause-same
returns-clause-same c = ap (λ es. map.from_entries es) (all_copied c) ∙ c.self.view_is
