use Rattle.std.proofs.Common.{◌≡◌, ◌+◌, [], ◌∷◌, ◌++◌, sym, ap, subst, ◌∙◌, take, drop}
use Rattle.std.proofs.lemmas.List.{take_more, take-append-drop}
use Rattle.std.specs.Prelude.{T}
use Rattle.std.specs.Ordering.{nat_cmp}
use Rattle.std.specs.FinMap.{is_sorted}
use Rattle.pgadopt.specs.Adopted.{AreDefinitionsOf}
use Rattle.pgadopt.proofs.Adopted.{none_known, known_then, none_before, take_whole}
use Rattle.pgadopt.proofs.adopting.read_book.Goals as goal

pub loop-oid-init : goal.loop-oid-init
loop-oid-init c rises = subst (AreDefinitionsOf []) (sym c.new-book.ensures) none_known

pub loop-oid-preserved : goal.loop-oid-preserved
loop-oid-preserved c rises =
    let xs = c.args.stored.now in
    let i = c.loop-oid.oid-index in
    let x = c.loop-oid-item.result in
    let def = c.in_ok-read_definition.field-0 in
    let next : take i xs ++ x ∷ [] ≡ take (i + 1) xs =
    ap (λ y. take i xs ++ y ∷ []) c.loop-oid-item.is ∙ sym (take_more xs i x c.loop-oid-test.true) in
    let whole : (take i xs ++ x ∷ []) ++ drop (i + 1) xs ≡ xs = ap (λ front. front ++ drop (i + 1) xs) next ∙ take-append-drop (i + 1) xs in
    let new = none_before (take i xs) (drop (i + 1) xs) x (subst (λ es. T (is_sorted nat_cmp es)) (sym whole) rises) in
    let known = known_then (take i xs) c.loop-oid.book x.0 x.1 def (c.loop-oid.invariant rises) new c.in_ok-read_definition.ensures.ok in
    subst (λ es. AreDefinitionsOf es c.set.new.self) next
    (subst (AreDefinitionsOf (take i xs ++ x ∷ [])) (sym c.in_ok-set.ensures.ok) known)

pub returns-clause-ok : goal.returns-clause-ok
returns-clause-ok c rises =
    subst (λ es. AreDefinitionsOf es c.loop-oid.book) (take_whole c.loop-oid.oid-index c.args.stored.now c.loop-oid-test.false)
    (c.loop-oid.invariant rises)
