use Rattle.std.proofs.Common.{◌<◌, ◌∷◌, ◌++◌, [], IfSome, sym, ap, subst, ◌∙◌, take}
use Rattle.std.proofs.lemmas.List.{take_more, take_all}
use Rattle.pgtables.specs.Opened.{AreDefinitionsRead, IsDefinitionRead}
use Rattle.pgtables.proofs.FoundDefinitions.{definition_on}
use Rattle.pgtables.proofs.opened.read_rising.Goals as goal

pub loop-row-init : goal.loop-row-init
loop-row-init c = rw c.new-all.ensures.items (record { each = tt; rises = tt }, λ e none. none)

pub loop-row-preserved : goal.loop-row-preserved
loop-row-preserved c =
    let xs = c.args.rows.now in
    let i = c.loop-row.row-index in
    let x = c.row-item.result in
    let all = c.loop-row.all.items in
    let read = c.in_ok-oid.ensures in
    let found = c.in-Some.is in
    let on = definition_on (take i xs) all c.loop-row.last x c.in-Some.oid c.in-Some.definition c.loop-row.invariant.0
    c.loop-row.invariant.1
    (subst (λ o. IfSome o (λ it. IsDefinitionRead x it.0 it.1)) found read.read)
    (subst (λ o. IfSome o (λ it. IfSome c.loop-row.last (λ before. before < it.0))) found read.behind) in
    let more = ap (λ y. take i xs ++ y ∷ []) c.row-item.is ∙ sym (take_more xs i x c.loop-row-test.true) in
    rw c.in_ok-push.ensures.items (subst (λ es. AreDefinitionsRead es (all ++ (c.in-Some.oid, c.in-Some.definition) ∷ [])) more on.0, on.1)

pub returns : goal.returns
returns c = subst (λ es. AreDefinitionsRead es c.loop-row.all.items) (take_all c.loop-row.row-index c.args.rows.now c.loop-row-test.false)
    c.loop-row.invariant.0
