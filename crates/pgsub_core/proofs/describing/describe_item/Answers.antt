use Rattle.std.proofs.Common.{◌∷◌, ap, sym, subst, ◌∙◌}
use Rattle.pglogical.specs.declared.message.Item.{Item}
use Rattle.pglogical.specs.BorrowedItems.{def_value, item_value}
use Rattle.std.specs.Prelude.{nat_eq}
use Rattle.indexmap.specs.IndexMap.{get}
use Rattle.pgsub_core.specs.Server.Described.{described_from}
use Rattle.pgsub_core.specs.Machine.Replica.{RelationCache}
use Rattle.pgsub_core.specs.Calls.Drafts.{known_to, behind_changes, AreNumbered}
use Rattle.pgsub_core.proofs.DescribedChanges.{on_ok, on_ok_three, described-relation}
use Rattle.pgsub_core.proofs.DescribedChanges.{described-truncate, numbered_relation}
use Rattle.pgsub_core.proofs.describing.describe_item.Goals as goal

pub returns-in-Relation-clause-changes : goal.returns-in-Relation-clause-changes
returns-in-Relation-clause-changes c = on_ok c.describe_relation.result _ _ c.describe_relation.ensures.cached (λ cached items.
    let done = c.args.draft.now.work.changes in
    ap (λ (relations : RelationCache). behind_changes done (described_from (known_to relations) items)) cached
    ∙ ap (behind_changes done) (described-relation c.args.book.now (def_value c.in-Relation.def) items)
    ∙ ap (λ (i : Item). behind_changes done (described_from (known_to c.args.book.now) (i ∷ items)))
    (sym (ap item_value c.in-Relation.is) ∙ c.parts.ensures))

pub returns-in-Relation-clause-numbers : goal.returns-in-Relation-clause-numbers
returns-in-Relation-clause-numbers c =
    let e = c.describe_relation.ensures in
    on_ok_three c.describe_relation.result _ _ _ _ e.cached e.gone e.others (λ cached gone others.
    subst (λ (relations : RelationCache).
    AreNumbered relations c.args.draft.now.work.definitions (get nat_eq c.describe_relation.new.numbers)) (sym cached)
    (numbered_relation c.args.book.now c.args.draft.now.work.definitions (get nat_eq c.args.draft.now.numbers)
    (get nat_eq c.describe_relation.new.numbers) (def_value c.in-Relation.def) c.requires.numbers gone others))

pub returns-in-Truncate-clause-changes : goal.returns-in-Truncate-clause-changes
returns-in-Truncate-clause-changes c = on_ok c.describe_truncate.result _ _ c.describe_truncate.ensures.adds (λ adds items.
    described-truncate c.args.book.now c.in-Truncate.options c.in-Truncate.oids c.args.draft.now.work.changes
    c.describe_truncate.new.draft.work.changes items adds
    ∙ ap (λ (i : Item). behind_changes c.args.draft.now.work.changes (described_from (known_to c.args.book.now) (i ∷ items)))
    (sym (ap item_value c.in-Truncate.is) ∙ c.parts.ensures))
