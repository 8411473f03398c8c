use Rattle.std.proofs.Common.{subst, ◌∙◌, sym}
use Rattle.std.specs.List.{AllByRecursion}
use Rattle.sqlite_catalog.specs.Listing.{IsGuarded}
use Rattle.sqlite.specs.Schema.{Schema}
use Rattle.pgtables.proofs.Remaining.{is_schema_of}
use Rattle.pgtables.proofs.ReadSteps.{if_some}
use Rattle.pgtables.proofs.remains.find_remains.Goals as goal

pub returns-clause-remains : goal.returns-clause-remains
returns-clause-remains g c =
    let same = c.schema.ensures.value in
    if_some c.remains_of.result _ _
    (λ left is is_open. sym same
    ∙ is_schema_of _ left is (subst (λ (s : Schema). AllByRecursion (IsGuarded s.indexes) s.tables) (sym same)
    (c.schema.ensures.live is_open).0.lists.guarded)) c.remains_of.ensures

pub returns-clause-sound : goal.returns-clause-sound
returns-clause-sound g c is_open = (c.schema.ensures.live is_open).0
