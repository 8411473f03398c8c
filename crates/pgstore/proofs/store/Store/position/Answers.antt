use Rattle.std.proofs.Common.{subst}
use Rattle.pgapply.specs.Stored.{Stored}
use Rattle.pgstore.specs.Sources.{rows_in}
use Rattle.pgstore.specs.StoreValue.{StoreValue, IsHonest, Serves, Contains, Keeps}
use Rattle.pgstore.proofs.Stores.{contains}
use Rattle.pgstore.proofs.store.Store.position.Goals as goal

pub returns-clause-contains : goal.returns-clause-contains
returns-clause-contains g c =
    subst (λ (s : StoreValue g.row.S.Denot). Serves g.S.Store s → (v : Stored) × Contains g.S.Store s v) c.self.view_is
    (contains g.S.Store (rows_in c.self.inside.source) c.self.inside.position c.self.inside.group c.self.invariant.1)

pub returns-clause-keeps : goal.returns-clause-keeps
returns-clause-keeps g c =
    subst (λ (s : StoreValue g.row.S.Denot). IsHonest g.S.Store s → (v : Stored) × Keeps g.S.Store s v) c.self.view_is
    (λ honest. let kept = c.self.invariant.1.keeps honest in (kept.0, kept.1 c.self.inside.group))
