use Rattle.std.proofs.lemmas.Result.{IfOk-weaker}
use Rattle.std.proofs.Common.{true, refl}
use Rattle.sqlite_trees.proofs.Doubt.{no_doubt}
use Rattle.sqlite.specs.Steps.{over_memory}
use Rattle.pgencoded.specs.DatabaseValue.{nothing_stored}
use Rattle.pgstore.specs.StoreValue.{IsHonest, Serves, Holds}
use Rattle.pgstore.proofs.making.Store+MemStore.in_memory.Goals as goal

pub returns-clause-empty : goal.returns-clause-empty
returns-clause-empty c =
    IfOk-weaker c.make.result (λ s. IsHonest over_memory s → Serves over_memory s × Holds over_memory s nothing_stored)
    (λ s. Serves over_memory s × Holds over_memory s nothing_stored) (λ s h. h (no_doubt true refl)) c.make.ensures.empty
