use Rattle.std.proofs.Common.{refl}
use Rattle.std.proofs.lemmas.Result.{IfOk-weaker}
use Rattle.sqlite.specs.Files.{over_files}
use Rattle.pgmemory.proofs.Clean.{clean_store}
use Rattle.pgencoded.specs.DatabaseValue.{nothing_stored}
use Rattle.pgstore.specs.StoreValue.{IsHonest, Serves, Holds}
use Rattle.pgstore.proofs.making.Store+FileStore+MemoryDisk.on_memory_disks.Goals as goal

pub returns-clause-empty : goal.returns-clause-empty
returns-clause-empty c =
    IfOk-weaker c.make.result (λ s. IsHonest over_files s → Serves over_files s × Holds over_files s nothing_stored)
    (λ s. Serves over_files s × Holds over_files s nothing_stored) (λ s h. h (clean_store (λ _. refl) s.rows)) c.make.ensures.empty
