use Rattle.std.proofs.Common.{refl}
use Rattle.pgmemory.proofs.Clean.{clean_over}
use Rattle.pgmemory.proofs.laws.memory_stays_clean.Goals as goal

pub returns : goal.returns
returns c = clean_over (λ _. refl)
