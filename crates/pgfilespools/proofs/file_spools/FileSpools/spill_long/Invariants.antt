use Rattle.std.proofs.Common.{◌≡◌}
use Rattle.pgfilespools.proofs.file_spools.FileSpools.spill_long.Given as goal

abbrev pub invariant-loop-index : goal.invariant-loop-index
invariant-loop-index g l =
    record {
      held : l.self.held ≡ l.fn.self.held;
      limit : l.self.most ≡ l.fn.self.most;
      honest : l.self.is_honest ≡ l.fn.self.is_honest;
      part : l.self.part ≡ l.fn.self.part;
    }
