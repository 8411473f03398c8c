use Rattle.std.proofs.Common.{map, take}
use Rattle.pgpast.specs.Loaded.{HearsAll}
use Rattle.pgpast.specs.declared.record.Record.{Record}
use Rattle.pgpast.proofs.loading.Loaded.past.Given as goal

abbrev pub invariant-loop-record : goal.invariant-loop-record
invariant-loop-record l =
    HearsAll l.initial.past (map (λ (r : Record). r.commit) (take l.record-index l.self.chain.items)) l.past
