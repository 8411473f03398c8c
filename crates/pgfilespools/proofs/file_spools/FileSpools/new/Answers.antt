use Rattle.std.proofs.Common.{sym, subst, IsTrue}
use Rattle.pgfilespools.proofs.Spooling.{nothing_spooled}
use Rattle.pgfilespools.proofs.file_spools.FileSpools.new.Goals as goal

pub invariant_of-result : goal.invariant_of-result
invariant_of-result g c = (
  nothing_spooled c.new.result.key (g.D.Disk.seen c.new.result.disk) c.new.result.owners.items c.new-2.result.entries c.args.max_bytes
      c.new-2.ensures.empty,
  subst (λ d. IsTrue (g.D.Disk.is_usable d)) (sym c.new.ensures.disk) c.requires,
)
