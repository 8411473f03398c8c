use Rattle.pgfilespools.proofs.Storing.{nothing_stored}
use Rattle.pgfilespools.proofs.Parting.{parts-none}
use Rattle.pgfilespools.proofs.file_items.FileItems.new.Goals as goal

pub returns-clause-kept : goal.returns-clause-kept
returns-clause-kept c key file owners = record {
  strand = c.new.ensures.strand key file owners;
  stored = nothing_stored _ _ (c.new.ensures.empty file) c.new-2.ensures.empty;
  parts = parts-none _ _ c.new-3.ensures.items;
}
