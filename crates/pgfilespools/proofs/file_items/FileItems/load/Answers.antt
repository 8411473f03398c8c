use Rattle.pgfilespools.proofs.Keeping.{are_items}
use Rattle.pgfilespools.proofs.Reading.{count_read}
use Rattle.pgfilespools.proofs.file_items.FileItems.load.Goals as goal

pub copy_items-requires : goal.copy_items-requires
copy_items-requires g c =
    let b = c.args.blocks.now in
    let file = g.D.Disk.seen b.disk in
    are_items b.key file b.owners.items c.args.self.now c.requires.kept c.in-Some.bytes.now (c.in-Some.ensures file)

pub returns-in-Some-clause-count : goal.returns-in-Some-clause-count
returns-in-Some-clause-count g c =
    count_read c.args.self.now.count c.in-Some.bytes.now c.copy_items.result c.copy_items.ensures.read

pub returns-in-Ok-clause-count : goal.returns-in-Ok-clause-count
returns-in-Ok-clause-count g c = count_read c.args.self.now.count _ c.read_items.result c.read_items.ensures.read
