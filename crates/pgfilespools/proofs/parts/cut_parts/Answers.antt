use Rattle.pgfilespools.proofs.Parting.{parts-cut}
use Rattle.pgfilespools.proofs.parts.cut_parts.Goals as goal

pub returns : goal.returns
returns c held is =
    let ps = c.args.parts.now.items in
    rw c.truncate.ensures.items (parts-cut held ps is c.args.count c.parts_within-kept.result
    (rw c.as_slice.ensures.value at c.parts_within-kept.ensures.within) (rw c.as_slice.ensures.value at c.parts_within-kept.ensures.last))
