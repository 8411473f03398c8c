use Rattle.pgstore.proofs.staging.settle_all.Goals as goal

pub settle_rows-requires : goal.settle_rows-requires
settle_rows-requires g c = (rw c.in-Trees.is at c.requires).1

pub returns-in-Trees-clause-source : goal.returns-in-Trees-clause-source
returns-in-Trees-clause-source g c =
    (c.settle_rows.ensures.numbered (rw c.in-Trees.is at c.requires).0, c.settle_rows.ensures.knows, c.settle_rows.ensures.rests)
