use Rattle.std.proofs.Common.{refl}
use Rattle.pgrows.proofs.Gaps.{free_at, gap_next}
use Rattle.pgrows.specs.Rows.{tables_of}
use Rattle.pgrows.proofs.insert.is_missing.Goals as goal

pub returns-then-is_between-clause-free : goal.returns-then-is_between-clause-free
returns-then-is_between-clause-free g c clean _ =
    let store = c.args.store.now in
    free_at (g.S.Store.view store).trees (c.requires.good clean).kept.held c.args.low.now c.args.high.now c.args.oid c.args.ident.now
    (c.requires.gap clean) (c.if-is_between.ensures.past refl) (c.if-is_between.ensures.ahead refl)

pub returns-then-is_between-clause-next : goal.returns-then-is_between-clause-next
returns-then-is_between-clause-next g c clean =
    gap_next c.args.low.now c.args.high.now (tables_of g.S.Store c.args.store.now).rows c.args.oid c.args.ident.now (c.requires.gap clean)
    (c.if-is_between.ensures.past refl)
