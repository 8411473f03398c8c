use Rattle.sqlite.proofs.StateLemmas.{survives_weaker}
use Rattle.pgrows.specs.Rows.{state}
use Rattle.pgstore.specs.Sources.{rows_in}
use Rattle.pgstore.proofs.staging.settle_told.Goals as goal

pub returns-clause-crash_synced : goal.returns-clause-crash_synced
returns-clause-crash_synced g c =
    survives_weaker (state g.S.Store (rows_in c.args.source.now)) (state g.S.Store (rows_in c.settle_all.new.source)) _ _
    (λ _ db h. (h, c.in_default.ensures.was_free, c.in_default.ensures.synced)) c.settle_all.ensures.crash
