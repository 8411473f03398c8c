use Rattle.std.proofs.Common.{ℕ, Bool, cond, List, ap₂, subst}
use Rattle.sqlite_disk.specs.Events.{Event, replay}
use Rattle.sqlite.specs.Recovery.{Image}
use Rattle.sqlite.specs.Files.{over_files}
use Rattle.pgstore.specs.Reopened.{HoldsContent, StaysAsFound}
use Rattle.pgstore.proofs.TreesRead.{if_err, if_ok, if_some}
use Rattle.pgstore.proofs.connecting.Store+FileStore+FileFrom+F.open_or_return.Goals as goal

abbrev image : List ℕ → List ℕ → Image
image log db = record { log = log; db = db }

abbrev seen : List ℕ → List ℕ → Bool → List Event → List ℕ
seen log db is_log history = (replay (cond is_log log db) history).seen

-- files that were opened just now show what was said of the path
pub returns-in-Ok-clause-stood : goal.returns-in-Ok-clause-stood
returns-in-Ok-clause-stood g c =
    let (log, db) = c.in-Ok.ensures.fresh in
    let same = ap₂ image (ap₂ (seen g.F.Start.log g.F.Start.db) log.0 log.1) (ap₂ (seen g.F.Start.log g.F.Start.db) db.0 db.1) in
    if_ok c.open_found.result _ _ (λ it held honest. subst (λ i. HoldsContent over_files i it) same (held honest))
    c.open_found.ensures.stood

pub returns-in-Ok-clause-unchanged : goal.returns-in-Ok-clause-unchanged
returns-in-Ok-clause-unchanged g c =
    let (log, db) = c.in-Ok.ensures.fresh in
    let same = ap₂ image (ap₂ (seen g.F.Start.log g.F.Start.db) log.0 log.1) (ap₂ (seen g.F.Start.log g.F.Start.db) db.0 db.1) in
    if_err c.open_found.result _ _
    (λ e stays. if_some e.1 _ _ (λ conn held clean. subst (λ i. StaysAsFound over_files i conn) same (held clean)) stays)
    c.open_found.ensures.unchanged
