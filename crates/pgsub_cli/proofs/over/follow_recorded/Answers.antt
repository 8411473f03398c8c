use Rattle.std.proofs.Common.{◌≡◌, refl, subst, sym}
use Rattle.pgledger.specs.declared.recorded.Recorded.{Recorded}
use Rattle.pgledger.specs.Records.{tally_since}
use Rattle.pgsub_cli.specs.FollowStatus.{status_of_follow}
use Rattle.pgsub_cli.specs.Over.{FollowsReported, HoldsBoth, ReopensBoth}
use Rattle.pgsub_cli.proofs.Parts.{along, of_parts}
use Rattle.pgsub_cli.proofs.over.follow_recorded.Goals as goal

pub returns-clause-ends : goal.returns-clause-ends
returns-clause-ends g c =
    let s = g.C.ReplicaStore in
    let l = g.G.Ledger in
    let begun = c.new-followed in
    let done = c.follow_reported-status in
    let parts = c.into_parts-store in
    let e = done.ensures.ends in (
      e.0,
      subst (λ (it : g.row.C.Denot). done.result.0 ≡ status_of_follow (s.tally it).misses.count e.0) (sym parts.ensures.store) e.1,
      e.2,
      e.3,
      e.4,
      e.5,
      λ whole honest serves. (
        done.result.1.from,
        along (λ (old new : Recorded g.row.C.Denot g.row.G.Denot).
            FollowsReported
            (HoldsBoth s.holds s.place s.reach s.tally g.G.Supposing.supposed l.begins l.keeps l.outlasts l.is_stuck)
            (λ r. s.place r.store) (ReopensBoth s.place s.tally s.reopens g.G.Supposing.supposed l.reopens) (λ r. s.serves r.store)
            (λ r. tally_since r.from (s.tally r.store)) g.row.L.Denot
            c.args.spool (g.R.Read.remaining c.args.io.now.link.reader) (g.R.Read.remaining done.new.io.link.reader) done.new.io.link.reads
            (g.W.Write.contents c.args.io.now.link.writer) (g.W.Write.contents done.new.io.link.writer) c.args.limits c.args.version old new
            done.new.io.honesty e.0)
            begun.result done.result.1
            (of_parts begun.result c.args.store c.args.ledger (s.place c.args.store) begun.ensures.store begun.ensures.ledger
            begun.ensures.from)
            (of_parts done.result.1 parts.result.0 parts.result.1 done.result.1.from (sym parts.ensures.store)
            (sym parts.ensures.ledger) refl)
            (e.6 whole (subst (λ (it : g.row.C.Denot). s.is_honest it) parts.ensures.store honest)
            (subst (λ (it : g.row.C.Denot). s.serves it) (sym begun.ensures.store) serves)),
      ),
    )
