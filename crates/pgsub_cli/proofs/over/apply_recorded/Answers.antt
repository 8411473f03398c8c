use Rattle.std.proofs.Common.{refl, sym}
use Rattle.pgledger.specs.declared.recorded.Recorded.{Recorded}
use Rattle.pgsub_cli.specs.Over.{AppliesOver, HoldsBoth, ReopensBoth}
use Rattle.pgsub_cli.proofs.Parts.{along, of_parts}
use Rattle.pgsub_cli.proofs.over.apply_recorded.Goals as goal

pub returns-clause-ends : goal.returns-clause-ends
returns-clause-ends g c =
    let s = g.C.ReplicaStore in
    let l = g.G.Ledger in
    let begun = c.new-recorded in
    let done = c.run_opened-status in
    let e = done.ensures.ends in
    let parts = c.into_parts-store in (
      e.0,
      done.result.1.from,
      e.1,
      along (λ (old new : Recorded g.row.C.Denot g.row.G.Denot).
          AppliesOver (λ r. s.is_honest r.store) (λ r. s.serves r.store)
          (HoldsBoth s.holds s.place s.reach s.tally g.G.Supposing.supposed l.begins l.keeps l.outlasts l.is_stuck)
          (λ r. s.place r.store) (ReopensBoth s.place s.tally s.reopens g.G.Supposing.supposed l.reopens) g.R.Input.gives g.R.Input.begins
          g.R.Input.failed
          g.W.Output.takes g.W.Output.failed
          c.args.limits c.args.input old new e.0 c.args.out.now done.new.out)
          begun.result done.result.1
          (of_parts begun.result c.args.store c.args.ledger (s.place c.args.store) begun.ensures.store begun.ensures.ledger
          begun.ensures.from)
          (of_parts done.result.1 parts.result.0 parts.result.1 done.result.1.from (sym parts.ensures.store)
          (sym parts.ensures.ledger) refl)
          (record { prints = e.2; kept = done.ensures.kept; left = done.ensures.left; crash = done.ensures.crash }),
      e.3,
    )
