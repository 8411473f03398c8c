use Rattle.std.proofs.Common.{◌≡◌, ◌∙◌, None, true, eqb, ap, subst, sym}
use Rattle.pgload.specs.Loading.{HasCome, nothing_came}
use Rattle.pgload.proofs.Parts.{begun}
use Rattle.pgload.proofs.load.Load.new.Goals as goal
use Rattle.pgload.proofs.load.Load.new.Goals.{then-eq, else-eq}

pub returns-clause-begun : goal.returns-clause-begun
returns-clause-begun g c own none at =
    let s = g.C.ReplicaStore in
    elim c.if-eq.branch [
      | then-eq w ↦ subst
          (λ closed. HasCome s.holds s.place s.reopens s.serves s.is_honest c.args.limits.max_line nothing_came c.args.store None closed)
          (sym w.closed-is)
          (begun s.holds s.place s.reopens s.serves s.is_honest c.args.limits.max_line c.args.store own none at
          (c.position.ensures.contains own))
      | else-eq w ↦ absurd
          (let one : true ≡ eqb c.position.result 0 = sym (ap (λ p. eqb p 0) (c.position.ensures.position ∙ at)) in
          let no : ⊥ = cc (one, w.if-eq.ensures) in
          no)
    ]
