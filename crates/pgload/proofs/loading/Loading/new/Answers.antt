use Rattle.std.proofs.Common.{[], refl, subst, sym}
use Rattle.pgload.specs.Loading.{nothing_came}
use Rattle.pgload.specs.Inputs.{HasRead}
use Rattle.pgload.proofs.Frames.{nothing_read}
use Rattle.pgload.proofs.loading.Loading.new.Goals as goal

pub returns-clause-begun : goal.returns-clause-begun
returns-clause-begun g c own none at =
    let s = g.C.ReplicaStore in
    subst (λ d. HasRead s.holds s.place s.reopens s.serves s.is_honest c.args.limits.max_line [] d c.new-2.result.store
    c.new-2.result.table c.new-2.result.closed)
    (sym c.new.ensures) (record {
      come = nothing_came;
      read = nothing_read c.args.max_frame;
      has = c.new-2.ensures.begun own none at;
      sound = refl;
      first = refl;
    })
