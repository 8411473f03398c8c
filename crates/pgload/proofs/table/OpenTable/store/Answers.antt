use Rattle.std.proofs.lemmas.Result.{err_from_is_err_and}
use Rattle.std.proofs.Common.{subst, sym, refl}
use Rattle.pgload.specs.Loading.{IsLoading}
use Rattle.pgload.proofs.Texts.{stored_all, store_stops}
use Rattle.pgload.proofs.table.OpenTable.store.Goals as goal

pub returns-in_err-store_rows-clause-goes : goal.returns-in_err-store_rows-clause-goes
returns-in_err-store_rows-clause-goes g c max_line before table is =
    let s = g.C.ReplicaStore in
    let p = err_from_is_err_and c.from_residual.result c.from_residual.ensures.1 in
    let was = subst (λ opened. IsLoading s.holds s.place s.reopens s.serves s.is_honest max_line before table c.args.store.now opened)
    (sym c.self.view_is) is in
    rw (p.1, p.2) (λ more.
    store_stops s.holds s.place s.reopens s.serves s.is_honest max_line before table c.args.store.now c.store_rows.new.store _
    c.as_slice.result.now
    more c.in_err-store_rows.field-0.0 c.as_slice.ensures.value was c.in_err-store_rows.ensures.served c.in_err-store_rows.ensures.fault
    c.in_err-store_rows.ensures.kept c.in_err-store_rows.ensures.honest c.in_err-store_rows.ensures.crash)

pub returns-clause-goes : goal.returns-clause-goes
returns-clause-goes g c max_line before table is =
    let s = g.C.ReplicaStore in
    let was = subst (λ opened. IsLoading s.holds s.place s.reopens s.serves s.is_honest max_line before table c.args.store.now opened)
    (sym c.self.view_is) is in
    stored_all s.holds s.place s.reopens s.serves s.is_honest max_line before table c.args.store.now c.store_rows.new.store _ _
    c.as_slice.result.now
    c.as_slice.ensures.value was refl refl c.clear.ensures.items c.in_ok-store_rows.ensures.served c.in_ok-store_rows.ensures.stored
    c.in_ok-store_rows.ensures.part c.in_ok-store_rows.ensures.honest c.in_ok-store_rows.ensures.crash
