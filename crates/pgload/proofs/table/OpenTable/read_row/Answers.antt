use Rattle.std.proofs.lemmas.Result.{err_from_is_err_and}
use Rattle.std.proofs.Common.{Ok, subst, sym, refl, take, drop}
use Rattle.pgcopy.specs.declared.fed.Fed.{Fed}
use Rattle.pgcopy.specs.Copied.{IsFed}
use Rattle.pgload.specs.Loading.{IsLoading, TextStops, with_text}
use Rattle.pgload.proofs.Texts.{fed_row, some_taken, in_two, marker_stops, line_stops}
use Rattle.pgload.proofs.table.OpenTable.read_row.Goals as goal

pub returns-in_err-store-in-Ok-Row-clause-goes : goal.returns-in_err-store-in-Ok-Row-clause-goes
returns-in_err-store-in-Ok-Row-clause-goes g c max_line before table is =
    let s = g.C.ReplicaStore in
    let p = err_from_is_err_and c.from_residual.result c.from_residual.ensures.1 in
    let was = subst (λ opened. IsLoading s.holds s.place s.reopens s.serves s.is_honest max_line before table c.args.store.now opened)
    (sym c.self.view_is) is in
    let fed = subst
    (λ (f : Fed). IsFed c.self.inside.reader c.args.piece.now c.self.inside.rows.items (Ok f) c.feed.new.self c.feed.new.rows.items)
    c.in-Ok-Row.field-0-is c.in-Ok-Row.ensures.fed in
    let read = fed_row s.holds s.place s.reopens s.serves s.is_honest max_line before table c.args.store.now _
    (take c.in-Ok-Row.taken c.args.piece.now) was _ fed.1 refl fed.2 fed.3 fed.4 in
    rw (p.1, p.2)
    (subst (λ it. TextStops s.holds s.place s.reopens s.serves s.is_honest max_line before it c.store.new.store
    c.in_err-store-in-Ok-Row.field-0.0)
    (in_two table c.in-Ok-Row.taken c.args.piece.now)
    (c.in_err-store-in-Ok-Row.ensures.goes max_line before (with_text table (take c.in-Ok-Row.taken c.args.piece.now)) read
    (drop c.in-Ok-Row.taken c.args.piece.now)))

pub returns-in_ok-store-in-Ok-Row-clause-goes : goal.returns-in_ok-store-in-Ok-Row-clause-goes
returns-in_ok-store-in-Ok-Row-clause-goes g c max_line before table is =
    let s = g.C.ReplicaStore in
    let was = subst (λ opened. IsLoading s.holds s.place s.reopens s.serves s.is_honest max_line before table c.args.store.now opened)
    (sym c.self.view_is) is in
    let fed = subst
    (λ (f : Fed). IsFed c.self.inside.reader c.args.piece.now c.self.inside.rows.items (Ok f) c.feed.new.self c.feed.new.rows.items)
    c.in-Ok-Row.field-0-is c.in-Ok-Row.ensures.fed in
    c.in_ok-store-in-Ok-Row.ensures.goes max_line before (with_text table (take c.in-Ok-Row.taken c.args.piece.now))
    (fed_row s.holds s.place s.reopens s.serves s.is_honest max_line before table c.args.store.now _
    (take c.in-Ok-Row.taken c.args.piece.now) was _ fed.1 refl fed.2 fed.3 fed.4)

pub returns-in_ok-store-in-Ok-Row-clause-some : goal.returns-in_ok-store-in-Ok-Row-clause-some
returns-in_ok-store-in-Ok-Row-clause-some g c =
    let fed = subst
    (λ (f : Fed). IsFed c.self.inside.reader c.args.piece.now c.self.inside.rows.items (Ok f) c.feed.new.self c.feed.new.rows.items)
    c.in-Ok-Row.field-0-is c.in-Ok-Row.ensures.fed in
    (some_taken c.self.inside.reader c.feed.new.self fed.1 c.in-Ok-Row.taken c.args.piece.now fed.4, fed.0)

pub returns-else-as_slice-batch-clause-goes : goal.returns-else-as_slice-batch-clause-goes
returns-else-as_slice-batch-clause-goes g c max_line before table is =
    let s = g.C.ReplicaStore in
    let was = subst (λ opened. IsLoading s.holds s.place s.reopens s.serves s.is_honest max_line before table c.args.store.now opened)
    (sym c.self.view_is) is in
    let fed = subst
    (λ (f : Fed). IsFed c.self.inside.reader c.args.piece.now c.self.inside.rows.items (Ok f) c.feed.new.self c.feed.new.rows.items)
    c.in-Ok-Row.field-0-is c.in-Ok-Row.ensures.fed in
    fed_row s.holds s.place s.reopens s.serves s.is_honest max_line before table c.args.store.now _
    (take c.in-Ok-Row.taken c.args.piece.now) was _ fed.1 refl fed.2 fed.3 fed.4

pub returns-else-as_slice-batch-clause-some : goal.returns-else-as_slice-batch-clause-some
returns-else-as_slice-batch-clause-some g c =
    let fed = subst
    (λ (f : Fed). IsFed c.self.inside.reader c.args.piece.now c.self.inside.rows.items (Ok f) c.feed.new.self c.feed.new.rows.items)
    c.in-Ok-Row.field-0-is c.in-Ok-Row.ensures.fed in
    (some_taken c.self.inside.reader c.feed.new.self fed.1 c.in-Ok-Row.taken c.args.piece.now fed.4, fed.0)

pub returns-in-Ok-Ended-clause-goes : goal.returns-in-Ok-Ended-clause-goes
returns-in-Ok-Ended-clause-goes g c max_line before table is =
    let s = g.C.ReplicaStore in
    let was = subst (λ opened. IsLoading s.holds s.place s.reopens s.serves s.is_honest max_line before table c.args.store.now opened)
    (sym c.self.view_is) is in
    let fed = subst
    (λ (f : Fed). IsFed c.self.inside.reader c.args.piece.now c.self.inside.rows.items (Ok f) c.feed.new.self c.feed.new.rows.items)
    c.in-Ok-Ended.field-0-is c.in-Ok-Ended.ensures.fed in
    marker_stops s.holds s.place s.reopens s.serves s.is_honest max_line before table c.args.store.now _ c.args.piece.now was
    c.self.inside.definition.oid c.in-Ok-Ended.field-0-0 c.feed.new.self refl fed.2 fed.3

pub returns-in-Err-clause-goes : goal.returns-in-Err-clause-goes
returns-in-Err-clause-goes g c max_line before table is =
    let s = g.C.ReplicaStore in
    let was = subst (λ opened. IsLoading s.holds s.place s.reopens s.serves s.is_honest max_line before table c.args.store.now opened)
    (sym c.self.view_is) is in
    subst (λ it. TextStops s.holds s.place s.reopens s.serves s.is_honest max_line before (with_text table c.args.piece.now)
    c.args.store.now it)
    (sym c.text_fault.ensures)
    (line_stops s.holds s.place s.reopens s.serves s.is_honest max_line before table c.args.store.now _ c.args.piece.now was
    c.self.inside.definition.oid c.in-Err.fault c.feed.new.self c.feed.new.rows.items refl c.in-Err.ensures.fed)
