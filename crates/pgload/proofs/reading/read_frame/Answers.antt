use Rattle.std.proofs.lemmas.Result.{err_from_is_err_and}
use Rattle.std.proofs.Common.{◌≡◌, ◌≤◌, ℕ, List, Ok, Err, refl, ap, subst, sym, length}
use Rattle.std.specs.Io.KnownBytes.{Consumes}
use Rattle.pgwire.specs.Frames.{CopyData, frame}
use Rattle.pgload.proofs.Readers.{read_step, read_nothing, rejected}
use Rattle.pgload.proofs.reading.read_frame.Goals as goal

pub returns-in_err-read_payload-clause-reads : goal.returns-in_err-read_payload-clause-reads
returns-in_err-read_payload-clause-reads g c bytes is =
    let s = g.C.ReplicaStore in
    let p = err_from_is_err_and c.from_residual.result c.from_residual.ensures.1 in
    rw (p.1, p.2)
    (read_nothing s.holds s.place s.reopens s.serves s.is_honest c.args.load.now.limits.max_line c.args.max_frame bytes
    c.args.load.now.store c.args.load.now.table c.args.load.now.closed is (g.R.Read.remaining c.args.reader.now)
    (g.R.Read.remaining c.read_payload.new.reader) c.in_err-read_payload.field-0.0 c.in_err-read_payload.ensures.fault)

pub returns-in-Ok-clause-reads : goal.returns-in-Ok-clause-reads
returns-in-Ok-clause-reads g c bytes is =
    let s = g.C.ReplicaStore in
    let came = c.in_ok-read_payload.ensures.read in
    let same = sym c.as_slice.ensures.value in
    let short = subst (λ (it : List ℕ). length it ≤ c.args.max_frame) same came.0 in
    let read = subst (λ (it : List ℕ). Consumes (g.R.Read.remaining c.args.reader.now) (g.R.Read.remaining c.read_payload.new.reader)
    (frame (CopyData it))) same came.1 in
    read_step s.holds s.place s.reopens s.serves s.is_honest c.args.load.now.limits.max_line c.args.max_frame bytes
    c.args.load.now.store c.args.load.now.table c.args.load.now.closed is c.as_slice.result.now short c.requires.max_frame
    (g.R.Read.remaining c.args.reader.now) (g.R.Read.remaining c.read_payload.new.reader) c.in-Ok.step c.take_payload.new.load.store
    c.take_payload.new.load.table c.take_payload.new.load.closed read (c.in-Ok.ensures.takes is.come is.has) c.in-Ok.ensures.some

pub returns-in-Err-clause-reads : goal.returns-in-Err-clause-reads
returns-in-Err-clause-reads g c bytes is =
    let s = g.C.ReplicaStore in
    let came = c.in_ok-read_payload.ensures.read in
    let same = sym c.as_slice.ensures.value in
    let short = subst (λ (it : List ℕ). length it ≤ c.args.max_frame) same came.0 in
    let read = subst (λ (it : List ℕ). Consumes (g.R.Read.remaining c.args.reader.now) (g.R.Read.remaining c.read_payload.new.reader)
    (frame (CopyData it))) same came.1 in (
      frame (CopyData c.as_slice.result.now),
      read,
      rejected s.holds s.place s.reopens s.serves s.is_honest c.args.load.now.limits.max_line c.args.max_frame bytes
          c.args.load.now.store c.args.load.now.table c.args.load.now.closed is c.as_slice.result.now short c.requires.max_frame
          c.take_payload.new.load.store c.take_payload.new.load.table c.take_payload.new.load.closed c.in-Err.fault
          (c.in-Err.ensures.takes is.come is.has),
    )
