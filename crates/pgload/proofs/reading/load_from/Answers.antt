use Rattle.std.proofs.Common.{[], ◌∙◌, ap, subst, sym}
use Rattle.std.specs.Prelude.{MatchResult}
use Rattle.pgwire.specs.Deframed.{fresh}
use Rattle.pgload.specs.declared.limits.Limits.{Limits}
use Rattle.pgload.specs.Loading.{HasCome, nothing_came}
use Rattle.pgload.specs.Readers.{IsReadLoad, StopsReading}
use Rattle.pgload.proofs.Readers.{nothing_yet}
use Rattle.pgload.proofs.reading.load_from.Goals as goal

pub returns-clause-reads : goal.returns-clause-reads
returns-clause-reads g c own none at =
    let s = g.C.ReplicaStore in
    let line = ap (λ (l : Limits). l.max_line) c.new-load.ensures.limits in
    let begun = nothing_yet s.holds s.place s.reopens s.serves s.is_honest c.new-load.result.limits.max_line c.args.max_frame
    c.new-load.result.store c.new-load.result.table c.new-load.result.closed
    (subst (λ m. HasCome s.holds s.place s.reopens s.serves s.is_honest m nothing_came c.new-load.result.store c.new-load.result.table
    c.new-load.result.closed) (sym line) (c.new-load.ensures.begun own none at)) in
    subst (λ m. MatchResult c.read_frames-ended.result
    (λ point. IsReadLoad s.holds s.place s.reopens s.serves s.is_honest m c.args.max_frame (g.R.Read.remaining c.args.reader.now)
    (g.R.Read.remaining c.read_frames-ended.new.reader) point c.into_store-2.result)
    (λ fault. StopsReading s.holds s.place s.reopens s.serves s.is_honest m c.args.max_frame (g.R.Read.remaining c.args.reader.now)
    (g.R.Read.remaining c.read_frames-ended.new.reader) fault c.into_store-2.result)) line
    (subst (λ store. MatchResult c.read_frames-ended.result
    (λ point. IsReadLoad s.holds s.place s.reopens s.serves s.is_honest c.new-load.result.limits.max_line c.args.max_frame
    (g.R.Read.remaining c.args.reader.now) (g.R.Read.remaining c.read_frames-ended.new.reader) point store)
    (λ fault. StopsReading s.holds s.place s.reopens s.serves s.is_honest c.new-load.result.limits.max_line c.args.max_frame
    (g.R.Read.remaining c.args.reader.now) (g.R.Read.remaining c.read_frames-ended.new.reader) fault store)) (sym c.into_store-2.ensures)
    (c.read_frames-ended.ensures.reads begun))
