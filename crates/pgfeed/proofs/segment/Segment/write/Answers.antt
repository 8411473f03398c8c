use Rattle.std.proofs.Common.{◌+◌, ◌<◌, [], ap, arith, length, string_bytes, subst, ◌∙◌}
use Rattle.std.proofs.lemmas.Result.{on_ok_weaker}
use Rattle.pgledger.specs.Entries.{Entry, entry_of}
use Rattle.sqlite_disk.specs.Disk.{Holds}
use Rattle.pgfeed.specs.Next.{next_body}
use Rattle.pgfeed.specs.Cutting.Walking.{entry_length}
use Rattle.pgfeed.proofs.Following.{remembers_as}
use Rattle.pgfeed.proofs.segment.Segment.write.Goals as goal

pub returns-clause-text : goal.returns-clause-text
returns-clause-text g c =
    let next = c.in_ok-piece.ensures.next in
    let e : Entry = entry_of c.args.commit.now.end c.args.commit.now.about [] c.args.commit.now.work.now.changes c.args.images.now in
    let long = entry_length c.args.self.now.last e (next_body c.args.self.now e) next.fits in
    let some : 0 < length (string_bytes c.in_ok-piece.piece.text) = omega (arith, ap length next.text, long) in
    on_ok_weaker c.put.result
    (λ written. subst (λ bytes. Holds (g.D.Disk.seen c.put.new.self.disk) c.args.self.now.size bytes) next.text (written some))
    c.put.ensures.written

pub returns-clause-size : goal.returns-clause-size
returns-clause-size g c =
    let next = c.in_ok-piece.ensures.next in
    on_ok_weaker c.put.result (λ size. size ∙ ap (λ bytes. c.args.self.now.size + length bytes) next.text) c.put.ensures.size

pub returns-clause-told : goal.returns-clause-told
returns-clause-told g c = on_ok_weaker c.put.result (remembers_as _ _ _ c.in_ok-piece.ensures.next.told) c.put.ensures.told
