use Rattle.std.proofs.Common.{◌∙◌, take, ap}
use Rattle.pgfollow.proofs.Telling.{live_none, live_turn, short_front, turn_stops}
use Rattle.pgfollow.proofs.live.follow_reads.Goals as goal

pub loop-link-init : goal.loop-link-init
loop-link-init g c = (
  c.requires.readable,
  c.requires.writable,
  c.requires.room,
  c.requires.unclosed,
  λ honest. honest,
  λ honest serves. serves,
  λ honest serves. live_none g.C.ReplicaStore.holds g.C.ReplicaStore.place g.C.ReplicaStore.reopens g.C.ReplicaStore.serves
      g.C.ReplicaStore.tally _ _ c.args.subscriber.now,
)

pub loop-link-preserved : goal.loop-link-preserved
loop-link-preserved g c =
    let it = g.C.ReplicaStore in
    let loop = c.loop-link.invariant in
    let read = c.in-Some.ensures.some in
    let part = c.in_default-follow_piece.ensures in (
      c.follow_piece.ensures.read.1 ∙ read.3,
      part.sound,
      c.read_piece.ensures.length ∙ loop.2,
      part.unclosed,
      λ honest. loop.4 (c.follow_piece.ensures.honest honest),
      λ honest serves. part.still_serves honest (loop.5 (c.follow_piece.ensures.honest honest) serves),
      λ honest serves.
          let was = c.follow_piece.ensures.honest honest in
          live_turn it.holds it.place it.reopens it.serves it.tally _ _ _ _ _ _ _ _ (take c.in-Some.count c.read_piece.new.room)
          c.args.subscriber.now c.loop-link.subscriber c.follow_piece.new.subscriber
          (short_front c.in-Some.count c.read_piece.new.room (c.read_piece.ensures.length ∙ loop.2))
          (ap g.R.Read.remaining c.follow_piece.ensures.read.0) (ap g.W.Write.contents c.read_piece.ensures.written.0) (loop.6 was serves)
          read.1 (part.followed honest (loop.5 was serves)),
    )

pub returns-in-Err-clause-followed : goal.returns-in-Err-clause-followed
returns-in-Err-clause-followed g c honest serves =
    let it = g.C.ReplicaStore in
    let loop = c.loop-link.invariant in
    let read = c.in-Some.ensures.some in
    let was = c.follow_piece.ensures.honest honest in
    turn_stops it.holds it.place it.reopens it.serves it.tally _ _ _ _ _ _ _ _ (take c.in-Some.count c.read_piece.new.room)
    c.args.subscriber.now c.loop-link.subscriber c.follow_piece.new.subscriber c.in-Err.fault c.follow_piece.new.link.reads
    (short_front c.in-Some.count c.read_piece.new.room (c.read_piece.ensures.length ∙ loop.2))
    (ap g.R.Read.remaining c.follow_piece.ensures.read.0) (ap g.W.Write.contents c.read_piece.ensures.written.0) (loop.6 was serves) read.1
    c.in-Err.ensures.unread (c.in-Err.ensures.stopped honest (loop.5 was serves))
