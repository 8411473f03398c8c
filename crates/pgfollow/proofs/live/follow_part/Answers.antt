use Rattle.std.proofs.Common.{◌∙◌, [], inl, take, drop, refl, sym, subst, append-nil}
use Rattle.std.proofs.lemmas.List.{take-append-drop}
use Rattle.pgfollow.proofs.Telling.{part_followed, part_untold, part_unannounced, open_after}
use Rattle.pgfollow.proofs.Telling.{unwritten_part}
use Rattle.pgfollow.proofs.live.follow_part.Goals as goal

pub returns-in-Err-clause-stopped : goal.returns-in-Err-clause-stopped
returns-in-Err-clause-stopped g c honest serves = (
  c.args.piece.now,
  [],
  sym (append-nil c.args.piece.now),
  (
    refl,
    (
      _,
      inl (record {
        unclosed = c.requires.unclosed;
        until = c.in-Err.ensures.refused;
        counts = λ own. c.in-Err.ensures.counts_refused own c.requires.unclosed;
        why = c.in-Err.ensures.why honest serves c.requires.unclosed;
        crash = c.in-Err.ensures.crash_refused honest;
      }),
    ),
  ),
)

pub returns-in-Err-announce-clause-stopped : goal.returns-in-Err-announce-clause-stopped
returns-in-Err-announce-clause-stopped g c honest serves =
    let it = g.C.ReplicaStore in
    let was = subst it.is_honest c.announce.ensures.store honest in
    let part = take c.in-Ok.taken c.args.piece.now in (
      part,
      drop c.in-Ok.taken c.args.piece.now,
      sym (take-append-drop c.in-Ok.taken c.args.piece.now),
      part_unannounced it.holds it.place it.reopens it.serves it.tally _ c.args.subscriber.now c.feed_session.new.self
          c.announce.new.subscriber part
          (record {
            feeds = c.in-Ok.ensures.fed (c.in-Ok.ensures.still_serves was serves);
            counts = c.in-Ok.ensures.counts (c.in-Ok.ensures.still_serves was serves);
            crash = c.in-Ok.ensures.crash was;
          })
          c.announce.ensures.store _ _ c.in-Err-announce.fault refl c.in-Err-announce.ensures.memory c.announce.ensures.confirmed,
    )

pub returns-in-Ok-tell-clause-followed : goal.returns-in-Ok-tell-clause-followed
returns-in-Ok-tell-clause-followed g c honest serves =
    let it = g.C.ReplicaStore in
    let was = subst it.is_honest (c.tell.ensures.store ∙ c.announce.ensures.store) honest in
    part_followed it.holds it.place it.reopens it.serves it.tally _ c.args.subscriber.now c.feed_session.new.self c.announce.new.subscriber
    (take c.in-Ok.taken c.args.piece.now)
    (record {
      feeds = c.in-Ok.ensures.fed (c.in-Ok.ensures.still_serves was serves);
      counts = c.in-Ok.ensures.counts (c.in-Ok.ensures.still_serves was serves);
      crash = c.in-Ok.ensures.crash was;
    })
    c.announce.ensures.store _ _ c.has_ended-ends.result c.tell.new.subscriber _ c.has_ended-ends.ensures c.confirmed-told.ensures
    c.in_default.ensures.replies c.in_default.ensures.state c.tell.ensures.store c.in-Ok-tell.ensures.state c.in-Ok-tell.ensures.written.1

pub returns-in-Err-tell-clause-stopped : goal.returns-in-Err-tell-clause-stopped
returns-in-Err-tell-clause-stopped g c honest serves =
    let it = g.C.ReplicaStore in
    let was = subst it.is_honest (c.tell.ensures.store ∙ c.announce.ensures.store) honest in
    let part = take c.in-Ok.taken c.args.piece.now in
    let told = c.in-Err-tell.ensures.part in (
      part,
      drop c.in-Ok.taken c.args.piece.now,
      sym (take-append-drop c.in-Ok.taken c.args.piece.now),
      unwritten_part it.holds it.place it.reopens it.serves it.tally _ _ part c.args.subscriber.now c.tell.new.subscriber
          c.in-Err-tell.fault c.in-Err-tell.ensures.unwritten.0
          (part_untold it.holds it.place it.reopens it.serves it.tally _ c.args.subscriber.now c.feed_session.new.self
          c.announce.new.subscriber part
          (record {
            feeds = c.in-Ok.ensures.fed (c.in-Ok.ensures.still_serves was serves);
            counts = c.in-Ok.ensures.counts (c.in-Ok.ensures.still_serves was serves);
            crash = c.in-Ok.ensures.crash was;
          })
          c.announce.ensures.store _ _ c.tell.new.subscriber told.0 _ c.confirmed-told.ensures
          c.in_default.ensures.replies c.announce.ensures.confirmed c.in-Err-tell.ensures.unchanged told.1 told.2),
    )

pub returns-in-Ok-tell-clause-unclosed : goal.returns-in-Ok-tell-clause-unclosed
returns-in-Ok-tell-clause-unclosed g c =
    let it = g.C.ReplicaStore in
    open_after it.holds it.place it.reopens it.serves it.tally c.has_ended-ends.result c.feed_session.new.self c.announce.new.subscriber
    c.tell.new.subscriber c.in_default.ensures.state c.in-Ok-tell.ensures.state c.in-Ok.ensures.open.1
