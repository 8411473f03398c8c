use Rattle.std.proofs.Common.{sym, ap, subst}
use Rattle.pgfollow.specs.Live.{ended_by}
use Rattle.pgfollow.proofs.Walking.{followed_live, not_greeted}
use Rattle.pgfollow.proofs.live.follow_live.Goals as goal

pub follow_reads-requires-clause-unclosed : goal.follow_reads-requires-clause-unclosed
follow_reads-requires-clause-unclosed g c = c.in_default.ensures.unclosed

pub follow_reads-requires-clause-writable : goal.follow_reads-requires-clause-writable
follow_reads-requires-clause-writable g c = c.in_default.ensures.sound

pub returns-in-Err-greet-clause-followed : goal.returns-in-Err-greet-clause-followed
returns-in-Err-greet-clause-followed g c honest serves =
    let it = g.C.ReplicaStore in
    not_greeted it.holds it.place it.reopens it.serves it.tally _ _ c.greet.new.link.reads _ _ c.args.subscriber.now c.greet.new.subscriber
    c.in-Err-greet.fault (ap g.R.Read.remaining c.greet.ensures.read.0) c.greet.ensures.store c.in-Err-greet.ensures.stopped

pub returns-clause-followed : goal.returns-clause-followed
returns-clause-followed g c honest serves =
    let it = g.C.ReplicaStore in
    followed_live it.holds it.place it.reopens it.serves it.tally _ _ _ c.follow_reads.new.link.reads _ _ _ c.args.subscriber.now
    c.greet.new.subscriber c.follow_reads.new.subscriber (ended_by c.follow_reads.result) (ap g.R.Read.remaining c.greet.ensures.read.0)
    (c.position-start.ensures.contains serves) c.in_default.ensures.greeted
    (c.follow_reads.ensures.followed honest (subst it.serves (sym c.greet.ensures.store) serves))
