use Rattle.std.proofs.Common.{ℤ, subst}
use Rattle.std.specs.Int.{w64}
use Rattle.std.proofs.lemmas.Int.{to_z-of_z}
use Rattle.pgsub_core.specs.Subscriber.Subscribed.{bytes_of}
use Rattle.pgsub_core.specs.Subscriber.Handled.{fault_in}
use Rattle.pgsub_core.specs.Subscriber.Following.{FollowsSessions}
use Rattle.pgrecovery.specs.Recovered.{holds_tables, position_of}
use Rattle.pgrecovery.proofs.following.follow_over.Goals as goal

-- the clock goes through a call as 64 bits
pub returns-clause-followed : goal.returns-clause-followed
returns-clause-followed g c serves =
    subst (λ (z : ℤ). FollowsSessions (holds_tables g.S.Store) position_of z c.args.subscriber.now
    (bytes_of c.args.sessions.now) c.follow.new.subscriber (fault_in c.follow.result))
    (to_z-of_z w64 c.args.now c.ranges.now) (c.follow.ensures.followed serves)

pub returns-clause-left : goal.returns-clause-left
returns-clause-left g c honest serves = c.follow.ensures.crash honest serves
