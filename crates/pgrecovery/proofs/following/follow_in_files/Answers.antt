use Rattle.std.proofs.Common.{ℤ, subst}
use Rattle.std.specs.Int.{w64}
use Rattle.std.proofs.lemmas.Int.{to_z-of_z}
use Rattle.sqlite.specs.Files.{over_files}
use Rattle.pgsub_core.specs.Subscriber.Subscribed.{bytes_of}
use Rattle.pgsub_core.specs.Subscriber.Handled.{fault_in}
use Rattle.pgsub_core.specs.Subscriber.Following.{FollowsSessions}
use Rattle.pgrecovery.specs.Recovered.{holds_tables, position_of}
use Rattle.pgrecovery.proofs.Recovered.{followed}
use Rattle.pgrecovery.proofs.following.follow_in_files.Goals as goal

-- the clock goes through a call as 64 bits
pub returns-clause-followed : goal.returns-clause-followed
returns-clause-followed g c serves =
    subst (λ (z : ℤ). FollowsSessions (holds_tables (over_files {g = g.D.Disk})) position_of z c.args.subscriber.now
    (bytes_of c.args.sessions.now) c.follow_over.new.subscriber (fault_in c.follow_over.result))
    (to_z-of_z w64 c.args.now c.ranges.now) (c.follow_over.ensures.followed serves)

pub returns-clause-recovered : goal.returns-clause-recovered
returns-clause-recovered g c honest serves history all_complete tables held sent =
    followed g.D.Disk history (bytes_of c.args.sessions.now) all_complete tables c.args.subscriber.now c.follow_over.new.subscriber held
    sent (c.follow_over.ensures.left honest serves)
