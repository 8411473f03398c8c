use Rattle.std.proofs.Common.{◌≡◌, sym, subst, Result}
use Rattle.std.specs.Prelude.{option_map}
use Rattle.pgapply.specs.declared.misses.Misses.{Misses}
use Rattle.pgfollow.specs.declared.fault.FollowFault.TheVariants as follow
use Rattle.pgfollow.specs.Live.{IsOfFollowingOver, ended_by}
use Rattle.pgsub_cli.specs.declared.fault.Ending.{Ending}
use Rattle.pgsub_cli.specs.declared.fault.RunFault.{RunFault}
use Rattle.pgsub_cli.specs.FollowStatus.{status_of_follow}
use Rattle.pgsub_cli.specs.Caused.{TellsCaused}
use Rattle.pgsub_cli.proofs.Ended.{ended_as, ended_is}
use Rattle.pgsub_cli.proofs.following.follow_with.Goals as goal

pub returns-clause-ends : goal.returns-clause-ends
returns-clause-ends g c = (
  ended_by c.follow_live-followed.result,
  subst (λ (m : Misses). c.follow_status.result ≡ status_of_follow m.count (ended_by c.follow_live-followed.result)) c.misses.ensures
      c.follow_status.ensures,
  subst (λ (x : Result Ending RunFault). TellsCaused g.E.Output.takes g.E.Output.failed x c.args.err.now c.tell.new.err)
      c.ending-ended.ensures
      (option_map (λ text. text.now) c.cause.result, (c.tell_cause.new.err, c.tell_cause.ensures, c.tell.ensures)),
  (
    λ is. c.follow_live-followed.ensures.read.0 ((ended_is c.follow_live-followed.result follow.Read).0 is),
    λ failed. (ended_is c.follow_live-followed.result follow.Read).1 (c.follow_live-followed.ensures.read.1 failed),
  ),
  (
    λ is. c.follow_live-followed.ensures.unwritten.0 ((ended_is c.follow_live-followed.result follow.Write).0 is),
    λ failed. (ended_is c.follow_live-followed.result follow.Write).1 (c.follow_live-followed.ensures.unwritten.1 failed),
  ),
  ended_as c.follow_live-followed.result (IsOfFollowingOver g.P.Spools.may_fail) c.follow_live-followed.ensures.own,
  λ honest serves. (
    c.follow_live-followed.new.subscriber,
    sym c.into_store-store.ensures,
    c.follow_live-followed.ensures.followed (subst g.C.ReplicaStore.is_honest c.into_store-store.ensures honest) serves,
  ),
)
