use Rattle.std.proofs.Common.{sym, subst, string_bytes}
use Rattle.pgorder.specs.declared.Version.TheVariants.{Two}
use Rattle.pgsub_core.specs.Subscriber.Subscribed.{bytes_of}
use Rattle.pgsub_cli.specs.Limits.{default_limits}
use Rattle.pgsub_cli.proofs.Came.{if_both}
use Rattle.pgsub_cli.proofs.PrintedOver.{prints_from, resumes_new}
use Rattle.pgtasks.proofs.stores.ResumingJob.run.Goals as goal

pub returns : goal.returns
returns g c honest empty =
    let it = g.C.ReplicaStore in
    let begun = c.subscriber_over-subscriber in
    let new = c.resume_over.new.subscriber in
    let sessions = bytes_of c.args.self.sessions.now in
    let ends = c.resume_over.ensures in (
      if_both c.resume_over.result _ _ _
          (ends.stands (honest new.applied.store) (subst it.serves (sym begun.ensures.store) empty.opened)) ends.lines
          (λ printed stands lines.
          resumes_new it.holds it.place default_limits Two c.args.store sessions printed.stopped (string_bytes printed.lines) empty.held
          empty.position
          (prints_from it.holds it.place c.fed_sessions_are_followed.ensures.followed default_limits Two c.args.store begun.result new
          (begun.ensures.store, begun.ensures.state) sessions printed.stopped (string_bytes printed.lines) stands lines)),
      ends.fault,
    )
