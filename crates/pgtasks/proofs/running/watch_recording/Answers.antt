use Rattle.std.proofs.Common.{List, inr, subst}
use Rattle.pgwire.specs.declared.session.Session.{Session}
use Rattle.pgsub_core.specs.Subscriber.Subscribed.{bytes_of}
use Rattle.pgsub_cli.specs.Watched.{WritesWatched}
use Rattle.pgtasks.proofs.running.watch_recording.Goals as goal

pub returns : goal.returns
returns g c =
    inr (
      c.in_ok-sessions.sessions.items,
      c.in_ok-sessions.ensures.sessions,
      subst (λ (ss : List Session).
          WritesWatched g.W.Output.takes g.W.Output.failed c.args.version (bytes_of ss) c.args.out.now c.watch.new.out c.watch.result)
          c.as_slice.ensures.value c.watch.ensures,
    )
