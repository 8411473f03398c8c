use Rattle.std.proofs.Common.{◌+◌, List, subst, sym, take, take_all, string_bytes}
use Rattle.pgwire.specs.declared.session.Session.{Session}
use Rattle.pgsub_core.specs.Subscriber.Subscribed.{bytes_of}
use Rattle.pgsub_cli.specs.Watched.{AreWatched}
use Rattle.pgsub_cli.proofs.WatchedLines.{one_watched}
use Rattle.pgsub_cli.proofs.watching.watch_all.Goals as goal

pub returns : goal.returns
returns c =
    subst (λ (ss : List Session). AreWatched c.args.version (bytes_of ss) (string_bytes c.loop-session.lines) c.loop-session.is_well)
    (take_all c.loop-session.session-index c.args.sessions.now c.loop-session-test.false) c.loop-session.invariant

pub loop-session-preserved : goal.loop-session-preserved
loop-session-preserved c =
    let i = c.loop-session.session-index in
    subst (λ well. AreWatched c.args.version (bytes_of (take (i + 1) c.args.sessions.now)) (string_bytes c.watch_next.new.lines) well)
    (sym c.both-is_well.ensures)
    (one_watched c.args.version c.args.sessions.now i c.session-item.result (string_bytes c.loop-session.lines)
    (string_bytes c.watch_next.new.lines) c.loop-session.is_well c.in_ok-goes_on.goes_on c.loop-session-test.true c.session-item.is
    c.loop-session.invariant c.in_ok-goes_on.ensures)
