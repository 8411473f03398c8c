use Rattle.std.proofs.Common.{take, string_bytes}
use Rattle.pgsub_core.specs.Subscriber.Subscribed.{bytes_of}
use Rattle.pgsub_cli.specs.Watched.{AreWatched}
use Rattle.pgsub_cli.proofs.watching.watch_all.Given as goal

abbrev pub invariant-loop-session : goal.invariant-loop-session
invariant-loop-session l =
    AreWatched l.fn.version (bytes_of (take l.session-index l.sessions)) (string_bytes l.lines) l.is_well
