use Rattle.std.proofs.Common.{◌≡◌, ℕ, List, ◌++◌, None, take, string_bytes}
use Rattle.pgsub_core.specs.Subscriber.Subscribed.{bytes_of}
use Rattle.pgsub_cli.specs.Shown.{AreShownLater}
use Rattle.pgsub_cli.proofs.showing.show_later.Given as goal

abbrev pub invariant-loop-session : goal.invariant-loop-session
invariant-loop-session l =
    (text : List ℕ) × (string_bytes l.lines ≡ string_bytes l.fn.lines ++ text)
    × AreShownLater l.fn.version (bytes_of (take l.session-index l.later)) text None
