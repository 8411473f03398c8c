use Rattle.std.proofs.Common.{◌≡◌, reverse, length}
use Rattle.pgwatch.specs.Hearing.{replayed}
use Rattle.pgwatch.proofs.watch.Watch.replay.Given as goal

abbrev pub invariant-loop-noted : goal.invariant-loop-noted
invariant-loop-noted l =
    replayed l.self l.at (reverse l.left.items) ≡ replayed l.initial.self l.initial.at (reverse l.initial.left.items)

abbrev pub decreases-loop-noted : goal.decreases-loop-noted
decreases-loop-noted l = length l.left.items
