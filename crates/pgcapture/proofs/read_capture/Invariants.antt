use Rattle.std.proofs.Common.{◌≡◌, ◌+◌, ◌≤◌, length}
use Rattle.pgcapture.specs.Capture.{captured_from, lines_of, joined, sessions_of}
use Rattle.pgcapture.proofs.read_capture.Given as goal

abbrev pub invariant-loop-pieces : goal.invariant-loop-pieces
invariant-loop-pieces l =
    (joined l.sessions.items l.pieces.items (captured_from l.number (lines_of l.rest)) ≡ sessions_of l.text)
    × (l.number + length l.rest ≤ length l.text + 1)

abbrev pub decreases-loop-pieces : goal.decreases-loop-pieces
decreases-loop-pieces l = length l.rest
