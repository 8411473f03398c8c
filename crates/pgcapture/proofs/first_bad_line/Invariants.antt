use Rattle.std.proofs.Common.{◌≡◌, ◌+◌, ◌≤◌, length}
use Rattle.std.specs.Result.{result_err}
use Rattle.pgcapture.specs.Capture.{captured_from, lines_of, sessions_of}
use Rattle.pgcapture.proofs.first_bad_line.Given as goal

abbrev pub invariant-loop-behind : goal.invariant-loop-behind
invariant-loop-behind l =
    (result_err (captured_from l.number (lines_of l.rest)) ≡ result_err (sessions_of l.text))
    × (l.number + length l.rest ≤ length l.text + 1)

abbrev pub decreases-loop-behind : goal.decreases-loop-behind
decreases-loop-behind l = length l.rest
