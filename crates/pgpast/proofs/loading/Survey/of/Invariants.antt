use Rattle.std.proofs.Common.{◌<◌, ◌≤◌, ◌-◌}
use Rattle.std.specs.Option.{IfSome}
use Rattle.pgpast.specs.Loaded.{IsAt, IsLast, slots_of}
use Rattle.pgpast.proofs.loading.Survey.of.Given as goal

abbrev pub invariant-loop-slot : goal.invariant-loop-slot
invariant-loop-slot l =
    (l.slot ≤ slots_of l.bytes) × IfSome l.survey.newest (λ it. (it.0 < slots_of l.bytes) × IsAt l.bytes it.0 it.1)
    × IsLast l.bytes l.slot l.survey.newest

abbrev pub decreases-loop-slot : goal.decreases-loop-slot
decreases-loop-slot l = slots_of l.bytes - l.slot
