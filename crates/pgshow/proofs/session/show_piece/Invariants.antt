use Rattle.std.proofs.Common.{◌≡◌, ℕ, List, ◌++◌, None, length, string_bytes}
use Rattle.pgwire.specs.Deframed.{Waits}
use Rattle.pgorder.specs.declared.Version.{Version}
use Rattle.pgshow.specs.Frames.{Said}
use Rattle.pgshow.specs.Shown.{lines_of}
use Rattle.pgshow.specs.Steps.{IsUnderWay}
use Rattle.pgshow.proofs.session.show_piece.Given as goal

abbrev pub invariant-loop-rest : goal.invariant-loop-rest
invariant-loop-rest l =
    Waits l.deframer × (l.deframer.fault ≡ None)
    × ((v : Version) (max : ℕ) (taken : List ℕ) (said : List Said) → IsUnderWay v max taken said l.initial.deframer l.initial.order
    → (more : List Said) × (now : List ℕ) × IsUnderWay v max now (said ++ more) l.deframer l.order × (now ++ l.rest ≡ taken ++ l.piece)
    × (string_bytes l.lines ≡ string_bytes l.initial.lines ++ lines_of more))

abbrev pub decreases-loop-rest : goal.decreases-loop-rest
decreases-loop-rest l = length l.rest
