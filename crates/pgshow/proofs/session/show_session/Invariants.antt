use Rattle.std.proofs.Common.{◌≡◌, ℕ, List, ◌++◌, None, take, string_bytes}
use Rattle.std.specs.List.{flat_map}
use Rattle.pgwire.specs.Deframed.{Waits}
use Rattle.pgshow.specs.Frames.{Said}
use Rattle.pgshow.specs.Shown.{lines_of}
use Rattle.pgshow.specs.Steps.{IsUnderWay}
use Rattle.pgshow.proofs.session.show_session.Given as goal

abbrev pub invariant-loop-piece : goal.invariant-loop-piece
invariant-loop-piece l =
    Waits l.deframer × (l.deframer.fault ≡ None)
    × ((said : List Said) × IsUnderWay l.fn.version l.fn.max_frame (flat_map (λ (piece : List ℕ). piece) (take l.piece-index l.pieces)) said
    l.deframer l.order
    × (string_bytes l.lines ≡ string_bytes l.initial.lines ++ lines_of said))
