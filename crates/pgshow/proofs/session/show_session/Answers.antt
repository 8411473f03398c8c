use Rattle.std.proofs.Common.{◌+◌, ℕ, List, [], ◌++◌, sym, subst, append-nil, drop, take, take_all}
use Rattle.std.proofs.Common.{string_bytes}
use Rattle.pgshow.specs.Shown.{lines_of}
use Rattle.pgshow.specs.Steps.{IsUnderWay, ShowsPiece, StopsAt, StopsInPiece}
use Rattle.pgshow.proofs.Joined.{joined, joined_all, joined_more}
use Rattle.pgshow.proofs.Pieces.{more_lines, started}
use Rattle.pgshow.proofs.Stops.{shown_until, shown_whole, still_stops}
use Rattle.pgshow.proofs.session.show_session.Goals as goal

pub loop-piece-init : goal.loop-piece-init
loop-piece-init c =
    let u = started c.args.version c.args.max_frame c.new-deframer.result c.new-order.result c.new-deframer.ensures c.new-order.ensures in
    (u.waits, u.sound, ([], u, sym (append-nil (string_bytes c.args.lines.now))))

pub show_piece-requires-clause-waits : goal.show_piece-requires-clause-waits
show_piece-requires-clause-waits c = c.loop-piece.invariant.0

pub show_piece-requires-clause-sound : goal.show_piece-requires-clause-sound
show_piece-requires-clause-sound c = c.loop-piece.invariant.1

pub loop-piece-preserved : goal.loop-piece-preserved
loop-piece-preserved c =
    let i = c.loop-piece.piece-index in
    let pieces = c.args.pieces.now in
    let old = c.loop-piece.invariant.2 in
    let max = c.args.max_frame in
    let shown = subst (λ (piece : List ℕ).
    ShowsPiece piece c.loop-piece.deframer c.loop-piece.order (string_bytes c.loop-piece.lines) c.show_piece.new.deframer
    c.show_piece.new.order (string_bytes c.show_piece.new.lines)) c.as_slice.ensures c.in_ok-show_piece.ensures.shown in
    let step = shown c.args.version max (joined (take i pieces)) old.0 old.1 in (
      c.in_ok-show_piece.ensures.waits.0,
      c.in_ok-show_piece.ensures.waits.1,
      (
        old.0 ++ step.0,
        subst (λ (bytes : List ℕ). IsUnderWay c.args.version max bytes (old.0 ++ step.0) c.show_piece.new.deframer c.show_piece.new.order)
            (sym (joined_more pieces i c.piece-item.result c.loop-piece-test.true (sym c.piece-item.is))) step.1,
        more_lines (string_bytes c.args.lines.now) (string_bytes c.loop-piece.lines) (string_bytes c.show_piece.new.lines) old.0 step.0
            old.2 step.2,
      ),
    )

pub returns-in_err-show_piece : goal.returns-in_err-show_piece
returns-in_err-show_piece c =
    let i = c.loop-piece.piece-index in
    let pieces = c.args.pieces.now in
    let old = c.loop-piece.invariant.2 in
    let max = c.args.max_frame in
    let fault = c.in_err-show_piece.field-0.0 in
    let refused = subst (λ (piece : List ℕ).
    StopsInPiece piece c.loop-piece.deframer c.loop-piece.order (string_bytes c.loop-piece.lines) (string_bytes c.show_piece.new.lines)
    fault) c.as_slice.ensures c.in_err-show_piece.ensures.refused in
    let stop = refused c.args.version max (joined (take i pieces)) old.0 old.1 in
    let said = old.0 ++ stop.0 in
    let here = subst (λ (bytes : List ℕ). StopsAt c.args.version max bytes said fault)
    (sym (joined_more pieces i c.piece-item.result c.loop-piece-test.true (sym c.piece-item.is))) stop.1 in
    let all = subst (λ (bytes : List ℕ). StopsAt c.args.version max bytes said fault) (joined_all pieces (i + 1))
    (still_stops c.args.version max (joined (take (i + 1) pieces)) (joined (drop (i + 1) pieces)) said fault here) in (
      lines_of said,
      more_lines (string_bytes c.args.lines.now) (string_bytes c.loop-piece.lines) (string_bytes c.show_piece.new.lines) old.0 stop.0 old.2
          stop.2,
      shown_until c.args.version max (joined pieces) said c.from_residual.result fault c.from_residual.ensures.1 all,
    )

pub returns : goal.returns
returns c =
    let old = c.loop-piece.invariant.2 in
    let max = c.args.max_frame in
    let u = subst (λ (pieces : List (List ℕ)). IsUnderWay c.args.version max (joined pieces) old.0 c.loop-piece.deframer c.loop-piece.order)
    (take_all c.loop-piece.piece-index c.args.pieces.now c.loop-piece-test.false) old.1 in
    (lines_of old.0, old.2, shown_whole c.args.version max (joined c.args.pieces.now) old.0 c.loop-piece.deframer c.loop-piece.order u)
