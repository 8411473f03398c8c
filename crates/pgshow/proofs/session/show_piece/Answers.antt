use Rattle.std.proofs.Common.{ℕ, List, [], ◌++◌, refl, sym, subst, ◌∙◌, append_assoc, append-nil}
use Rattle.std.proofs.Common.{take, string_bytes}
use Rattle.pgshow.specs.Steps.{IsUnderWay, StopsAt}
use Rattle.pgshow.proofs.Messages.{on_residual}
use Rattle.pgshow.proofs.Pieces.{all_taken, goes_on, more_lines, same_bytes, waits_again}
use Rattle.pgshow.proofs.Stops.{stops_at_bytes, stops_at_frame}
use Rattle.pgshow.proofs.session.show_piece.Goals as goal

pub loop-rest-init : goal.loop-rest-init
loop-rest-init c = (
  c.requires.waits,
  c.requires.sound,
  λ v max taken said u. (
    [],
    taken,
    subst (λ s. IsUnderWay v max taken s c.args.deframer.now c.args.order.now) (sym (append-nil said)) u,
    refl,
    sym (append-nil (string_bytes c.args.lines.now)),
  ),
)

pub loop-rest-preserved : goal.loop-rest-preserved
loop-rest-preserved c =
    let d = c.loop-rest.deframer in
    let rest = c.loop-rest.rest.now in
    let fed = c.in_ok-count.ensures.fed in
    let shown = c.in_ok-show_whole.ensures.shown in
    let again = waits_again d c.feed_frames.new.deframer c.show_whole.new.deframer rest c.in_ok-count.count c.loop-rest.order
    c.show_whole.new.order _ _ c.loop-rest.invariant.1 fed shown in (
      again.0,
      again.1,
      λ v max taken said u.
          let at = c.loop-rest.invariant.2 v max taken said u in
          let step = goes_on v max at.1 rest (said ++ at.0) c.in_ok-count.count d c.feed_frames.new.deframer c.show_whole.new.deframer
          c.loop-rest.order c.show_whole.new.order _ _ at.2 fed shown in (
            at.0 ++ step.0,
            at.1 ++ take c.in_ok-count.count rest,
            subst (λ s. IsUnderWay v max (at.1 ++ take c.in_ok-count.count rest) s c.show_whole.new.deframer c.show_whole.new.order)
                (append_assoc said at.0 step.0) step.1,
            same_bytes at.1 rest (taken ++ c.args.piece.now) c.in_ok-count.count at.3,
            more_lines (string_bytes c.args.lines.now) (string_bytes c.loop-rest.lines) (string_bytes c.show_whole.new.lines) at.0 step.0
                at.4 step.2,
          ),
    )

pub returns-in_err-count-clause-refused : goal.returns-in_err-count-clause-refused
returns-in_err-count-clause-refused c =
    on_residual c.from_residual.result c.in_err-count.field-0.0 _ c.from_residual.ensures.1
    (λ v max taken said u.
    let at = c.loop-rest.invariant.2 v max taken said u in
    let stops = stops_at_bytes v max at.1 c.loop-rest.rest.now (said ++ at.0) c.loop-rest.deframer c.feed_frames.new.deframer
    c.loop-rest.order c.in_err-count.field-0.0 at.2 c.in_err-count.ensures.refused in
    (at.0, subst (λ (bytes : List ℕ). StopsAt v max bytes (said ++ at.0) c.in_err-count.field-0.0) at.3 stops, at.4))

pub returns-in_err-show_whole-clause-refused : goal.returns-in_err-show_whole-clause-refused
returns-in_err-show_whole-clause-refused c =
    let fault = c.in_err-show_whole.field-0.0 in
    let refused = c.in_err-show_whole.ensures.refused in
    on_residual c.from_residual-in_err-show_whole.result fault _ c.from_residual-in_err-show_whole.ensures.1
    (λ v max taken said u.
    let at = c.loop-rest.invariant.2 v max taken said u in
    let stops = stops_at_frame v max at.1 c.loop-rest.rest.now (said ++ at.0) c.in_ok-count.count c.loop-rest.deframer
    c.feed_frames.new.deframer c.loop-rest.order _ _ fault at.2 c.in_ok-count.ensures.fed refused in
    (at.0, subst (λ (bytes : List ℕ). StopsAt v max bytes (said ++ at.0) fault) at.3 stops, refused.0 ∙ at.4))

pub returns-clause-shown : goal.returns-clause-shown
returns-clause-shown c = λ v max taken said u.
    let at = c.loop-rest.invariant.2 v max taken said u in
    let all = all_taken at.1 c.loop-rest.rest.now (taken ++ c.args.piece.now) c.is_empty.result c.is_empty.ensures c.loop-rest-test.false
    at.3 in
    (at.0, subst (λ (bytes : List ℕ). IsUnderWay v max bytes (said ++ at.0) c.loop-rest.deframer c.loop-rest.order) all at.2, at.4)
