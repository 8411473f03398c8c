use Rattle.std.proofs.Common.{[], ◌++◌, List, None, refl, sym, subst, append-nil, take_all}
use Rattle.std.proofs.Common.{string_bytes}
use Rattle.pgwire.specs.declared.session.Session.{Session}
use Rattle.pgsub_core.specs.Subscriber.Subscribed.{bytes_of}
use Rattle.pgsub_cli.specs.Shown.{AreShownLater}
use Rattle.pgsub_cli.proofs.ShownLines.{more_shown, more_stops, then_lines}
use Rattle.pgsub_cli.proofs.showing.show_later.Goals as goal

pub loop-session-init : goal.loop-session-init
loop-session-init c = ([], sym (append-nil (string_bytes c.args.lines.now)), (refl, refl))

pub loop-session-preserved : goal.loop-session-preserved
loop-session-preserved c =
    let old = c.loop-session.invariant in
    let next = c.show_next.ensures in (
      old.0 ++ next.0,
      then_lines (string_bytes c.args.lines.now) (string_bytes c.loop-session.lines) (string_bytes c.show_next.new.lines) old.0 next.0 old.1
          next.1,
      more_shown c.args.version c.args.later.now c.loop-session.session-index c.session-item.result old.0 next.0 c.show_next.result _
          c.loop-session-test.true c.session-item.is c.in_ok-show_next.was old.2 next.2,
    )

pub returns-in_err-show_next : goal.returns-in_err-show_next
returns-in_err-show_next c =
    let old = c.loop-session.invariant in
    let next = c.show_next.ensures in (
      old.0 ++ next.0,
      then_lines (string_bytes c.args.lines.now) (string_bytes c.loop-session.lines) (string_bytes c.show_next.new.lines) old.0 next.0 old.1
          next.1,
      more_stops c.args.version c.args.later.now c.loop-session.session-index c.session-item.result old.0 next.0 c.show_next.result
          c.from_residual.result c.in_err-show_next.field-0.0 c.loop-session-test.true c.session-item.is c.in_err-show_next.was
          c.from_residual.ensures.1 old.2 next.2,
    )

pub returns : goal.returns
returns c =
    let old = c.loop-session.invariant in (
      old.0,
      old.1,
      subst (λ (ss : List Session). AreShownLater c.args.version (bytes_of ss) old.0 None)
          (take_all c.loop-session.session-index c.args.later.now c.loop-session-test.false) old.2,
    )
