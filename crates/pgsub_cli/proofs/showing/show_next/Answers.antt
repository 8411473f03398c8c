use Rattle.std.proofs.Common.{◌≡◌, ◌++◌, [], inl, refl, sym, ◌∙◌, append-nil, rules, string_bytes}
use Rattle.std.specs.Result.{result_err}
use Rattle.pgsub_core.specs.Subscriber.Subscribed.{session_bytes}
use Rattle.pgsub_cli.specs.Shown.{disconnection_line}
use Rattle.pgsub_cli.proofs.ShownLines.{is_next, then_lines}
use Rattle.pgsub_cli.proofs.showing.show_next.Goals as goal

pub returns-then-is_err : goal.returns-then-is_err
returns-then-is_err c =
    let same : string_bytes c.push_str.new.self ≡ string_bytes c.args.lines.now = search rules in
    ([], same ∙ sym (append-nil (string_bytes c.args.lines.now)), inl (refl, refl))

pub returns : goal.returns
returns c =
    let s = c.show_one.ensures in
    let line : string_bytes c.push_str.new.self ≡ string_bytes c.args.lines.now ++ disconnection_line = search rules in (
      disconnection_line ++ s.0,
      then_lines (string_bytes c.args.lines.now) (string_bytes c.push_str.new.self) (string_bytes c.show_one.new.lines) disconnection_line
          s.0 line s.1,
      is_next c.args.version (session_bytes c.args.session.now) s.0 (result_err c.show_one.result) s.2,
    )
