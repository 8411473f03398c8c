use Rattle.std.proofs.Common.{◌++◌, string_bytes}
use Rattle.std.specs.Result.{result_err}
use Rattle.pgsub_cli.proofs.ShownLines.{all_shown, first_stops, then_lines}
use Rattle.pgsub_cli.proofs.showing.show_sessions.Goals as goal

pub returns-in_err-show_one : goal.returns-in_err-show_one
returns-in_err-show_one c =
    let s = c.show_one.ensures in (
      s.0,
      s.1,
      first_stops c.args.version c.args.sessions.now c.first-item.result s.0 c.show_one.result c.from_residual.result
          c.in_err-show_one.field-0.0 c.in-len1-up.len_at_least c.first-item.is c.in_err-show_one.was c.from_residual.ensures.1 s.2,
    )

pub returns : goal.returns
returns c =
    let s = c.show_one.ensures in
    let t = c.show_later.ensures in (
      s.0 ++ t.0,
      then_lines (string_bytes c.args.lines.now) (string_bytes c.show_one.new.lines) (string_bytes c.show_later.new.lines) s.0 t.0 s.1 t.1,
      all_shown c.args.version c.args.sessions.now c.first-item.result s.0 t.0 c.show_one.result _ (result_err c.show_later.result)
          c.in-len1-up.len_at_least c.first-item.is c.in_ok-show_one.was s.2 t.2,
    )
