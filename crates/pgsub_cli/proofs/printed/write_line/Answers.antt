use Rattle.std.proofs.Common.{refl, subst}
use Rattle.pgsub_cli.proofs.Reading.{on_ok}
use Rattle.pgsub_cli.proofs.printed.write_line.Goals as goal

pub returns : goal.returns
returns g c = (
  refl,
  (
    c.in-Ok.line,
    c.in-Ok.is,
    subst (λ bytes. g.W.Output.takes c.args.out.now bytes c.write_lines.new.self) c.as_str.ensures.value
        (on_ok c.write_lines.result _ c.write_lines.ensures.written c.if-is_err.ensures.negation),
  ),
)
