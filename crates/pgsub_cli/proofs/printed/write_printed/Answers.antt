use Rattle.std.proofs.Common.{refl, subst, inr}
use Rattle.std.specs.String.{string_bytes}
use Rattle.pgsub_cli.proofs.Reading.{on_ok}
use Rattle.pgsub_cli.proofs.printed.write_printed.Goals as goal

pub returns-in-None : goal.returns-in-None
returns-in-None g c = (
  string_bytes c.in-Ok.printed.lines,
  (c.in-Ok.printed, c.in-Ok.is, c.in-None.is, refl),
  subst (λ bytes. g.W.Output.takes c.args.out.now bytes c.write_lines.new.self) c.as_str.ensures.value
      (on_ok c.write_lines.result _ c.write_lines.ensures.written c.if-is_err.ensures.negation),
)

pub returns : goal.returns
returns g c = inr (
  string_bytes c.in-Ok.printed.lines,
  (c.in-Ok.printed, c.in-Ok.is, c.in-Some.is, refl),
  subst (λ bytes. g.W.Output.takes c.args.out.now bytes c.write_lines.new.self) c.as_str.ensures.value
      (on_ok c.write_lines.result _ c.write_lines.ensures.written c.if-is_err.ensures.negation),
)
