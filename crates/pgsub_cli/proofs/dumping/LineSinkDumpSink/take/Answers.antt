use Rattle.std.proofs.Common.{◌≡◌, None, rules, string_bytes}
use Rattle.pgsub_cli.proofs.LineSteps.{takes_row}
use Rattle.pgsub_cli.proofs.dumping.LineSinkDumpSink.take.Goals as goal

pub returns-in-Ok-clause-took : goal.returns-in-Ok-clause-took
returns-in-Ok-clause-took g c took start rows w =
    let sink = c.args.self.now in
    let none : sink.fault ≡ None = search rules in
    takes_row g.W.Output.takes g.W.Output.failed start.lines.out (string_bytes start.lines.text) rows c.args.row sink.lines.out
    (string_bytes sink.lines.text) sink.fault none c.add_row.new.self.out (string_bytes c.add_row.new.self.text) c.in-Ok.ensures.added w
