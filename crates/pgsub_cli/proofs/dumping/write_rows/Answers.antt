use Rattle.std.proofs.Common.{None, append-nil, subst}
use Rattle.std.specs.String.{string_bytes}
use Rattle.pgapply.specs.Dump.{dump}
use Rattle.pgsub_cli.specs.DumpText.{dump_of}
use Rattle.pgsub_cli.specs.Dumped.{PrintsLines}
use Rattle.pgsub_cli.proofs.Came.{if_ok}
use Rattle.pgsub_cli.proofs.LineSteps.{begins, dumped, unbegun}
use Rattle.pgsub_cli.proofs.dumping.write_rows.Goals as goal

pub returns-clause-dumps : goal.returns-clause-dumps
returns-clause-dumps g c honest tables holds =
    let takes = g.W.Output.takes in
    let failed = g.W.Output.failed in
    let text = string_bytes c.new-text.result in
    let first = begins takes failed c.args.out _ text (append-nil text) in
    let front = c.each_row-read.ensures.front honest tables holds
    (record { lines = record { alloc = c.args.alloc; out = c.args.out; text = c.new-text.result }; fault = None }) first in
    let all = if_ok c.each_row-read.result.0 _ _ (c.each_row-read.ensures.all honest)
    (λ whole given is. unbegun takes failed text c.new-text.ensures.bytes
    (given is tables holds (record
    { lines = record { alloc = c.args.alloc; out = c.args.out; text = c.new-text.result }; fault = None }) first)) in
    let sink = c.each_row-read.result.1 in
    subst (λ at. PrintsLines takes failed (dump_of (dump tables) at) c.args.out c.end-ended.new.self.lines.out c.end-ended.result)
    (c.position-position.ensures.position)
    (dumped takes failed (dump tables) c.position-position.result c.each_row-read.result.0 c.args.out sink.lines.out
    (string_bytes sink.lines.text) sink.fault c.end-ended.new.self.lines.out c.end-ended.result
    (front.0, front.1, front.2, unbegun takes failed text c.new-text.ensures.bytes front.3) all (c.each_row-read.ensures.fault honest)
    c.end-ended.ensures.prints)
