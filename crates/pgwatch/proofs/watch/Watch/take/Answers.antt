use Rattle.pglogical.specs.Borrowed.{message_value}
use Rattle.pgwatch.proofs.Heard.{heard}
use Rattle.pgwatch.proofs.watch.Watch.take.Goals as goal

pub returns-in-Ok-clause-heard : goal.returns-in-Ok-clause-heard
returns-in-Ok-clause-heard c =
    heard c.args.self.now c.mean.new.self c.step.new.self c.args.at (message_value c.args.message.now) c.in-Ok.event c.mean.result
    c.in-Ok.ensures.taken c.step.ensures.version c.mean.ensures.ok c.mean.ensures.err
