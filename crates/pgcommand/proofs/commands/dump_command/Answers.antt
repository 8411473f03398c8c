use Rattle.pgcommand.proofs.commands.dump_command.Goals as goal

pub returns : goal.returns
returns c = c.with_store.ensures _ c.named-command.ensures
