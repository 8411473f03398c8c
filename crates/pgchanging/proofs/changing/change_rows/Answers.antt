use Rattle.pgchanging.proofs.changing.change_rows.Goals as goal

pub returns-in-Update-clause-made : goal.returns-in-Update-clause-made
returns-in-Update-clause-made g c = rw c.in-Update.is c.update.ensures.made

pub returns-in-Delete-clause-made : goal.returns-in-Delete-clause-made
returns-in-Delete-clause-made g c = rw c.in-Delete.is c.delete.ensures.made

pub returns-in_ok-insert-in-Insert-clause-made : goal.returns-in_ok-insert-in-Insert-clause-made
returns-in_ok-insert-in-Insert-clause-made g c = rw c.in-Insert.is c.in_ok-insert-in-Insert.ensures.made

pub returns-in_ok-truncate-in-Truncate-clause-made : goal.returns-in_ok-truncate-in-Truncate-clause-made
returns-in_ok-truncate-in-Truncate-clause-made g c = rw c.in-Truncate.is c.in_ok-truncate-in-Truncate.ensures.made
