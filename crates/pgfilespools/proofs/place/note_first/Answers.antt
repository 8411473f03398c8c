use Rattle.std.proofs.Common.{sym, ◌∙◌}
use Rattle.std.specs.Prelude.{nat_eq}
use Rattle.indexmap.proofs.CallerLemmas.{insert_entry-new}
use Rattle.pgspool.proofs.FirstPlaceLemmas.{noted_new, not_there}
use Rattle.pgfilespools.proofs.place.note_first.Goals as goal

pub returns-in_ok-insert-clause-ok : goal.returns-in_ok-insert-clause-ok
returns-in_ok-insert-clause-ok c =
    let new = sym c.contains_key.ensures ∙ c.if-not-contains_key.true in
    c.in_ok-insert.ensures.entries
    ∙ insert_entry-new nat_eq c.args.firsts.now c.args.subxid c.args.first (not_there _ new)
    ∙ sym (noted_new c.args.firsts.now.entries c.args.subxid c.args.first new)
