use Rattle.std.proofs.Common.{◌≡◌, true, sym, ◌∙◌}
use Rattle.pgverify.proofs.Laid.{lists_it}
use Rattle.pgverify.proofs.verify.lists_store.Goals as goal

pub returns-in-Some-remains_of : goal.returns-in-Some-remains_of
returns-in-Some-remains_of g c clean is =
    let whole : c.is_whole.result ≡ true = cc in
    lists_it (g.S.Store.view c.args.store.now) c.in-Some.schema c.in-Some-remains_of.left
    (sym (c.is_broken.ensures clean) ∙ c.if-is_broken.false) (rw c.in-Some.is at (c.in_ok-schema.ensures clean))
    c.in-Some-remains_of.ensures (sym c.is_whole.ensures ∙ whole)
