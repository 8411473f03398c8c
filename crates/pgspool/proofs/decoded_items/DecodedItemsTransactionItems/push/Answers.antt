use Rattle.std.proofs.Common.{◌≡◌, ◌++◌, ◌∷◌, [], length, ap, sym, subst, ◌∙◌, rules}
use Rattle.pglogical.specs.Spelling.{IsSpellable}
use Rattle.pgspool.specs.Labels.{cost}
use Rattle.pgspool.specs.FirstPlaces.{noted}
use Rattle.pgspool.proofs.IndexLemmas.{AreIndexed-push}
use Rattle.pgspool.proofs.decoded_items.DecodedItemsTransactionItems.push.Goals as goal

pub invariant_of-self-2 : goal.invariant_of-self-2
invariant_of-self-2 c =
    let copied = c.in-Ok.ensures.same in
    let place = c.len.ensures ∙ c.reserve.new.self.ok.0 ∙ ap length c.reserve.ensures.items in
    let noted_is = c.in_ok-note_first.ensures.ok
    ∙ ap (λ n. noted c.self.inside.firsts.entries c.args.subxid (record { place = n; bytes = c.self.inside.bytes })) place in
    let spellable = subst IsSpellable (sym copied) c.requires.spellable in
    let indexed = AreIndexed-push c.self.inside.items.items _ c.self.inside.bytes c.args.subxid c.in-Ok.copy c.note_first.new.firsts.entries
    c.self.invariant spellable noted_is in
    let items : c.push.new.self.items ≡ c.self.inside.items.items ++ (c.args.subxid, c.in-Ok.copy) ∷ [] =
    search rules in
    rw (items, c.requires.counted ∙ ap cost (sym copied)) indexed
