use Rattle.std.proofs.Common.{◌≡◌, ◌++◌, ◌∷◌, ◌+◌, [], List, length, ap, ◌∙◌, rules}
use Rattle.pglogical.specs.Spelling.{item_spelling}
use Rattle.std.specs.Prelude.{None}
use Rattle.pgspool.specs.declared.mark.Mark.{Mark}
use Rattle.pgspool.specs.Labels.{LabelledItem}
use Rattle.pgspool.specs.FirstPlaces.{noted}
use Rattle.pgspool.specs.Marks.{held_in}
use Rattle.pgspool.specs.AreEncoded.{AreEncoded}
use Rattle.pgspool.proofs.EncodedLemmas.{pushed, seen, kept, count_is}
use Rattle.pgspool.proofs.encoded_items.EncodedItemsTransactionItems.push.Goals.{After-unwrap-2}
use Rattle.pgspool.proofs.encoded_items.EncodedItemsTransactionItems.push.Goals as goal

after : (c : After-unwrap-2)
    → AreEncoded (held_in c.self.inside.marks.items c.self.inside.buffer.items ++ (c.args.subxid, c.args.item.now) ∷ [])
    c.push.new.self.items c.encode_item.new.out.items c.note_first.new.firsts.entries (c.self.inside.bytes + c.args.bytes)
after c =
    let place = c.len.ensures ∙ c.reserve-2.new.self.ok.0 ∙ ap length c.reserve-2.ensures.items ∙ count_is _ _ _ _ _ c.self.invariant in
    let noted_is : c.note_first.new.firsts.entries
    ≡ noted c.self.inside.firsts.entries c.args.subxid (record { place = c.len.result; bytes = c.self.inside.bytes }) = search rules in
    let noted_here = noted_is
    ∙ ap (λ n. noted c.self.inside.firsts.entries c.args.subxid (record { place = n; bytes = c.self.inside.bytes })) place in
    let start : c.len-start.result ≡ length c.self.inside.buffer.items =
    c.len-start.ensures ∙ c.reserve.new.self.ok.0 ∙ ap length c.reserve.ensures.items in
    let written : c.encode_item.new.out.items ≡ c.self.inside.buffer.items ++ item_spelling None c.args.item.now =
    c.in-Ok.ensures.ok ∙ ap (λ b. b ++ item_spelling None c.args.item.now) c.reserve.ensures.items in
    let mark : Mark = record { subxid = c.args.subxid; start = c.len-start.result } in
    let marks : c.push.new.self.items ≡ c.self.inside.marks.items ++ mark ∷ [] =
    search rules in
    rw (marks, start, written, c.requires.counted)
    (pushed _ _ _ _ _ c.self.invariant c.args.subxid c.args.item.now c.note_first.new.firsts.entries c.requires.spellable
    c.can_be_read.ensures noted_here)

pub invariant_of-self-2 : goal.invariant_of-self-2
invariant_of-self-2 c = kept _ _ _ _ _ (after (goal.at.invariant_of-self-2 c).After-unwrap-2)

pub returns-clause-ok : goal.returns-clause-ok
returns-clause-ok c = seen _ _ _ _ _ (after (goal.at.returns-clause-ok c).After-unwrap-2)
    ∙ ap (λ (held : List LabelledItem). held ++ (c.args.subxid, c.args.item.now) ∷ []) (c.self.view_is ∙ c.give_back_spare.ensures)
