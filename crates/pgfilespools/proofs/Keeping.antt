-- A transaction's items, by its fields.
use Rattle.std.proofs.Common.{◌≡◌, ◌+◌, ◌-◌, ◌≤◌, ℕ, List, ◌∷◌, ◌++◌, [], take, length, sym, ap}
use Rattle.std.proofs.Common.{subst, ◌∙◌, arith, length-append}
use Rattle.std.specs.Prelude.{Option, min}
use Rattle.std.proofs.lemmas.List.{length-take}
use Rattle.pgspill.specs.declared.piece.Owner.{Owner}
use Rattle.pgspill.specs.Strands.{IsStrand, strand_bytes}
use Rattle.pgspool.specs.declared.first_place.FirstPlace.{FirstPlace}
use Rattle.pgspool.specs.Labels.{LabelledItem, cut, cost, costs}
use Rattle.pgspool.specs.FirstPlaces.{noted}
use Rattle.pgspool.proofs.FirstPlaceLemmas.{TellsCut}
use Rattle.pgspool.proofs.IndexLemmas.{left_of_cut}
use Rattle.pglogical.specs.declared.message.Item.{Item}
use Rattle.pglogical.specs.Spelling.{IsSpellable}
use Rattle.pgfilespools.specs.declared.file_items.FileItems.{FileItems}
use Rattle.pgfilespools.specs.Stored.{stored_item, IsStorable, AreItems}
use Rattle.pgfilespools.specs.AreStored.{AreStored}
use Rattle.pgfilespools.specs.Parts.{AreParts}
use Rattle.pgfilespools.specs.Kept.{AreKept, items_kept}
use Rattle.pgfilespools.proofs.Reading.{length-items_in}
use Rattle.pgfilespools.proofs.Parting.{parts-more}
use Rattle.pgfilespools.proofs.Storing.{items_are, stored_more, stored_less}

-- the items of fields that are kept of them
pub kept_as : (key : ℕ) (file : List ℕ) (owners : List (Option Owner)) (t : FileItems) (held : List LabelledItem)
    → IsStrand key file owners t.strand → AreStored held (strand_bytes file t.strand) t.firsts.entries t.bytes
    → AreParts held t.parts.items → t.count ≡ length held → AreKept key file owners t × (items_kept file t ≡ held)
kept_as key file owners t held strand stored parts count =
    let same = items_are held (strand_bytes file t.strand) t.firsts.entries t.bytes stored t.count count in (
      record {
        strand = strand;
        stored = subst (λ (h : List LabelledItem). AreStored h (strand_bytes file t.strand) t.firsts.entries t.bytes) (sym same) stored;
        parts = subst (λ (h : List LabelledItem). AreParts h t.parts.items) (sym same) parts;
      },
      same,
    )

module _ (key : ℕ) (file : List ℕ) (owners : List (Option Owner)) (old : FileItems) (is : AreKept key file owners old) where
  abbrev held : List LabelledItem
  held = items_kept file old

  pub count_is : old.count ≡ length held
  count_is = sym (length-items_in old.count (strand_bytes file old.strand))

  -- the bytes are those of its items
  pub are_items : (bytes : List ℕ) → bytes ≡ strand_bytes file old.strand → AreItems old.count bytes
  are_items bytes same = record {
    held = held;
    all = sym count_is;
    written = same ∙ is.stored.written;
    storable = is.stored.storable;
  }

  -- the same bytes, with the same notes beside them
  pub same_items : (key' : ℕ) (file' : List ℕ) (owners' : List (Option Owner)) (new : FileItems) → IsStrand key' file' owners' new.strand
      → strand_bytes file' new.strand ≡ strand_bytes file old.strand → new.firsts.entries ≡ old.firsts.entries
      → AreParts held new.parts.items → new.count ≡ old.count → new.bytes ≡ old.bytes
      → AreKept key' file' owners' new × (items_kept file' new ≡ held)
  same_items key' file' owners' new strand bytes firsts parts count sum =
      kept_as key' file' owners' new held strand (rw (bytes, firsts, sum) is.stored) parts (count ∙ count_is)

  -- one item more
  pub more_items : (new : FileItems) (label : ℕ) (item : Item) → IsStrand key file owners new.strand
      → strand_bytes file new.strand ≡ strand_bytes file old.strand ++ stored_item (label, item)
      → new.firsts.entries ≡ noted old.firsts.entries label (record { place = old.count; bytes = old.bytes })
      → AreParts held new.parts.items → new.count ≡ old.count + 1 → new.bytes ≡ old.bytes + cost item
      → IsSpellable item → IsStorable (label, item)
      → AreKept key file owners new × (items_kept file new ≡ held ++ (label, item) ∷ [])
  more_items new label item strand bytes firsts parts count sum spellable storable =
      let stored = stored_more held (strand_bytes file old.strand) old.firsts.entries old.bytes is.stored label item new.firsts.entries
      old.count count_is spellable storable firsts in
      let one_more : length (held ++ (label, item) ∷ []) ≡ old.count + 1 =
      omega (arith, length-append held ((label, item) ∷ []), count_is) in
      kept_as key file owners new (held ++ (label, item) ∷ []) strand (rw (bytes, sum) stored)
      (parts-more held ((label, item) ∷ []) new.parts.items parts) (count ∙ sym one_more)

  -- those before the first one under a label
  pub fewer_items : (key' : ℕ) (file' : List ℕ) (owners' : List (Option Owner)) (new : FileItems) (label index : ℕ) (first : FirstPlace)
      → TellsCut label held old.firsts.entries index first → IsStrand key' file' owners' new.strand
      → strand_bytes file' new.strand ≡ take first.bytes (strand_bytes file old.strand)
      → new.firsts.entries ≡ take index old.firsts.entries → AreParts (take first.place held) new.parts.items
      → new.count ≡ min old.count first.place → new.bytes ≡ first.bytes
      → AreKept key' file' owners' new × (items_kept file' new ≡ cut label held)
  fewer_items key' file' owners' new label index first tells strand bytes firsts parts count sum =
      let stored = stored_less held (strand_bytes file old.strand) old.firsts.entries old.bytes is.stored label index first
      new.firsts.entries tells firsts in
      let long : length (cut label held) ≡ new.count =
      ap length (sym tells.kept) ∙ omega (arith, length-take first.place held, count_is, count) in
      kept_as key' file' owners' new (cut label held) strand (rw (bytes, sum) stored)
      (subst (λ (h : List LabelledItem). AreParts h new.parts.items) tells.kept parts) (sym long)

  -- what the others cost
  pub freed : (label left : ℕ) → left ≡ costs (cut label held)
      → (left ≤ old.bytes) × (costs (cut label held) + (old.bytes - left) ≡ costs held)
  freed label left is_left = left_of_cut label held old.bytes left is.stored.index.counted is_left
