-- What is stored, after a push and after a cut.
use Rattle.std.proofs.Common.{◌≡◌, ◌+◌, ◌-◌, ◌<◌, ℕ, suc, true, false, List, [], ◌∷◌, ◌++◌, take}
use Rattle.std.proofs.Common.{length, refl, sym, ap, subst, ◌∙◌, arith, eqb, cond, append_assoc}
use Rattle.std.proofs.Common.{None, Some}
use Rattle.std.specs.Prelude.{Option}
use Rattle.std.specs.List.{AllByRecursion}
use Rattle.std.proofs.lemmas.List.{append-nil, take_at}
use Rattle.std.proofs.lemmas.Grind.{flat_map-append}
use Rattle.pglogical.specs.declared.message.Item.{Item}
use Rattle.pglogical.specs.declared.message.Message.{Message}
use Rattle.pglogical.specs.declared.message.Message.TheVariants as message
use Rattle.pglogical.specs.Spelling.{IsSpellable, Says, item_spelling, message_spelling}
use Rattle.pglogical.proofs.WireLaws.{message_is_spellable}
use Rattle.pgspool.specs.declared.first_place.FirstPlace.{FirstPlace}
use Rattle.pgspool.specs.Labels.{LabelledItem, cut, cost}
use Rattle.pgspool.specs.Laws.{cut_away}
use Rattle.pgspool.specs.FirstPlaces.{FirstPlaces, noted}
use Rattle.pgspool.proofs.Cuts.{cut-append-cut_away}
use Rattle.pgspool.proofs.FirstPlaceLemmas.{TellsCut}
use Rattle.pgspool.proofs.IndexLemmas.{AreIndexed-push, AreIndexed-cut}
use Rattle.pgfilespools.specs.Stored.{stored_item, stored, first_at, others_at, items_in}
use Rattle.pgfilespools.specs.Stored.{IsStorable}
use Rattle.pgfilespools.specs.AreStored.{AreStored}
use Rattle.pgfilespools.proofs.Reading.{stored-push, length-stored, items_again}

-- ---- what the bytes say

spelled_outside : (xid : Option ℕ) (item : Item) (bytes : List ℕ) → Says false (message.Item xid item) bytes
    → bytes ≡ item_spelling None item
unfolding message_spelling
spelled_outside None item bytes says = says.spelled
spelled_outside (Some x) item bytes says = absurd says.xid

pub says_item : (m : Message) (bytes : List ℕ) (xid : Option ℕ) (item : Item) → Says false m bytes → m ≡ message.Item xid item
    → (bytes ≡ item_spelling None item) × IsSpellable item
says_item m bytes xid item says is =
    let here : Says false (message.Item xid item) bytes = subst (λ (x : Message). Says false x bytes) is says in
    (spelled_outside xid item bytes here, message_is_spellable (message.Item xid item) here.wire)

-- one item more was read
pub one_more : (n i : ℕ) (rest rest' : List ℕ) (items items' all : List LabelledItem) → i < n → items ++ items_in (n - i) rest ≡ all
    → items' ≡ items ++ first_at rest ∷ [] → rest' ≡ others_at rest → items' ++ items_in (n - (i + 1)) rest' ≡ all
one_more n i rest rest' items items' all lt is added others =
    let left : n - i ≡ suc (n - (i + 1)) = omega arith in
    (λ k. added k ++ items_in (n - (i + 1)) (others k))
    ∙ append_assoc items (first_at rest ∷ []) (items_in (n - (i + 1)) (others_at rest))
    ∙ ap (λ (m : ℕ). items ++ items_in m rest) (sym left) ∙ is

-- ---- the fields

pub nothing_stored : (bytes : List ℕ) (firsts : FirstPlaces) → bytes ≡ [] → firsts ≡ [] → AreStored [] bytes firsts 0
nothing_stored bytes firsts none no_label = record {
  index = record { indexed = no_label; counted = refl; spellable = tt };
  written = none;
  storable = tt;
}

storable-push : (held : List LabelledItem) (l : LabelledItem) → AllByRecursion IsStorable held → IsStorable l
    → AllByRecursion IsStorable (held ++ l ∷ [])
storable-push [] l all is = (is, tt)
storable-push (h ∷ hs) l all is = (all.0, storable-push hs l all.1 is)

storable-cut : (label : ℕ) (held : List LabelledItem) → AllByRecursion IsStorable held → AllByRecursion IsStorable (cut label held)
storable-cut label [] all = tt
storable-cut label (x ∷ xs) all =
    elim (eqb x.0 label) as (λ b. AllByRecursion IsStorable (cond b [] (x ∷ cut label xs))) [
      | true ↦ tt
      | false ↦ (all.0, storable-cut label xs all.1)
    ]

module _ (held : List LabelledItem) (bytes : List ℕ) (firsts : FirstPlaces) (sum : ℕ) (is : AreStored held bytes firsts sum) where
  pub items_are : (n : ℕ) → n ≡ length held → items_in n bytes ≡ held
  items_are n count =
      (λ i. items_in (count i) ((is.written ∙ sym (append-nil (stored held))) i)) ∙ items_again held [] is.storable

  pub stored_more : (label : ℕ) (item : Item) (now : FirstPlaces) (count : ℕ) → count ≡ length held → IsSpellable item
      → IsStorable (label, item) → now ≡ noted firsts label (record { place = count; bytes = sum })
      → AreStored (held ++ (label, item) ∷ []) (bytes ++ stored_item (label, item)) now (sum + cost item)
  stored_more label item now count count_is spellable storable noted_is = record {
    index = AreIndexed-push held firsts sum label item now is.index spellable
        (noted_is ∙ ap (λ (n : ℕ). noted firsts label (record { place = n; bytes = sum })) count_is);
    written = ap (λ (b : List ℕ). b ++ stored_item (label, item)) is.written ∙ sym (stored-push held (label, item));
    storable = storable-push held (label, item) is.storable storable;
  }

  pub stored_less : (label index : ℕ) (first : FirstPlace) (now : FirstPlaces) → TellsCut label held firsts index first
      → now ≡ take index firsts → AreStored (cut label held) (take first.bytes bytes) now first.bytes
  stored_less label index first now tells now_is =
      let front = stored (cut label held) in
      let both : bytes ≡ front ++ stored (cut_away label held) =
      is.written ∙ ap stored (sym (cut-append-cut_away label held)) ∙ flat_map-append stored_item (cut label held) (cut_away label held) in
      let long : length front ≡ first.bytes = length-stored (cut label held) ∙ sym tells.bytes in
      record {
        index = AreIndexed-cut held firsts sum label is.index (cut label held) now first.bytes refl (now_is ∙ tells.before) tells.bytes;
        written = ap (take first.bytes) both ∙ take_at front (stored (cut_away label held)) first.bytes long;
        storable = storable-cut label held is.storable;
      }
