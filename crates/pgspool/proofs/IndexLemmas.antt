-- The fields of a spool after a push and after a cut.
use Rattle.std.proofs.Common.{◌≡◌, ◌+◌, ◌-◌, ◌≤◌, ℕ, List, [], ◌∷◌, ◌++◌, None, Some, take, length}
use Rattle.std.proofs.Common.{sym, ap, subst, ◌∙◌, arith, position, slice_get, zero-add, eqb, cond}
use Rattle.std.proofs.Common.{true, false}
use Rattle.std.specs.Prelude.{nat_eq, is_some}
use Rattle.std.specs.List.{AllByRecursion}
use Rattle.std.specs.Map.{keys_of, lookup}
use Rattle.std.proofs.lemmas.List.Sums.{sum_by_push}
use Rattle.pglogical.specs.Spelling.{IsSpellable}
use Rattle.pglogical.specs.declared.message.Item.{Item}
use Rattle.pgspool.specs.declared.first_place.FirstPlace.{FirstPlace}
use Rattle.pgspool.specs.Labels.{LabelledItem, cut, cost, costs}
use Rattle.pgspool.specs.FirstPlaces.{FirstPlaces, has_label, noted, first_places}
use Rattle.pgspool.specs.AreIndexed.{AreIndexed}
use Rattle.pgspool.proofs.FirstPlaceLemmas.{first_places_from_push, TellsCut, cut-seen, cut-unseen}
use Rattle.pgspool.proofs.Cuts.{costs_never_grow}

abbrev AreSpellable : List LabelledItem → Type 0
AreSpellable held = AllByRecursion (λ (l : LabelledItem). IsSpellable l.1) held

spellable_push : (held : List LabelledItem) (x : LabelledItem) → AreSpellable held → IsSpellable x.1 → AreSpellable (held ++ x ∷ [])
spellable_push [] x all is = (is, tt)
spellable_push (y ∷ ys) x all is = (all.0, spellable_push ys x all.1 is)

spellable_cut : (label : ℕ) (held : List LabelledItem) → AreSpellable held → AreSpellable (cut label held)
spellable_cut label [] all = tt
spellable_cut label (x ∷ xs) all =
    elim (eqb x.0 label) as (λ b. AreSpellable (cond b [] (x ∷ cut label xs))) [
      | true ↦ tt
      | false ↦ (all.0, spellable_cut label xs all.1)
    ]

pub AreIndexed-push : (held : List LabelledItem) (firsts : FirstPlaces) (bytes : ℕ) (label : ℕ) (item : Item) (now : FirstPlaces)
    → AreIndexed held firsts bytes → IsSpellable item → now ≡ noted firsts label (record { place = length held; bytes = bytes })
    → AreIndexed (held ++ (label, item) ∷ []) now (bytes + cost item)
AreIndexed-push held firsts bytes label item now is spellable noted_is = record {
  indexed = noted_is
      ∙ (λ i. noted (is.indexed i) label
      (record { place = sym (zero-add (length held)) i; bytes = (is.counted ∙ sym (zero-add (costs held))) i }))
      ∙ sym (first_places_from_push [] 0 0 held (label, item));
  counted = ap (λ n. n + cost item) is.counted ∙ sym (sum_by_push (λ (l : LabelledItem). cost l.1) held (label, item));
  spellable = spellable_push held (label, item) is.spellable spellable;
}

pub AreIndexed-cut : (held : List LabelledItem) (firsts : FirstPlaces) (bytes : ℕ) (label : ℕ) → AreIndexed held firsts bytes
    → (kept : List LabelledItem) (now : FirstPlaces) (left : ℕ)
    → kept ≡ cut label held → now ≡ first_places (cut label held) → left ≡ costs (cut label held) → AreIndexed kept now left
AreIndexed-cut held firsts bytes label is kept now left kept_is now_is left_is = record {
  indexed = now_is ∙ ap first_places (sym kept_is);
  counted = left_is ∙ ap costs (sym kept_is);
  spellable = subst AreSpellable (sym kept_is) (spellable_cut label held is.spellable);
}

-- what a found entry says of the cut, by the fields
pub tells_cut : (held : List LabelledItem) (firsts : FirstPlaces) (bytes : ℕ) (label index key : ℕ) (first : FirstPlace)
    → AreIndexed held firsts bytes
    → Some first ≡ lookup (nat_eq label) firsts → Some index ≡ position (nat_eq label) (keys_of firsts)
    → slice_get firsts index ≡ Some (key, first)
    → TellsCut label held firsts index first
tells_cut held firsts bytes label index key first is value found entry =
    let tells = cut-seen label held index key first
    (ap (λ l. has_label label l) (sym is.indexed) ∙ ap is_some (sym value))
    (ap (λ l. position (nat_eq label) (keys_of l)) (sym is.indexed) ∙ sym found)
    (ap (λ l. slice_get l index) (sym is.indexed) ∙ entry) in
    record { kept = tells.kept; before = ap (take index) is.indexed ∙ tells.before; bytes = tells.bytes }

pub cut_none : (held : List LabelledItem) (firsts : FirstPlaces) (bytes : ℕ) (label : ℕ) → AreIndexed held firsts bytes
    → None ≡ lookup (nat_eq label) firsts → held ≡ cut label held
cut_none held firsts bytes label is none =
    sym (cut-unseen label held (ap (λ l. has_label label l) (sym is.indexed) ∙ ap is_some (sym none)))

pub left_of_cut : (label : ℕ) (held : List LabelledItem) (bytes left : ℕ) → bytes ≡ costs held → left ≡ costs (cut label held)
    → (left ≤ bytes) × (costs (cut label held) + (bytes - left) ≡ costs held)
left_of_cut label held bytes left all kept = let less : costs (cut label held) ≤ costs held = costs_never_grow label held in
    (omega arith, omega arith)
