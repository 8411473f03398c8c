-- Items that are borrowed or copied, one after the other.
use Rattle.std.proofs.Common.{◌≡◌, ◌<◌, ◌+◌, ◌++◌, ◌∷◌, [], ℕ, zero, suc, List, Some, take, refl}
use Rattle.std.proofs.Common.{ap, ◌∙◌, sym, subst, length, arith}
use Rattle.std.specs.Prelude.{Option, IsSome, option_map, slice_get}
use Rattle.std.proofs.lemmas.List.{take_more}
use Rattle.std.proofs.lemmas.Option.{slice_get_within, get_or_from_slice_get}
use Rattle.pglogical.specs.declared.message.Item.{Item}
use Rattle.pgspool.specs.Labels.{LabelledItem, items_of}

slice_get-items_of : (held : List LabelledItem) (place : ℕ)
    → option_map (λ (l : LabelledItem). l.1) (slice_get held place) ≡ slice_get (items_of held) place
slice_get-items_of [] place = refl
slice_get-items_of (l ∷ held) zero = refl
slice_get-items_of (l ∷ held) (suc place) = slice_get-items_of held place

pub taken_item : (held : List LabelledItem) (place : ℕ) (item : Item)
    → Some item ≡ option_map (λ (l : LabelledItem). l.1) (slice_get held place)
    → take place (items_of held) ++ item ∷ [] ≡ take (place + 1) (items_of held)
taken_item held place item found =
    let there : slice_get (items_of held) place ≡ Some item = sym (found ∙ slice_get-items_of held place) in
    sym (take_more (items_of held) place item (slice_get_within (items_of held) place item there)
    ∙ ap (λ y. take place (items_of held) ++ y ∷ []) (get_or_from_slice_get (items_of held) place item item there))

-- there is one at each index below their number
pub item_there : (held : List LabelledItem) (index : ℕ) (item : Option Item)
    → item ≡ option_map (λ (l : LabelledItem). l.1) (slice_get held index) → index < length held → IsSome item
item_there [] index item is below = absurd (omega arith)
item_there (l ∷ held) zero item is below = subst IsSome (sym is) refl
item_there (l ∷ held) (suc index) item is below = item_there held index item is (omega arith)
