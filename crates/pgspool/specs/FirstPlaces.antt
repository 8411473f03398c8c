-- Where each label first stands among a transaction's items, in the order of these places.
use Rattle.std.specs.Prelude.{ℕ, List, [], ◌∷◌, ◌++◌, ◌+◌, Bool, if◌then◌else◌, is_some, nat_eq}
use Rattle.std.specs.Map.{lookup}
use Rattle.pgspool.specs.declared.first_place.FirstPlace.{FirstPlace}
use Rattle.pgspool.specs.Labels.{LabelledItem, cost}

abbrev pub FirstPlaces : Type 0
FirstPlaces = List (ℕ × FirstPlace)

abbrev pub has_label : ℕ → FirstPlaces → Bool
has_label label firsts = is_some (lookup (nat_eq label) firsts)

-- with this label's place, unless it has one
abbrev pub noted : FirstPlaces → ℕ → FirstPlace → FirstPlaces
noted firsts label first = if has_label label firsts then firsts else firsts ++ (label, first) ∷ []

-- after the items that come behind so many, which cost so many bytes
abbrev pub first_places_from : FirstPlaces → ℕ → ℕ → List LabelledItem → FirstPlaces
first_places_from firsts place bytes [] = firsts
first_places_from firsts place bytes (held ∷ rest) =
    first_places_from (noted firsts held.0 (record { place = place; bytes = bytes })) (place + 1) (bytes + cost held.1) rest

abbrev pub first_places : List LabelledItem → FirstPlaces
first_places held = first_places_from [] 0 0 held
