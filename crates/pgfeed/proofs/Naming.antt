-- Each change names where its definition stands.
use Rattle.std.proofs.Common.{◌≡◌, ◌==◌, ◌+◌, ℕ, suc, List, [], ◌∷◌, ◌++◌, length, Bool, true}
use Rattle.std.proofs.Common.{false, Option, Some, None, refl, ap, sym, ◌∙◌}
use Rattle.std.proofs.Common.{subst, cond, append_assoc}
use Rattle.std.proofs.Common.{length-append}
use Rattle.std.specs.List.{AllByRecursion}
use Rattle.pglogical.specs.declared.message.RelationDef.{RelationDef}
use Rattle.pgledger.specs.declared.image.Image.{Image}
use Rattle.pgledger.specs.Images.{Line}
use Rattle.pgfeed.specs.declared.told.Told.{Told}
use Rattle.pgfeed.specs.Reading.{AllName, ChangesNameDefinitions, Names, Stands}
use Rattle.pgfeed.specs.Texts.{body_text, fresh_text, if_there, image_line, line_of, line_text}
use Rattle.pgfeed.specs.Texts.{line_told, messages_text, named, newer, newest, place}
use Rattle.pgfeed.specs.Texts.{same_definition, table_line, told_at}
use Rattle.pgfeed.specs.Cutting.Written.{all_stand_more, line_stand, stands_more}
use Rattle.pgfeed.proofs.SameDefinition.{one_definition}

abbrev told_as : RelationDef → ℕ → Told
told_as def at = record { definition = def; offset = at }

-- where a definition is told, this very one is
told_one : (t : Told) (def : RelationDef) (at : ℕ) (of_it same : Bool) → same_definition t.definition def ≡ same
    → cond of_it (Some (cond same (Some t.offset) None)) None ≡ Some (Some at) → t ≡ told_as def at
told_one t def at true true one is =
    let same : t.definition ≡ def = one_definition t.definition def one in
    let there : t.offset ≡ at = cc in
    λ i. record { definition = same i; offset = there i }
told_one t def at true false one is = cc
told_one t def at false same one is = cc

newer_stands : (front : List ℕ) (t : Told) (more : List Told) (def : RelationDef) (at : ℕ) (found : Option (Option ℕ))
    → newest more def ≡ found → Stands front t → newer found (told_at t def) ≡ Some (Some at)
    → (newest more def ≡ Some (Some at) → Stands front (told_as def at)) → Stands front (told_as def at)
newer_stands front t more def at (Some there) found stands is later = later (found ∙ is)
newer_stands front t more def at None found stands is later =
    subst (Stands front) (told_one t def at (t.definition.oid == def.oid) (same_definition t.definition def) refl is) stands

newest_stands : (front : List ℕ) (told : List Told) (def : RelationDef) (at : ℕ) → AllByRecursion (Stands front) told
    → newest told def ≡ Some (Some at) → Stands front (told_as def at)
newest_stands front [] def at all is = cc
newest_stands front (t ∷ more) def at all is =
    newer_stands front t more def at (newest more def) refl all.0 is (λ later. newest_stands front more def at all.1 later)

there_newest : (found : Option (Option ℕ)) (at : ℕ) → if_there found ≡ Some at → found ≡ Some (Some at)
there_newest (Some place) at is = ap Some is
there_newest None at is = cc

place_stands : (front : List ℕ) (told : List Told) (def : RelationDef) (at : ℕ) → AllByRecursion (Stands front) told
    → place told def ≡ Some at → Stands front (told_as def at)
place_stands front told def at all is = newest_stands front told def at all (there_newest (newest told def) at is)

-- the first change names it
names_one : (front rest : List ℕ) (told : List Told) (n : ℕ) (def : RelationDef) (image : Image) (found : Option ℕ)
    → AllByRecursion (Stands front) told → place told def ≡ found
    → Names ((front ++ (fresh_text found def ++ image_line (named found (length front)) n image)) ++ rest) n (line_of def image)
names_one front rest told n def image (Some at) all found =
    let own : List ℕ = image_line at n image in
    record {
      at = at;
      stands = stands_more (front ++ own) rest (told_as def at)
          (stands_more front own (told_as def at) (place_stands front told def at all found));
      before = front;
      more = rest;
      is = append_assoc front own rest;
    }
names_one front rest told n def image None all found =
    let own : List ℕ = image_line (length front) n image in
    let table : List ℕ = table_line def in
    record {
      at = length front;
      stands = record {
        before = front;
        more = own ++ rest;
        is = append_assoc front (table ++ own) rest ∙ ap (λ xs. front ++ xs) (append_assoc table own rest);
        offset_is = refl;
      };
      before = front ++ table;
      more = rest;
      is = append_assoc front (table ++ own) rest ∙ ap (λ xs. front ++ xs) (append_assoc table own rest)
          ∙ sym (append_assoc front table (own ++ rest));
    }

all_named : (front : List ℕ) (told : List Told) (n : ℕ) (lines : List Line) → AllByRecursion (Stands front) told
    → AllName (front ++ body_text told (length front) n lines) n lines
unfolding body_text
all_named front told n [] all = tt
all_named front told n (line ∷ lines) all =
    let own : List ℕ = line_text told (length front) n line in
    let after : List Told = line_told told (length front) line in
    let rest : List ℕ = body_text after (length front + length own) (suc n) lines in
    let split : (front ++ own) ++ rest ≡ front ++ (own ++ rest) = append_assoc front own rest in
    let more : AllName ((front ++ own) ++ body_text after (length (front ++ own)) (suc n) lines) (suc n) lines =
    all_named (front ++ own) after (suc n) lines (line_stand front told n line all) in
    let there : AllName ((front ++ own) ++ rest) (suc n) lines =
    subst (λ at. AllName ((front ++ own) ++ body_text after at (suc n) lines) (suc n) lines) (length-append front own) more in (
      subst (λ text. Names text n line) split
          (names_one front rest told n line.definition line.image (place told line.definition) all refl),
      subst (λ text. AllName text (suc n) lines) split there,
    )

pub name_definitions : ChangesNameDefinitions
name_definitions front e body is =
    let heard : List ℕ = messages_text e.messages in
    let changes : List ℕ = body_text is.told (length front + length heard) 0 e.lines in
    let there : AllName ((front ++ heard) ++ changes) 0 e.lines =
    subst (λ at. AllName ((front ++ heard) ++ body_text is.told at 0 e.lines) 0 e.lines) (length-append front heard)
    (all_named (front ++ heard) is.told 0 e.lines (all_stand_more front heard is.told is.stand)) in
    subst (λ text. AllName text 0 e.lines) (append_assoc front heard changes ∙ ap (λ xs. front ++ xs) (sym is.body_is)) there
