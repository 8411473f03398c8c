-- The lines of a commit's changes, one after the other.
use Rattle.std.proofs.Common.{◌≡◌, ◌<◌, zero, min, length-append, ◌⊎◌, inl, inr, subst, ◌+◌, ℕ, suc}
use Rattle.std.proofs.Common.{List, [], ◌∷◌, ◌++◌, Option, Some, refl}
use Rattle.std.proofs.Common.{ap, ◌∙◌, sym, append_assoc, append-nil, length, arith}
use Rattle.std.specs.Prelude.{slice_get}
use Rattle.std.specs.List.{AllByRecursion}
use Rattle.pglogical.specs.declared.message.RelationDef.{RelationDef}
use Rattle.pgapply.specs.declared.commit.About.{About}
use Rattle.pgapply.specs.declared.op.Op.{Op}
use Rattle.pgapply.specs.Works.{IsNumbered, change_values, defined_by}
use Rattle.pgapply.specs.Apply.{Change}
use Rattle.pgledger.specs.declared.heard.Heard.{Heard}
use Rattle.pgledger.specs.declared.image.Image.{Image}
use Rattle.pgledger.specs.Images.{Line, lines}
use Rattle.pgledger.specs.Entries.{entry_of}
use Rattle.pgfeed.specs.declared.told.Told.{Told}
use Rattle.pgfeed.specs.Fits.{FitsEntry, FitsLine}
use Rattle.pgcrc.specs.Crc.{crc32}
use Rattle.pgfeed.specs.Texts.{body_text, commit_told, crc_text, entry_body, entry_crc, entry_text}
use Rattle.pgfeed.specs.Texts.{fresh_text, image_line, line_of, line_text, line_told, messages_text}
use Rattle.pgfeed.specs.Texts.{named, padded, place, told_after}

-- the first line
next_line : (defs : List RelationDef) (entry : ℕ × Op) (entries : List (ℕ × Op)) (image : Image) (images : List Image)
    (def : RelationDef) → slice_get defs entry.0 ≡ Some def
    → lines (change_values defs (entry ∷ entries)) (image ∷ images) ≡ line_of def image ∷ lines (change_values defs entries) images
next_line defs entry entries image images def is = rw is refl

first_line : (defs : List RelationDef) (def : RelationDef) (entry : ℕ × Op) (image : Image) (entries more : List (ℕ × Op))
    (images others : List Image) → entries ≡ entry ∷ more → images ≡ image ∷ others → slice_get defs entry.0 ≡ Some def
    → lines (change_values defs entries) images ≡ line_of def image ∷ lines (change_values defs more) others
first_line defs def entry image entries more images others first second is =
    rw (first, second) (next_line defs entry more image others def is)

pub text_next : (told : List Told) (at n : ℕ) (line : Line) (more : List Line)
    → body_text told at n (line ∷ more)
    ≡ line_text told at n line ++ body_text (line_told told at line) (at + length (line_text told at n line)) (suc n) more
unfolding body_text
text_next told at n line more = refl

pub told_next : (told : List Told) (at n : ℕ) (line : Line) (more : List Line)
    → told_after told at n (line ∷ more)
    ≡ told_after (line_told told at line) (at + length (line_text told at n line)) (suc n) more
unfolding told_after
told_next told at n line more = refl

-- the text so far, with the lines to come
text_step : (all text next : List ℕ) (told told' : List Told) (start n m : ℕ) (line : Line) (here more : List Line)
    → text ++ body_text told (start + length text) n here ≡ all → here ≡ line ∷ more
    → next ≡ text ++ line_text told (start + length text) n line → told' ≡ line_told told (start + length text) line → m ≡ n + 1
    → next ++ body_text told' (start + length next) m more ≡ all
text_step all text next told told' start n m line here more so is adds tells count =
    let at : ℕ = start + length text in
    let own : List ℕ = line_text told at n line in
    let after : List Told = line_told told at line in
    let offset : start + length next ≡ at + length own = omega (arith, ap length adds, length-append text own) in
    let one : m ≡ suc n = omega (arith, count) in
    ap (λ xs. xs ++ body_text told' (start + length next) m more) adds
    ∙ append_assoc text own (body_text told' (start + length next) m more)
    ∙ ap (λ t. text ++ (own ++ body_text t (start + length next) m more)) tells
    ∙ ap (λ k. text ++ (own ++ body_text after k m more)) offset
    ∙ ap (λ k. text ++ (own ++ body_text after (at + length own) k more)) one
    ∙ ap (λ xs. text ++ xs) (sym (text_next told at n line more)) ∙ ap (λ ls. text ++ body_text told at n ls) (sym is) ∙ so

told_step : (all told told' : List Told) (text next : List ℕ) (start n m : ℕ) (line : Line) (here more : List Line)
    → told_after told (start + length text) n here ≡ all → here ≡ line ∷ more
    → next ≡ text ++ line_text told (start + length text) n line → told' ≡ line_told told (start + length text) line → m ≡ n + 1
    → told_after told' (start + length next) m more ≡ all
told_step all told told' text next start n m line here more so is adds tells count =
    let at : ℕ = start + length text in
    let own : List ℕ = line_text told at n line in
    let after : List Told = line_told told at line in
    let offset : start + length next ≡ at + length own = omega (arith, ap length adds, length-append text own) in
    let one : m ≡ suc n = omega (arith, count) in
    ap (λ t. told_after t (start + length next) m more) tells ∙ ap (λ k. told_after after k m more) offset
    ∙ ap (λ k. told_after after (at + length own) k more) one ∙ sym (told_next told at n line more)
    ∙ ap (told_after told at n) (sym is) ∙ so

-- the definition, unless it is told, and then the change
pub line_adds : (text front next : List ℕ) (told : List Told) (at n offset : ℕ) (def : RelationDef) (image : Image)
    → front ≡ text ++ fresh_text (place told def) def → next ≡ front ++ image_line offset n image
    → offset ≡ named (place told def) at → next ≡ text ++ line_text told at n (line_of def image)
line_adds text front next told at n offset def image fronts adds names =
    adds ∙ ap (λ xs. xs ++ image_line offset n image) fronts
    ∙ append_assoc text (fresh_text (place told def) def) (image_line offset n image)
    ∙ ap (λ k. text ++ (fresh_text (place told def) def ++ image_line k n image)) names

-- one change more, of which the first is left
pub change_step : (all text next : List ℕ) (told told' : List Told) (start at : ℕ) (defs : List RelationDef) (n place m : ℕ)
    (def : RelationDef) (entry : ℕ × Op) (image : Image) (entries more : List (ℕ × Op)) (images others : List Image)
    → text ++ body_text told (start + length text) place (lines (change_values defs entries) images) ≡ all → entries ≡ entry ∷ more
    → images ≡ image ∷ others → slice_get defs entry.0 ≡ Some def → at ≡ start + length text
    → next ≡ text ++ line_text told at n (line_of def image) → told' ≡ line_told told at (line_of def image) → n ≡ place → m ≡ place + 1
    → next ++ body_text told' (start + length next) m (lines (change_values defs more) others) ≡ all
change_step all text next told told' start at defs n place m def entry image entries more images others so first second is offset adds
    tells number count =
    let here = first_line defs def entry image entries more images others first second is in
    let line : Line = line_of def image in
    let adds' : next ≡ text ++ line_text told (start + length text) place line =
    subst (λ k. next ≡ text ++ line_text told (start + length text) k line) number
    (subst (λ k. next ≡ text ++ line_text told k n line) offset adds) in
    let tells' : told' ≡ line_told told (start + length text) line = subst (λ k. told' ≡ line_told told k line) offset tells in
    text_step all text next told told' start place m line (lines (change_values defs entries) images)
    (lines (change_values defs more) others) so here adds' tells' count

pub change_told : (all told told' : List Told) (text next : List ℕ) (start at : ℕ) (defs : List RelationDef) (n place m : ℕ)
    (def : RelationDef) (entry : ℕ × Op) (image : Image) (entries more : List (ℕ × Op)) (images others : List Image)
    → told_after told (start + length text) place (lines (change_values defs entries) images) ≡ all → entries ≡ entry ∷ more
    → images ≡ image ∷ others → slice_get defs entry.0 ≡ Some def → at ≡ start + length text
    → next ≡ text ++ line_text told at n (line_of def image) → told' ≡ line_told told at (line_of def image) → n ≡ place → m ≡ place + 1
    → told_after told' (start + length next) m (lines (change_values defs more) others) ≡ all
change_told all told told' text next start at defs n place m def entry image entries more images others so first second is offset adds
    tells number count =
    let here = first_line defs def entry image entries more images others first second is in
    let line : Line = line_of def image in
    let adds' : next ≡ text ++ line_text told (start + length text) place line =
    subst (λ k. next ≡ text ++ line_text told (start + length text) k line) number
    (subst (λ k. next ≡ text ++ line_text told k n line) offset adds) in
    let tells' : told' ≡ line_told told (start + length text) line = subst (λ k. told' ≡ line_told told k line) offset tells in
    told_step all told told' text next start place m line (lines (change_values defs entries) images)
    (lines (change_values defs more) others) so here adds' tells' count

-- nothing is left where one of both is at its end
empty : {A : Type 0} (xs : List A) → length xs ≡ 0 → xs ≡ []
empty [] e = refl
empty (x ∷ xs) e = absurd (omega arith)

no_lines : (changes : List Change) → lines changes [] ≡ []
no_lines [] = refl
no_lines (change ∷ changes) = refl

none_left : (defs : List RelationDef) (entries : List (ℕ × Op)) (images : List Image) → (length entries ≡ 0) ⊎ (length images ≡ 0)
    → lines (change_values defs entries) images ≡ []
none_left defs entries images (inl none) = rw (empty entries none) refl
none_left defs entries images (inr none) = rw (empty images none) (no_lines (change_values defs entries))

pub no_text : (told : List Told) (at n : ℕ) → body_text told at n [] ≡ []
unfolding body_text
no_text told at n = refl

pub none_told : (told : List Told) (at n : ℕ) → told_after told at n [] ≡ told
unfolding told_after
none_told told at n = refl

pub all_text : (all text : List ℕ) (told : List Told) (defs : List RelationDef) (at n : ℕ) (entries : List (ℕ × Op)) (images : List Image)
    → text ++ body_text told at n (lines (change_values defs entries) images) ≡ all → (length entries ≡ 0) ⊎ (length images ≡ 0)
    → text ≡ all
all_text all text told defs at n entries images so none =
    sym (append-nil text)
    ∙ ap (λ rest. text ++ rest) (sym (ap (body_text told at n) (none_left defs entries images none) ∙ no_text told at n)) ∙ so

pub all_told : (all told : List Told) (defs : List RelationDef) (at n : ℕ) (entries : List (ℕ × Op)) (images : List Image)
    → told_after told at n (lines (change_values defs entries) images) ≡ all → (length entries ≡ 0) ⊎ (length images ≡ 0) → told ≡ all
all_told all told defs at n entries images so none =
    sym (ap (told_after told at n) (none_left defs entries images none) ∙ none_told told at n) ∙ so

-- each entry has its change, where its definition is there
defined_one : (defs : List RelationDef) (number : ℕ) (op : Op) → number < length defs → length (defined_by (slice_get defs number) op) ≡ 1
defined_one [] number op lt = absurd (omega arith)
defined_one (def ∷ defs) zero op lt = refl
defined_one (def ∷ defs) (suc number) op lt = defined_one defs number op (omega arith)

changes_length : (defs : List RelationDef) (entries : List (ℕ × Op)) → AllByRecursion (IsNumbered defs) entries
    → length (change_values defs entries) ≡ length entries
changes_length defs [] numbered = refl
changes_length defs (entry ∷ entries) numbered =
    length-append (defined_by (slice_get defs entry.0) entry.1) (change_values defs entries)
    ∙ (let one = defined_one defs entry.0 entry.1 numbered.0 in let more = changes_length defs entries numbered.1 in omega arith)

lines_length : (changes : List Change) (images : List Image) → length (lines changes images) ≡ min (length changes) (length images)
lines_length [] images = omega arith
lines_length (change ∷ changes) [] = omega arith
lines_length (change ∷ changes) (image ∷ images) = let more = lines_length changes images in omega arith

pub counted : (count : ℕ) (defs : List RelationDef) (entries : List (ℕ × Op)) (changes : List Change) (images : List Image)
    → change_values defs entries ≡ changes → AllByRecursion (IsNumbered defs) entries
    → count ≡ min (length entries) (length images) → count ≡ length (lines changes images)
counted count defs entries changes images made numbered many =
    many ∙ ap (λ k. min k (length images)) (sym (changes_length defs entries numbered) ∙ ap length made) ∙ sym (lines_length changes images)

body_of : (body heard : List ℕ) (told : List Told) (start : ℕ) (defs : List RelationDef) (entries : List (ℕ × Op)) (changes : List Change)
    (images : List Image) → change_values defs entries ≡ changes
    → body ≡ heard ++ body_text told (start + length heard) 0 (lines (change_values defs entries) images)
    → body ≡ heard ++ body_text told (start + length heard) 0 (lines changes images)
body_of body heard told start defs entries changes images made is =
    is ∙ ap (λ them. heard ++ body_text told (start + length heard) 0 (lines them images)) made

pub told_of : (after told : List Told) (start : ℕ) (defs : List RelationDef) (entries : List (ℕ × Op)) (changes : List Change)
    (images : List Image) → change_values defs entries ≡ changes
    → after ≡ told_after told start 0 (lines (change_values defs entries) images) → after ≡ told_after told start 0 (lines changes images)
told_of after told start defs entries changes images made is = is ∙ ap (λ them. told_after told start 0 (lines them images)) made

-- The text is the line of the commit, and then its lines. `front` is what the line tells before its
-- checksum.
pub entry_is : (text line front body : List ℕ) (told : List Told) (start prev end count crc : ℕ) (about : Option About)
    (messages : List Heard) (defs : List RelationDef) (entries : List (ℕ × Op)) (changes : List Change) (images : List Image)
    → change_values defs entries ≡ changes → AllByRecursion (IsNumbered defs) entries
    → body ≡ messages_text messages
    ++ body_text told (start + length (messages_text messages)) 0 (lines (change_values defs entries) images)
    → count ≡ min (length entries) (length images)
    → front ≡ commit_told end prev (length body) count about → crc ≡ crc32 (front ++ body) → line ≡ padded 256 (front ++ crc_text crc)
    → text ≡ line ++ body
    → text ≡ entry_text prev (entry_of end about messages changes images)
    (entry_body told start (entry_of end about messages changes images))
unfolding entry_text entry_crc
entry_is text line front body told start prev end count crc about messages defs entries changes images made numbered is many tells sums
    heads whole =
    let count_is = counted count defs entries changes images made numbered many in
    let body_is = body_of body (messages_text messages) told start defs entries changes images made is in
    rw (whole, heads, sums, tells, count_is, body_is) refl

pub entry_fits : (body : List ℕ) (told : List Told) (start prev end long count : ℕ) (about : Option About) (messages : List Heard)
    (defs : List RelationDef) (entries : List (ℕ × Op)) (changes : List Change) (images : List Image)
    → change_values defs entries ≡ changes → AllByRecursion (IsNumbered defs) entries
    → body ≡ messages_text messages
    ++ body_text told (start + length (messages_text messages)) 0 (lines (change_values defs entries) images)
    → count ≡ min (length entries) (length images)
    → long ≡ length body → FitsLine end prev long count about
    → FitsEntry prev (entry_of end about messages changes images) (entry_body told start (entry_of end about messages changes images))
entry_fits body told start prev end long count about messages defs entries changes images made numbered is many size fits =
    let count_is = counted count defs entries changes images made numbered many in
    let body_is = body_of body (messages_text messages) told start defs entries changes images made is in
    let long_is : long ≡ length (entry_body told start (entry_of end about messages changes images)) = size ∙ ap length body_is in
    rw (long_is, count_is) at fits
