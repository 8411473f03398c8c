-- The lines of commits, and where definitions stand in them.
use Rattle.std.proofs.Common.{◌≡◌, ◌<◌, ◌≤◌, ◌==◌, ◌+◌, ℕ, suc, List, [], ◌∷◌, ◌++◌, length, Bool}
use Rattle.std.proofs.Common.{true, false, Option, Some, None, refl, ap, sym, ◌∙◌, subst, arith}
use Rattle.std.proofs.Common.{append_assoc, append-nil, length-append, cond, eq-eqb}
use Rattle.std.specs.List.{AllByRecursion}
use Rattle.std.proofs.lemmas.Bool.{cond-false, cond-true, eqb-true}
use Rattle.pglogical.specs.declared.message.RelationDef.{RelationDef}
use Rattle.pgledger.specs.Images.{Line}
use Rattle.pgledger.specs.Entries.{Entry, last_end}
use Rattle.pgfeed.specs.declared.told.Told.{Told}
use Rattle.pgfeed.specs.Fits.{FitsEntry}
use Rattle.pgfeed.specs.Reading.{AreEntries, AreWritten, IsBody, Stands}
use Rattle.pgfeed.specs.Texts.{Bodies, body_text, entries_text, entry_body, entry_line, entry_text}
use Rattle.pgfeed.specs.Texts.{entry_told, fresh_text, line_text, line_told, messages_text, place}
use Rattle.pgfeed.specs.Texts.{table_line, told_after, told_with}
use Rattle.pgfeed.specs.Cutting.Walking.{entry_splits, next_entry, no_entry, own_length}

-- ---- definitions

-- a definition stands where it stood, whatever follows
pub stands_more : (front more : List ℕ) (told : Told) → Stands front told → Stands (front ++ more) told
stands_more front more told s = record {
  before = s.before;
  more = s.more ++ more;
  is = ap (λ text. text ++ more) s.is ∙ append_assoc s.before (table_line told.definition ++ s.more) more
      ∙ ap (λ text. s.before ++ text) (append_assoc (table_line told.definition) s.more more);
  offset_is = s.offset_is;
}

pub all_stand_more : (front more : List ℕ) (told : List Told) → AllByRecursion (Stands front) told
    → AllByRecursion (Stands (front ++ more)) told
all_stand_more front more [] all = tt
all_stand_more front more (t ∷ told) all = (stands_more front more t all.0, all_stand_more front more told all.1)

all_one : (P : Told → Type 0) (told : List Told) (t : Told) → AllByRecursion P told → P t → AllByRecursion P (told ++ t ∷ [])
all_one P [] t all p = (p, tt)
all_one P (x ∷ told) t all p = (all.0, all_one P told t all.1 p)

-- what is told behind a change stands there
step_stand : (front text : List ℕ) (told : List Told) (where_it_is : Option ℕ) (def : RelationDef) → AllByRecursion (Stands front) told
    → AllByRecursion (Stands (front ++ (fresh_text where_it_is def ++ text))) (told_with told where_it_is def (length front))
step_stand front text told (Some at) def all = all_stand_more front text told all
step_stand front text told None def all =
    all_one (Stands (front ++ (table_line def ++ text))) told (record { definition = def; offset = length front })
    (all_stand_more front (table_line def ++ text) told all)
    (record { before = front; more = text; is = refl; offset_is = refl })

pub line_stand : (front : List ℕ) (told : List Told) (n : ℕ) (line : Line) → AllByRecursion (Stands front) told
    → AllByRecursion (Stands (front ++ line_text told (length front) n line)) (line_told told (length front) line)
line_stand front told n line all = step_stand front _ told (place told line.definition) line.definition all

-- what is told behind the lines of changes stands there
pub told_stand : (front : List ℕ) (told : List Told) (n : ℕ) (lines : List Line) → AllByRecursion (Stands front) told
    → AllByRecursion (Stands (front ++ body_text told (length front) n lines)) (told_after told (length front) n lines)
unfolding body_text told_after
told_stand front told n [] all = subst (λ text. AllByRecursion (Stands text) told) (sym (append-nil front)) all
told_stand front told n (line ∷ lines) all =
    let own : List ℕ = line_text told (length front) n line in
    let after : List Told = line_told told (length front) line in
    let more : AllByRecursion (Stands ((front ++ own) ++ body_text after (length (front ++ own)) (suc n) lines))
    (told_after after (length (front ++ own)) (suc n) lines) =
    told_stand (front ++ own) after (suc n) lines (line_stand front told n line all) in
    let there : AllByRecursion (Stands ((front ++ own) ++ body_text after (length front + length own) (suc n) lines))
    (told_after after (length front + length own) (suc n) lines) =
    subst (λ at. AllByRecursion (Stands ((front ++ own) ++ body_text after at (suc n) lines)) (told_after after at (suc n) lines))
    (length-append front own) more in
    subst (λ text. AllByRecursion (Stands text) (told_after after (length front + length own) (suc n) lines))
    (append_assoc front own (body_text after (length front + length own) (suc n) lines)) there

-- ---- the lines of one commit more

-- those of the commit that ends there
unfoldable pub with_body : Bodies → ℕ → List ℕ → ℕ → List ℕ
with_body bodies end body at = cond (at == end) body (bodies at)

pub body_there : (bodies : Bodies) (end : ℕ) (body : List ℕ) → with_body bodies end body end ≡ body
unfolding with_body
body_there bodies end body = cond-true (end == end) body (bodies end) (eq-eqb end end refl)

never_same : (a b : ℕ) (is : Bool) → (a == b) ≡ is → a < b → is ≡ false
never_same a b true same less = let one : a ≡ b = eqb-true a b same in absurd (omega arith)
never_same a b false same less = refl

body_elsewhere : (bodies : Bodies) (end at : ℕ) (body : List ℕ) → at < end → with_body bodies end body at ≡ bodies at
unfolding with_body
body_elsewhere bodies end at body less = cond-false (at == end) body (bodies at) (never_same at end (at == end) refl less)

-- the same lines of these commits
abbrev pub Agree : Bodies → Bodies → List Entry → Type 0
Agree bodies other es = AllByRecursion (λ (e : Entry). bodies e.end ≡ other e.end) es

pub ends_up : (at : ℕ) (es : List Entry) → AreEntries at es → at ≤ last_end at es
ends_up at [] are = omega arith
ends_up at (e ∷ es) are = let more = ends_up e.end es are.1 in omega (arith, are.0)

agree_below : (bodies : Bodies) (at end : ℕ) (body : List ℕ) (es : List Entry) → AreEntries at es → last_end at es < end
    → Agree bodies (with_body bodies end body) es
agree_below bodies at end body [] are less = tt
agree_below bodies at end body (e ∷ es) are less =
    let up = ends_up e.end es are.1 in
    (sym (body_elsewhere bodies end e.end body (omega arith)), agree_below bodies e.end end body es are.1 less)

same_texts : (bodies other : Bodies) (at : ℕ) (es : List Entry) → Agree bodies other es
    → entries_text other at es ≡ entries_text bodies at es
same_texts bodies other at [] same = no_entry other at ∙ sym (no_entry bodies at)
same_texts bodies other at (e ∷ es) same =
    next_entry other at e es ∙ ap (λ body. entry_text at e body ++ entries_text other e.end es) (sym same.0)
    ∙ ap (λ text. entry_text at e (bodies e.end) ++ text) (same_texts bodies other e.end es same.1) ∙ sym (next_entry bodies at e es)

same_written : (bodies other : Bodies) (front : List ℕ) (at : ℕ) (es : List Entry) → Agree bodies other es
    → AreWritten bodies front at es → AreWritten other front at es
same_written bodies other front at [] same written = tt
same_written bodies other front at (e ∷ es) same written =
    subst (λ body. FitsEntry at e body × IsBody (front ++ entry_line at e body) e body
    × AreWritten other (front ++ entry_text at e body) e.end es) same.0
    (written.0, written.1, same_written bodies other (front ++ entry_text at e (bodies e.end)) e.end es same.1 written.2)

-- a front of entries, and others behind them
pub written_front : (bodies : Bodies) (front : List ℕ) (at : ℕ) (es fs : List Entry) → AreWritten bodies front at (es ++ fs)
    → AreWritten bodies front at es
written_front bodies front at [] fs written = tt
written_front bodies front at (e ∷ es) fs written =
    (written.0, written.1, written_front bodies (front ++ entry_text at e (bodies e.end)) e.end es fs written.2)

pub written_behind : (bodies : Bodies) (front : List ℕ) (at : ℕ) (es fs : List Entry) → AreWritten bodies front at (es ++ fs)
    → AreWritten bodies (front ++ entries_text bodies at es) (last_end at es) fs
written_behind bodies front at [] fs written =
    subst (λ text. AreWritten bodies text at fs)
    (sym (append-nil front) ∙ ap (λ text. front ++ text) (sym (no_entry bodies at))) written
written_behind bodies front at (e ∷ es) fs written =
    let own : List ℕ = entry_text at e (bodies e.end) in
    let more : AreWritten bodies ((front ++ own) ++ entries_text bodies e.end es) (last_end e.end es) fs =
    written_behind bodies (front ++ own) e.end es fs written.2 in
    subst (λ text. AreWritten bodies text (last_end e.end es) fs)
    (append_assoc front own (entries_text bodies e.end es) ∙ ap (λ text. front ++ text) (sym (next_entry bodies at e es))) more

written_append : (bodies : Bodies) (front : List ℕ) (at : ℕ) (es fs : List Entry) → AreWritten bodies front at es
    → AreWritten bodies (front ++ entries_text bodies at es) (last_end at es) fs → AreWritten bodies front at (es ++ fs)
written_append bodies front at [] fs written more =
    subst (λ text. AreWritten bodies text at fs) (ap (λ text. front ++ text) (no_entry bodies at) ∙ append-nil front) more
written_append bodies front at (e ∷ es) fs written more =
    let own : List ℕ = entry_text at e (bodies e.end) in
    let there : AreWritten bodies ((front ++ own) ++ entries_text bodies e.end es) (last_end e.end es) fs =
    subst (λ text. AreWritten bodies text (last_end e.end es) fs)
    (ap (λ text. front ++ text) (next_entry bodies at e es) ∙ sym (append_assoc front own (entries_text bodies e.end es))) more in
    (written.0, written.1, written_append bodies (front ++ own) e.end es fs written.2 there)

-- entries, and others behind them
pub text_append : (bodies : Bodies) (at : ℕ) (es fs : List Entry)
    → entries_text bodies at (es ++ fs) ≡ entries_text bodies at es ++ entries_text bodies (last_end at es) fs
text_append bodies at [] fs = ap (λ text. text ++ entries_text bodies at fs) (sym (no_entry bodies at))
text_append bodies at (e ∷ es) fs =
    let own : List ℕ = entry_text at e (bodies e.end) in
    next_entry bodies at e (es ++ fs) ∙ ap (λ text. own ++ text) (text_append bodies e.end es fs)
    ∙ sym (append_assoc own (entries_text bodies e.end es) (entries_text bodies (last_end e.end es) fs))
    ∙ ap (λ text. text ++ entries_text bodies (last_end e.end es) fs) (sym (next_entry bodies at e es))

pub one_text : (bodies : Bodies) (at : ℕ) (e : Entry) → entries_text bodies at (e ∷ []) ≡ entry_text at e (bodies e.end)
one_text bodies at e =
    next_entry bodies at e [] ∙ ap (λ text. entry_text at e (bodies e.end) ++ text) (no_entry bodies e.end)
    ∙ append-nil (entry_text at e (bodies e.end))

-- what is written behind entries, with definitions that stand in them
pub next_body_is : (front : List ℕ) (at size : ℕ) (e : Entry) (told : List Told) → size ≡ length front
    → AllByRecursion (Stands front) told → FitsEntry at e (entry_body told (size + 256) e)
    → IsBody (front ++ entry_line at e (entry_body told (size + 256) e)) e (entry_body told (size + 256) e)
next_body_is front at size e told long stand fits =
    let body : List ℕ = entry_body told (size + 256) e in
    let line : List ℕ = entry_line at e body in
    let offset : size + 256 ≡ length (front ++ line) = omega (arith, long, own_length at e body fits, length-append front line) in
    record { told = told; stand = all_stand_more front line told stand; body_is = ap (λ k. entry_body told k e) offset }

-- One commit more is written behind these, and the definitions that are told then stand there.
pub record WrittenMore (bodies : Bodies) (front : List ℕ) (at : ℕ) (es : List Entry) (e : Entry) (body : List ℕ) (told : List Told) :
    Type 0 where
  pub more : Bodies
  pub text : entries_text more at (es ++ e ∷ []) ≡ entries_text bodies at es ++ entry_text (last_end at es) e body
  pub written : AreWritten more front at (es ++ e ∷ [])
  pub stand : AllByRecursion (Stands (front ++ entries_text more at (es ++ e ∷ []))) told

pub written_more : (bodies : Bodies) (front : List ℕ) (at size : ℕ) (es : List Entry) (e : Entry) (told : List Told)
    → AreEntries at es → last_end at es < e.end → AreWritten bodies front at es
    → size ≡ length (front ++ entries_text bodies at es)
    → AllByRecursion (Stands (front ++ entries_text bodies at es)) told
    → FitsEntry (last_end at es) e (entry_body told (size + 256) e)
    → WrittenMore bodies front at es e (entry_body told (size + 256) e) (entry_told told (size + 256) e)
written_more bodies front at size es e told are less written long stand fits =
    let body : List ℕ = entry_body told (size + 256) e in
    let last : ℕ = last_end at es in
    let more : Bodies = with_body bodies e.end body in
    let before : List ℕ = front ++ entries_text bodies at es in
    let line : List ℕ = entry_line last e body in
    let same = agree_below bodies at e.end body es are less in
    let texts : entries_text more at es ≡ entries_text bodies at es = same_texts bodies more at es same in
    let there : more e.end ≡ body = body_there bodies e.end body in
    let own : entries_text more last (e ∷ []) ≡ entry_text last e body = one_text more last e ∙ ap (entry_text last e) there in
    let text : entries_text more at (es ++ e ∷ []) ≡ entries_text bodies at es ++ entry_text last e body =
    text_append more at es (e ∷ []) ∙ ap (λ xs. xs ++ entries_text more last (e ∷ [])) texts
    ∙ ap (λ xs. entries_text bodies at es ++ xs) own in
    let one : AreWritten more before last (e ∷ []) =
    subst (λ b. FitsEntry last e b × IsBody (before ++ entry_line last e b) e b × AreWritten more (before ++ entry_text last e b) e.end [])
    (sym there) (fits, next_body_is before last size e told long stand fits, tt) in
    let heard : List ℕ = messages_text e.messages in
    let changes : List ℕ = body_text told (size + 256 + length heard) 0 e.lines in
    let offset : length ((before ++ line) ++ heard) ≡ size + 256 + length heard =
    omega (arith, long, own_length last e body fits, length-append before line, length-append (before ++ line) heard) in
    let stands : AllByRecursion (Stands ((before ++ line) ++ body)) (entry_told told (size + 256) e) =
    subst (λ xs. AllByRecursion (Stands xs) (entry_told told (size + 256) e)) (append_assoc (before ++ line) heard changes)
    (subst (λ k. AllByRecursion (Stands (((before ++ line) ++ heard) ++ body_text told k 0 e.lines)) (told_after told k 0 e.lines)) offset
    (told_stand ((before ++ line) ++ heard) told 0 e.lines
    (all_stand_more (before ++ line) heard told (all_stand_more before line told stand)))) in
    let whole : (before ++ line) ++ body ≡ front ++ entries_text more at (es ++ e ∷ []) =
    append_assoc before line body ∙ ap (λ xs. before ++ xs) (sym (entry_splits last e body))
    ∙ append_assoc front (entries_text bodies at es) (entry_text last e body) ∙ ap (λ xs. front ++ xs) (sym text) in
    record {
      more = more;
      text = text;
      written = written_append more front at es (e ∷ []) (same_written bodies more front at es same written)
          (subst (λ xs. AreWritten more (front ++ xs) last (e ∷ [])) (sym texts) one);
      stand = subst (λ xs. AllByRecursion (Stands xs) (entry_told told (size + 256) e)) whole stands;
    }
