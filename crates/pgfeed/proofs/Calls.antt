-- What the calls of a segment leave.
use Rattle.std.proofs.Common.{◌≡◌, ◌<◌, ◌≤◌, ◌+◌, ℕ, List, [], ◌∷◌, ◌++◌, drop, length, inl}
use Rattle.std.proofs.Common.{inr}
use Rattle.std.proofs.Common.{length-append, length-drop, append-nil, ap, ◌^◌, refl, sym, ◌∙◌}
use Rattle.std.proofs.Common.{subst, arith}
use Rattle.sqlite_disk.specs.Disk.{Cut, Follows, Holds, Only, Torn}
use Rattle.pgledger.specs.Entries.{Entry, last_end}
use Rattle.pgfeed.specs.Segments.{IsCut, IsFinished, IsFound, IsHead, KeepsEntries, Lasts, Reopens}
use Rattle.pgfeed.specs.Segments.{ChangesBehind, StaysBefore}
use Rattle.std.specs.List.{AllByRecursion}
use Rattle.pgfeed.specs.declared.told.Told.{Told}
use Rattle.pgfeed.specs.Next.{Remembers}
use Rattle.pgfeed.specs.Reading.{Stands}
use Rattle.pgfeed.specs.Texts.{Bodies, closing_line, entries_text, entry_body, entry_text}
use Rattle.pgfeed.specs.Texts.{entry_told, segment_head}
use Rattle.pgfeed.specs.Fits.{FitsEntry}
use Rattle.pgfeed.specs.Cutting.Kept.{kept_behind, kept_front, kept_more}
use Rattle.pgfeed.specs.Cutting.Walking.{drop_front, no_entry}
use Rattle.pgfeed.specs.Cutting.Files.{cut_stays, holds_behind, torn_stays}
use Rattle.pgfeed.specs.Cutting.Opened.{lasts_behind, reopens_before}

stays_same : (size : ℕ) (file : List ℕ) → StaysBefore size file file
stays_same size file = record { no_shorter = omega arith; below = λ i lt less. refl }

-- what is written at or behind an offset
pub writes_behind : (size at n : ℕ) (old new : List ℕ) (before after : List ℕ → Type 0) → size ≤ at → Torn at n old new
    → Follows (Torn at n) before after → ChangesBehind size old new before after
writes_behind size at n old new before after up torn crash =
    (torn_stays size at n old new up torn, λ c left. let came = crash c left in (came.0, came.1, torn_stays size at n came.0 c up came.2))

-- the length is changed to so many bytes
pub cuts_behind : (size : ℕ) (old new : List ℕ) (before after : List ℕ → Type 0) → Cut size old new
    → Follows (Cut size) before after → ChangesBehind size old new before after
cuts_behind size old new before after cut crash = (
  cut_stays size size old new (omega arith) cut,
  λ c left. let came = crash c left in (came.0, came.1, cut_stays size size came.0 c (omega arith) came.2),
)

-- nothing is written, and a crash leaves nothing else
pub writes_none : (size : ℕ) (file : List ℕ) (before after : List ℕ → Type 0) → ((c : List ℕ) → after c → before c)
    → ChangesBehind size file file before after
writes_none size file before after less = (stays_same size file, λ c left. (c, less c left, stays_same size c))

pub writes_same : (size : ℕ) (old new : List ℕ) (before after : List ℕ → Type 0) → new ≡ old → ((c : List ℕ) → after c → before c)
    → ChangesBehind size old new before after
writes_same size old new before after same less =
    subst (λ file. ChangesBehind size old file before after) (sym same) (writes_none size old before after less)

pub lasts_more : (base new_base size more place : ℕ) (old new : List ℕ) (before after : List ℕ → Type 0) → new_base ≡ base → size ≤ more
    → ChangesBehind size old new before after → Lasts base size before place
    → Lasts new_base more after place
lasts_more base new_base size more place old new before after same up writes lasting =
    subst (λ b. Lasts b more after place) (sym same) (lasts_behind base size more place old new before after up writes lasting)

pub reopens_less : (base new_base size more place other_base other_last other_size : ℕ) (told : List Told) (old new file : List ℕ)
    (before after outcomes : List ℕ → Type 0) → new_base ≡ base → size ≤ more
    → ChangesBehind size old new before after → Reopens new_base more after place other_base other_last other_size told file outcomes
    → Reopens base size before place other_base other_last other_size told file outcomes
reopens_less base new_base size more place other_base other_last other_size told old new file before after outcomes same up writes opened =
    reopens_before base size more place other_base other_last other_size told old new file before after outcomes up writes
    (subst (λ b. Reopens b more after place other_base other_last other_size told file outcomes) same opened)

-- what is synced lasts
pub synced_lasts : (base last size : ℕ) (told : List Told) (file : List ℕ) (after : List ℕ → Type 0) (es : List Entry)
    → KeepsEntries base last size told file es → Only file after → Lasts base size after (last_end base es)
synced_lasts base last size told file after es k only =
    let front = kept_front base last size told file es k in (
      k.head ++ entries_text k.bodies base es,
      record {
        is_front = record {
          head = k.head;
          bodies = k.bodies;
          told = es;
          is_head = k.is_head;
          entries = k.entries;
          written = k.written;
          ends = refl;
          front_is = refl;
        };
        within = omega (arith, front.1);
        each = λ c left. (k.rest, only c left ∙ front.0);
      },
    )

pub lasts_there : (base new_base size new_size place : ℕ) (after : List ℕ → Type 0) → new_base ≡ base → new_size ≡ size
    → Lasts base size after place → Lasts new_base new_size after place
lasts_there base new_base size new_size place after same stays lasting =
    subst (λ b. Lasts b new_size after place) (sym same) (subst (λ n. Lasts base n after place) (sym stays) lasting)

-- it keeps as many where definitions are forgotten
kept_told : (base last size : ℕ) (told now : List Told) (file : List ℕ) (es : List Entry) → Remembers told now
    → KeepsEntries base last size told file es → KeepsEntries base last size now file es
kept_told base last size told now file es (inl all) k = subst (λ t. KeepsEntries base last size t file es) (sym all.1) k
kept_told base last size told now file es (inr none) k = record {
  head = k.head;
  bodies = k.bodies;
  rest = k.rest;
  is_head = k.is_head;
  file_is = k.file_is;
  size_is = k.size_is;
  entries = k.entries;
  written = k.written;
  stand = subst (AllByRecursion (Stands (k.head ++ entries_text k.bodies base es))) (sym none.1) tt;
  last_is = k.last_is;
}

-- an entry more, or as many where nothing is known of the write
pub appended : (base new_base last new_last size more : ℕ) (told new_told : List Told) (old new : List ℕ)
    (before after : List ℕ → Type 0) (e : Entry) → new_base ≡ base → new_last ≡ e.end
    → more ≡ size + length (entry_text last e (entry_body told (size + 256) e))
    → Remembers (entry_told told (size + 256) e) new_told → last < e.end → FitsEntry last e (entry_body told (size + 256) e)
    → Holds new size (entry_text last e (entry_body told (size + 256) e)) → ChangesBehind size old new before after
    → (es : List Entry) → KeepsEntries base last size told old es → KeepsEntries new_base new_last more new_told new (es ++ e ∷ [])
appended base new_base last new_last size more told new_told old new before after e same ends long tells above fits holds writes es k =
    subst (λ b. KeepsEntries b new_last more new_told new (es ++ e ∷ [])) (sym same)
    (subst (λ l. KeepsEntries base l more new_told new (es ++ e ∷ [])) (sym ends)
    (kept_told base e.end more (entry_told told (size + 256) e) new_told new (es ++ e ∷ []) tells
    (kept_more base last size more told old new es e k writes.0 holds above fits long)))

pub untold : (base new_base last new_last size more : ℕ) (told new_told : List Told) (old new : List ℕ)
    (before after : List ℕ → Type 0) → new_base ≡ base → more ≡ size
    → new_last ≡ last → new_told ≡ told → ChangesBehind size old new before after
    → (es : List Entry) → KeepsEntries base last size told old es → KeepsEntries new_base new_last more new_told new es
untold base new_base last new_last size more told new_told old new before after same stays ends tells writes es k =
    subst (λ b. KeepsEntries b new_last more new_told new es) (sym same)
    (subst (λ l. KeepsEntries base l more new_told new es) (sym ends)
    (subst (λ n. KeepsEntries base last n new_told new es) (sym stays)
    (subst (λ t. KeepsEntries base last size t new es) (sym tells)
    (kept_behind base last size told old new es k writes.0))))

-- a head alone
no_bodies : Bodies
no_bodies end = []

head_of : (base : ℕ) (head system database slot : List ℕ) → head ≡ segment_head base system database slot → length head ≡ 1024
    → base < 2 ^ 64 → IsHead base head
head_of base head system database slot is size fits =
    record { system = system; database = database; slot = slot; head_is = is; size = size; base_fits = fits }

pub head_keeps : (base b l n : ℕ) (told : List Told) (head system database slot file : List ℕ)
    → head ≡ segment_head base system database slot
    → length head ≡ 1024 → base < 2 ^ 64 → b ≡ base → l ≡ base → n ≡ 1024 → told ≡ [] → file ≡ head
    → KeepsEntries b l n told file []
head_keeps base b l n told head system database slot file is size fits begins ends long none whole = record {
  head = head;
  bodies = no_bodies;
  rest = [];
  is_head = subst (λ at. IsHead at head) (sym begins) (head_of base head system database slot is size fits);
  file_is = whole ∙ sym (append-nil head) ∙ ap (λ xs. head ++ xs) (sym (append-nil (entries_text no_bodies b []) ∙ no_entry no_bodies b));
  size_is = omega (arith, ap length (no_entry no_bodies b));
  entries = tt;
  written = tt;
  stand = subst (AllByRecursion (Stands (head ++ entries_text no_bodies b []))) (sym none) tt;
  last_is = ends ∙ sym begins;
}

pub head_lasts : (base b n : ℕ) (head system database slot : List ℕ) (after : List ℕ → Type 0)
    → head ≡ segment_head base system database slot → length head ≡ 1024 → base < 2 ^ 64 → b ≡ base → n ≡ 1024 → Only head after
    → Lasts b n after base
head_lasts base b n head system database slot after is size fits begins long only = (
  head,
  record {
    is_front = record {
      head = head;
      bodies = no_bodies;
      told = [];
      is_head = subst (λ at. IsHead at head) (sym begins) (head_of base head system database slot is size fits);
      entries = tt;
      written = tt;
      ends = begins;
      front_is = sym (append-nil head) ∙ ap (λ xs. head ++ xs) (sym (no_entry no_bodies b));
    };
    within = omega arith;
    each = λ c left. ([], only c left ∙ sym (append-nil head));
  },
)

-- whichever segment a crash left this text of, what was found in it and cut reopens that one
pub left_reopens : (base size place at new_base new_last new_size : ℕ) (told : List Told) (text file : List ℕ)
    (outcomes after : List ℕ → Type 0) → base ≡ at → outcomes text → new_base ≡ at → new_last ≡ place → told ≡ []
    → IsFound at place text new_size → IsCut text new_size file after
    → Reopens base size outcomes place new_base new_last new_size told file after
left_reopens base size place at new_base new_last new_size told text file outcomes after same left begins ends none found cut = record {
  text = text;
  has = λ front lasting. lasting.each text left;
  base_is = begins ∙ sym same;
  last_is = ends;
  untold = none;
  found = subst (λ b. IsFound b place text new_size) (sym same) found;
  cut = cut;
}

-- ---- the line that ends a segment

none_left : (xs : List ℕ) → length xs ≡ 0 → xs ≡ []
none_left [] e = refl
none_left (x ∷ xs) e = absurd (omega arith)

some_line : (last : ℕ) → 0 < length (closing_line last)
some_line last = omega (arith, length-append {A = ℕ})

pub finished : (base last size : ℕ) (told : List Told) (old new line : List ℕ) (after : List ℕ → Type 0) (es : List Entry)
    → KeepsEntries base last size told old es → length old ≡ size → line ≡ closing_line last
    → Torn size (length line) old new → (0 < length line → Holds new size line) → Only new after → IsFinished base last es new after
finished base last size told old new line after es k long is torn written only =
    let some : 0 < length line = omega (arith, some_line last, ap length is) in
    let kept = kept_behind base last size told old new es k (torn_stays size size (length line) old new (omega arith) torn) in
    let text : List ℕ = entries_text kept.bodies base es in
    let front = kept_front base last size told new es kept in
    let rest : kept.rest ≡ drop size new =
    sym (ap (drop size) front.0 ∙ drop_front size (kept.head ++ text) kept.rest (sym front.1)) in
    let behind : drop size new ≡ line ++ drop (size + length line) new = holds_behind new size line (written some) in
    let most : length new ≤ size + length line = omega (arith, torn.no_longer) in
    let more = length-drop (size + length line) new in
    let none : drop (size + length line) new ≡ [] = none_left (drop (size + length line) new) (omega arith) in
    let whole : kept.rest ≡ closing_line last = rest ∙ behind ∙ ap (λ xs. line ++ xs) none ∙ append-nil line ∙ is in
    record {
      head = kept.head;
      bodies = kept.bodies;
      is_head = kept.is_head;
      file_is = kept.file_is ∙ ap (λ xs. kept.head ++ (text ++ xs)) whole;
      entries = kept.entries;
      written = kept.written;
      last_is = kept.last_is;
      synced = only;
    }
