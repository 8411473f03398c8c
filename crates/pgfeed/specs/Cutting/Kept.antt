-- What a segment keeps through its calls.
use Rattle.std.proofs.Common.{◌≡◌, ◌<◌, ◌≤◌, ◌+◌, ℕ, List, [], ◌∷◌, ◌++◌, length, take, drop, refl}
use Rattle.std.proofs.Common.{ap, sym, ◌∙◌, subst, arith, length-append, append_assoc}
use Rattle.std.proofs.lemmas.List.{take-append-drop}
use Rattle.sqlite_disk.specs.Disk.{Holds}
use Rattle.pgledger.specs.Entries.{Entry, last_end}
use Rattle.pgfeed.specs.Fits.{FitsEntry}
use Rattle.pgfeed.specs.Reading.{AreEntries}
use Rattle.pgfeed.specs.Segments.{KeepsEntries, StaysBefore}
use Rattle.pgfeed.specs.Texts.{entries_text, entry_body, entry_text, entry_told}
use Rattle.pgfeed.specs.declared.told.Told.{Told}
use Rattle.pgfeed.specs.Cutting.Written.{written_more}
use Rattle.pgfeed.specs.Cutting.Files.{front_of, holds_behind, stays_before}

pub end_append : (at : ℕ) (es fs : List Entry) → last_end at (es ++ fs) ≡ last_end (last_end at es) fs
end_append at [] fs = refl
end_append at (e ∷ es) fs = end_append e.end es fs

pub entries_append : (at : ℕ) (es fs : List Entry) → AreEntries at es → AreEntries (last_end at es) fs → AreEntries at (es ++ fs)
entries_append at [] fs are more = more
entries_append at (e ∷ es) fs are more = (are.0, entries_append e.end es fs are.1 more)

pub entries_front : (at : ℕ) (es fs : List Entry) → AreEntries at (es ++ fs) → AreEntries at es
entries_front at [] fs are = tt
entries_front at (e ∷ es) fs are = (are.0, entries_front e.end es fs are.1)

pub entries_behind : (at : ℕ) (es fs : List Entry) → AreEntries at (es ++ fs) → AreEntries (last_end at es) fs
entries_behind at [] fs are = are
entries_behind at (e ∷ es) fs are = entries_behind e.end es fs are.1

-- the head and the entries are a front of the file
pub kept_front : (base last size : ℕ) (told : List Told) (file : List ℕ) (es : List Entry) → (k : KeepsEntries base last size told file es)
    → (file ≡ (k.head ++ entries_text k.bodies base es) ++ k.rest) × (size ≡ length (k.head ++ entries_text k.bodies base es))
    × (size ≤ length file)
kept_front base last size told file es k =
    let text : List ℕ = entries_text k.bodies base es in
    let split : file ≡ (k.head ++ text) ++ k.rest = k.file_is ∙ sym (append_assoc k.head text k.rest) in
    let long : size ≡ length (k.head ++ text) = omega (arith, k.size_is, k.is_head.size, length-append k.head text) in
    (split, long, omega (arith, ap length split, length-append (k.head ++ text) k.rest))

-- a change behind them leaves the head and the entries
left : (base last size : ℕ) (told : List Told) (old new : List ℕ) (es : List Entry) → (k : KeepsEntries base last size told old es)
    → StaysBefore size old new → new ≡ k.head ++ (entries_text k.bodies base es ++ drop size new)
left base last size told old new es k stays =
    let text : List ℕ = entries_text k.bodies base es in
    let front = kept_front base last size told old es k in
    let same : take size new ≡ k.head ++ text =
    stays_before size size old new stays (omega arith) front.2 ∙ front_of size (k.head ++ text) k.rest old front.0 front.1 in
    sym (take-append-drop size new) ∙ ap (λ xs. xs ++ drop size new) same ∙ append_assoc k.head text (drop size new)

-- it keeps its entries where what is behind them is changed
pub kept_behind : (base last size : ℕ) (told : List Told) (old new : List ℕ) (es : List Entry)
    → KeepsEntries base last size told old es → StaysBefore size old new → KeepsEntries base last size told new es
kept_behind base last size told old new es k stays = record {
  head = k.head;
  bodies = k.bodies;
  rest = drop size new;
  is_head = k.is_head;
  file_is = left base last size told old new es k stays;
  size_is = k.size_is;
  entries = k.entries;
  written = k.written;
  stand = k.stand;
  last_is = k.last_is;
}

-- it keeps one more that is written behind them
pub kept_more : (base last size more : ℕ) (told : List Told) (old new : List ℕ) (es : List Entry) (e : Entry)
    → KeepsEntries base last size told old es → StaysBefore size old new
    → Holds new size (entry_text last e (entry_body told (size + 256) e)) → last < e.end
    → FitsEntry last e (entry_body told (size + 256) e)
    → more ≡ size + length (entry_text last e (entry_body told (size + 256) e))
    → KeepsEntries base e.end more (entry_told told (size + 256) e) new (es ++ e ∷ [])
kept_more base last size more told old new es e k stays holds above fits long =
    let body : List ℕ = entry_body told (size + 256) e in
    let text : List ℕ = entry_text last e body in
    let rest : List ℕ = drop (size + length text) new in
    let before : List ℕ = entries_text k.bodies base es in
    let behind : drop size new ≡ text ++ rest = holds_behind new size text holds in
    let up : last_end base es < e.end = subst (λ at. at < e.end) k.last_is above in
    let w = written_more k.bodies k.head base size es e told k.entries up k.written (kept_front base last size told old es k).1 k.stand
    (subst (λ at. FitsEntry at e body) k.last_is fits) in
    let all : entries_text w.more base (es ++ e ∷ []) ≡ before ++ text =
    w.text ∙ ap (λ at. before ++ entry_text at e body) (sym k.last_is) in
    record {
      head = k.head;
      bodies = w.more;
      rest = rest;
      is_head = k.is_head;
      file_is = left base last size told old new es k stays ∙ ap (λ xs. k.head ++ (before ++ xs)) behind
          ∙ ap (λ xs. k.head ++ xs) (sym (append_assoc before text rest) ∙ ap (λ xs. xs ++ rest) (sym all));
      size_is = omega (arith, k.size_is, ap length all, length-append before text);
      entries = entries_append base es (e ∷ []) k.entries (up, tt);
      written = w.written;
      stand = w.stand;
      last_is = sym (end_append base es (e ∷ []));
    }
