-- A segment that is opened on what a crash left keeps the entries up to the LSN.
use Rattle.std.proofs.Common.{true, false, ◌≡◌, ◌≤◌, ◌+◌, ℕ, List, [], ◌++◌, length, map, take}
use Rattle.std.proofs.Common.{drop, refl, ap, sym, ◌∙◌, subst, arith, length-append, append_assoc}
use Rattle.std.proofs.Common.{append-nil}
use Rattle.pgledger.specs.Entries.{Entry, last_end}
use Rattle.std.specs.List.{AllByRecursion}
use Rattle.pgfeed.specs.declared.told.Told.{Told}
use Rattle.pgfeed.specs.Reading.{AreEntries, AreWritten, Stands, Walks, mark_of}
use Rattle.pgfeed.specs.Segments.{Begins, IsFound, IsFront, IsHead, KeepsEntries, Lasts, LastsAs}
use Rattle.pgfeed.specs.Segments.{Reopens, ChangesBehind}
use Rattle.pgfeed.specs.Texts.{Bodies, entries_text}
use Rattle.pgfeed.specs.Cutting.Walking.{drop_front, one_walk, over_entries}
use Rattle.pgfeed.specs.Cutting.Files.{begins_stays, front_of}
use Rattle.pgfeed.specs.Cutting.Kept.{entries_front}
use Rattle.pgfeed.specs.Cutting.Written.{text_append, written_front}

-- of entries that lead to the LSN, the lines lead to it in as many bytes as any other walk
walk_size : (bodies : Bodies) (base place : ℕ) (es : List Entry) (head rest text : List ℕ) → IsHead base head → AreEntries base es
    → AreWritten bodies head base es → last_end base es ≡ place → text ≡ head ++ (entries_text bodies base es ++ rest)
    → Walks base (map (mark_of bodies) es) (drop 1024 text) place (length (entries_text bodies base es))
walk_size bodies base place es head rest text is entries written ends split =
    let own : List ℕ = entries_text bodies base es in
    let behind : drop 1024 text ≡ own ++ rest = ap (drop 1024) split ∙ drop_front 1024 head (own ++ rest) is.size in
    let walk : Walks base (map (mark_of bodies) es) (own ++ rest) (last_end base es) (length own) =
    over_entries bodies head base es rest entries written in
    let there : Walks base (map (mark_of bodies) es) (drop 1024 text) (last_end base es) (length own) =
    subst (λ xs. Walks base (map (mark_of bodies) es) xs (last_end base es) (length own)) (sym behind) walk in
    subst (λ at. Walks base (map (mark_of bodies) es) (drop 1024 text) at (length own)) ends there

front_size : (base place : ℕ) (front : List ℕ) → (f : IsFront base place front)
    → length front ≡ 1024 + length (entries_text f.bodies base f.told)
front_size base place front f =
    omega (arith, ap length f.front_is, length-append f.head (entries_text f.bodies base f.told), f.is_head.size)

front_walk : (base place : ℕ) (front text : List ℕ) → (f : IsFront base place front) → Begins front text
    → Walks base (map (mark_of f.bodies) f.told) (drop 1024 text) place (length (entries_text f.bodies base f.told))
front_walk base place front text f begins =
    let own : List ℕ = entries_text f.bodies base f.told in
    let split : text ≡ f.head ++ (own ++ begins.0) =
    begins.1 ∙ ap (λ xs. xs ++ begins.0) f.front_is ∙ append_assoc f.head own begins.0 in
    walk_size f.bodies base place f.told f.head begins.0 text f.is_head f.entries f.written f.ends split

-- what was found is the front that lasts
found_front : (base place size : ℕ) (front text : List ℕ) → IsFront base place front → Begins front text → IsFound base place text size
    → (size ≡ length front) × (take size text ≡ front)
found_front base place size front text f begins found =
    let walk = front_walk base place front text f begins in
    let same = one_walk base place found.entries_size (length (entries_text f.bodies base f.told)) found.marks
    (map (mark_of f.bodies) f.told) (drop 1024 text) f.is_head.base_fits found.walk walk in
    let long : size ≡ length front = omega (arith, found.size_is, same.1, front_size base place front f) in
    (long, front_of size front begins.0 text begins.1 long)

-- the same front stands in the file that keeps the entries
kept_text : (base last size place : ℕ) (known : List Told) (file front : List ℕ) (told later : List Entry)
    → (k : KeepsEntries base last size known file (told ++ later)) → last_end base told ≡ place → IsFront base place front
    → Begins front file → front ≡ k.head ++ entries_text k.bodies base told
kept_text base last size place known file front told later k ends f begins =
    let own : List ℕ = entries_text k.bodies base told in
    let others : List ℕ = entries_text k.bodies (last_end base told) later in
    let more : List ℕ = others ++ k.rest in
    let split : file ≡ k.head ++ (own ++ more) =
    k.file_is ∙ ap (λ xs. k.head ++ (xs ++ k.rest)) (text_append k.bodies base told later)
    ∙ ap (λ xs. k.head ++ xs) (append_assoc own others k.rest) in
    let one = walk_size k.bodies base place told k.head more file k.is_head (entries_front base told later k.entries)
    (written_front k.bodies k.head base told later k.written) ends split in
    let two = front_walk base place front file f begins in
    let same = one_walk base place (length own) (length (entries_text f.bodies base f.told)) (map (mark_of k.bodies) told)
    (map (mark_of f.bodies) f.told) (drop 1024 file) f.is_head.base_fits one two in
    let whole : file ≡ (k.head ++ own) ++ more = split ∙ sym (append_assoc k.head own more) in
    let long : length front ≡ length (k.head ++ own) =
    omega (arith, same.1, front_size base place front f, k.is_head.size, length-append k.head own) in
    sym (front_of (length front) front begins.0 file begins.1 refl) ∙ front_of (length front) (k.head ++ own) more file whole long

pub cut_at : (base last size place new_base new_last new_size : ℕ) (known new_told : List Told) (file new_file : List ℕ)
    (outcomes after : List ℕ → Type 0) (told later : List Entry)
    → outcomes file → Reopens base size outcomes place new_base new_last new_size new_told new_file after
    → KeepsEntries base last size known file (told ++ later) → last_end base told ≡ place
    → Lasts base size outcomes place
    → KeepsEntries new_base new_last new_size new_told new_file told × (new_base ≡ base) × Lasts new_base new_size after place
cut_at base last size place new_base new_last new_size known new_told file new_file outcomes after told later stays opened kept ends
    lasting =
    let front : List ℕ = lasting.0 in
    let is : IsFront base place front = lasting.1.is_front in
    let found = found_front base place new_size front opened.text is (opened.has front lasting.1) opened.found in
    let whole : new_file ≡ front = opened.cut.file_is ∙ found.1 in
    let own : List ℕ = entries_text kept.bodies base told in
    let text : front ≡ kept.head ++ own =
    kept_text base last size place known file front told later kept ends is (lasting.1.each file stays) in
    let keeps : KeepsEntries base place new_size new_told new_file told = record {
      head = kept.head;
      bodies = kept.bodies;
      rest = [];
      is_head = kept.is_head;
      file_is = whole ∙ text ∙ ap (λ xs. kept.head ++ xs) (sym (append-nil own));
      size_is = omega (arith, found.0, ap length text, length-append kept.head own, kept.is_head.size);
      entries = entries_front base told later kept.entries;
      written = written_front kept.bodies kept.head base told later kept.written;
      stand = subst (AllByRecursion (Stands (kept.head ++ own))) (sym opened.untold) tt;
      last_is = sym ends;
    } in
    let lasts : Lasts base new_size after place = (
      front,
      record {
        is_front = is;
        within = omega (arith, found.0);
        each = λ c left. ([], opened.cut.synced c left ∙ whole ∙ sym (append-nil front));
      },
    ) in (
      subst (λ b. KeepsEntries b new_last new_size new_told new_file told) (sym opened.base_is)
          (subst (λ l. KeepsEntries base l new_size new_told new_file told) (sym opened.last_is) keeps),
      opened.base_is,
      subst (λ b. Lasts b new_size after place) (sym opened.base_is) lasts,
    )

-- a call that changes what is behind leaves what lasts, and a crash behind it no less
pub lasts_as : (base size more place : ℕ) (old new front : List ℕ) (before after : List ℕ → Type 0) → size ≤ more
    → ChangesBehind size old new before after → LastsAs base size before place front
    → LastsAs base more after place front
lasts_as base size more place old new front before after up writes lasting = record {
  is_front = lasting.is_front;
  within = omega (arith, lasting.within);
  each = λ c left. let came = writes.1 c left in
      begins_stays front came.0 c size (lasting.each came.0 came.1) lasting.within came.2;
}

pub lasts_behind : (base size more place : ℕ) (old new : List ℕ) (before after : List ℕ → Type 0) → size ≤ more
    → ChangesBehind size old new before after → Lasts base size before place → Lasts base more after place
lasts_behind base size more place old new before after up writes lasting =
    (lasting.0, lasts_as base size more place old new lasting.0 before after up writes lasting.1)

pub reopens_before : (base size more place new_base new_last new_size : ℕ) (told : List Told) (old new file : List ℕ)
    (before after outcomes : List ℕ → Type 0)
    → size ≤ more → ChangesBehind size old new before after
    → Reopens base more after place new_base new_last new_size told file outcomes
    → Reopens base size before place new_base new_last new_size told file outcomes
reopens_before base size more place new_base new_last new_size told old new file before after outcomes up writes opened = record {
  text = opened.text;
  has = λ front lasting. opened.has front (lasts_as base size more place old new front before after up writes lasting);
  base_is = opened.base_is;
  last_is = opened.last_is;
  untold = opened.untold;
  found = opened.found;
  cut = opened.cut;
}

-- what wants images always
pub wants_all : {P : Type 0} → true ≡ false → P
wants_all {P} e = cc
