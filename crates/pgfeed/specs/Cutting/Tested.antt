-- The commit that was written last passes the test that opening makes.
use Rattle.std.proofs.Common.{◌≡◌, ◌+◌, ℕ, List, [], ◌∷◌, ◌++◌, length, drop, refl, ap, sym, ◌∙◌}
use Rattle.std.proofs.Common.{subst, arith, length-append, append_assoc}
use Rattle.pgledger.specs.Entries.{Entry, last_end}
use Rattle.pgfeed.specs.Fits.{FitsEntry}
use Rattle.pgfeed.specs.Reading.{AreEntries, AreWritten, BeginsWith, HasItsCrc, mark_of}
use Rattle.pgfeed.specs.Segments.{EndsTested}
use Rattle.pgfeed.specs.Texts.{Bodies, entries_text, entry_text}
use Rattle.pgfeed.specs.Cutting.Walking.{begins, drop_front, entry_length, have_their_crc}
use Rattle.pgfeed.specs.Cutting.Kept.{entries_behind}
use Rattle.pgfeed.specs.Cutting.Written.{one_text, text_append, written_behind}

pub last_tested : (bodies : Bodies) (base : ℕ) (head rest : List ℕ) (before : List Entry) (e : Entry) → length head ≡ 1024
    → AreEntries base (before ++ e ∷ []) → AreWritten bodies head base (before ++ e ∷ [])
    → EndsTested e.end (head ++ (entries_text bodies base (before ++ e ∷ []) ++ rest))
    (1024 + length (entries_text bodies base (before ++ e ∷ [])))
last_tested bodies base head rest before e long are written =
    let at : ℕ = last_end base before in
    let body : List ℕ = bodies e.end in
    let front : List ℕ = entries_text bodies base before in
    let own : List ℕ = entry_text at e body in
    let last : AreEntries at (e ∷ []) = entries_behind base before (e ∷ []) are in
    let fits : FitsEntry at e body = (written_behind bodies head base before (e ∷ []) written).0 in
    let told : entries_text bodies base (before ++ e ∷ []) ≡ front ++ own =
    text_append bodies base before (e ∷ []) ∙ ap (λ xs. front ++ xs) (one_text bodies at e) in
    let split : head ++ (entries_text bodies base (before ++ e ∷ []) ++ rest) ≡ (head ++ front) ++ (own ++ rest) =
    ap (λ xs. head ++ (xs ++ rest)) told ∙ ap (λ xs. head ++ xs) (append_assoc front own rest)
    ∙ sym (append_assoc head front (own ++ rest)) in
    let offset : length (head ++ front) ≡ 1024 + length front = omega (arith, long, length-append head front) in
    let there : drop (1024 + length front) (head ++ (entries_text bodies base (before ++ e ∷ []) ++ rest)) ≡ own ++ rest =
    ap (drop (1024 + length front)) split ∙ drop_front (1024 + length front) (head ++ front) (own ++ rest) offset in
    record {
      prev = at;
      mark = mark_of bodies e;
      offset = 1024 + length front;
      begins = subst (BeginsWith at (mark_of bodies e)) (sym there) (begins at e body rest last.0 fits);
      ends = refl;
      size_is = omega (arith, ap length told, length-append front own, entry_length at e body fits);
      tested = λ few. subst (HasItsCrc (length body)) (sym there) (have_their_crc at e body rest fits);
    }
