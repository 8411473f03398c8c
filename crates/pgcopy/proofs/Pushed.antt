-- What a line leaves in the buffer of rows.
use Rattle.std.proofs.Common.{◌≡◌, ℕ, List, [], ◌∷◌, ◌++◌, true, false, length, take, refl, sym}
use Rattle.std.proofs.Common.{ap, ◌∙◌, subst, Result, Ok, Err, append_assoc, append-nil}
use Rattle.std.specs.Prelude.{MatchResult}
use Rattle.std.specs.Int.{w16, to_be_bytes}
use Rattle.std.specs.List.{AllByRecursion, flat_map}
use Rattle.std.specs.Str.{IsUtf8, is_utf8}
use Rattle.std.proofs.lemmas.Bool.{false_from_ne_true}
use Rattle.std.proofs.lemmas.List.{take_at}
use Rattle.std.proofs.lemmas.Str.{IsUtf8-from_is_utf8, is_utf8-from_IsUtf8}
use Rattle.std.proofs.lemmas.Grind.{flat_map-append}
use Rattle.pgtuple.specs.declared.cell.Cell.{Cell}
use Rattle.pgtuple.proofs.Appending.{Keeps-more}
use Rattle.pgtuple.specs.Cells.{cell_spelling, tuple_spelling}
use Rattle.pgtuple.specs.Writing.{Keeps}
use Rattle.pgcopy.specs.declared.fault.Reason.{Reason}
use Rattle.pgcopy.specs.declared.fault.RowFault.{RowFault}
use Rattle.pgcopy.specs.declared.fault.RowFault.TheVariants.{Bad, Memory}
use Rattle.pgcopy.specs.Read.{AddsCells, Refuses}

pub is_text : (bytes : List ℕ) → IsUtf8 bytes → true ≡ is_utf8 bytes
is_text bytes utf8 = sym (is_utf8-from_IsUtf8 bytes utf8)

pub is_no_text : (bytes : List ℕ) → (IsUtf8 bytes → ⊥) → false ≡ is_utf8 bytes
is_no_text bytes refused = sym (false_from_ne_true (is_utf8 bytes) (λ test. refused (IsUtf8-from_is_utf8 bytes test)))

pub Keeps-same : (bytes : List ℕ) → Keeps bytes bytes
Keeps-same bytes = ap (take (length bytes)) (sym (append-nil bytes)) ∙ take_at bytes [] (length bytes) refl

pub Keeps-append : (before more : List ℕ) → Keeps before (before ++ more)
Keeps-append before more = take_at before more (length before) refl

pub refused : {A : Type 0} (before : List ℕ) (read : Result A Reason) (reason : Reason) → read ≡ Err reason
    → Refuses before read (Bad reason) before
refused before read reason e = record { is = e; keeps = Keeps-same before }

pub full : {A : Type 0} (before after : List ℕ) (read : Result A Reason) → Keeps before after → Refuses before read Memory after
full before after read keeps = record { is = tt; keeps = keeps }

-- ---- lists of cells

module _ (P : Cell → Type 0) where
  pub All-push : (cells : List Cell) (cell : Cell) → AllByRecursion P cells → P cell → AllByRecursion P (cells ++ cell ∷ [])
  All-push [] cell all one = (one, tt)
  All-push (first ∷ cells) cell all one = (all.0, All-push cells cell all.1 one)

-- a cell more behind those that were added
pub spelling-push : (before : List ℕ) (cells : List Cell) (cell : Cell) (middle after : List ℕ)
    → middle ≡ before ++ flat_map cell_spelling cells
    → after ≡ middle ++ cell_spelling cell → after ≡ before ++ flat_map cell_spelling (cells ++ cell ∷ [])
spelling-push before cells cell middle after m a =
    a ∙ ap (λ bytes. bytes ++ cell_spelling cell) m ∙ append_assoc before (flat_map cell_spelling cells) (cell_spelling cell)
    ∙ ap (λ bytes. before ++ bytes) (ap (λ last. flat_map cell_spelling cells ++ last) (sym (append-nil (cell_spelling cell)))
    ∙ sym (flat_map-append cell_spelling cells (cell ∷ [])))

pub keeps_front : (before more after : List ℕ) → after ≡ before ++ more → Keeps before after
keeps_front before more after e = subst (Keeps before) (sym e) (Keeps-append before more)

-- a row behind the number of its columns
pub row_added : {T : Type 0} (r : Result T RowFault) (before width start after : List ℕ) (read : Result (List Cell) Reason)
    → start ≡ before ++ width → MatchResult r (λ _. AddsCells start read after) (λ fault. Refuses start read fault after)
    → MatchResult r (λ _. AddsCells (before ++ width) read after) (λ fault. Refuses before read fault after)
row_added (Ok x) before width start after read e added = subst (λ bytes. AddsCells bytes read after) e added
row_added (Err fault) before width start after read e refuses =
    record { is = refuses.is; keeps = Keeps-more before start after width e refuses.keeps }

pub row_spelling : (columns : ℕ) (before after : List ℕ) (cells : List Cell) → length cells ≡ columns
    → after ≡ (before ++ to_be_bytes w16 columns) ++ flat_map cell_spelling cells → after ≡ before ++ tuple_spelling cells
unfolding tuple_spelling
row_spelling columns before after cells width e =
    e ∙ append_assoc before (to_be_bytes w16 columns) (flat_map cell_spelling cells)
    ∙ ap (λ n. before ++ (to_be_bytes w16 n ++ flat_map cell_spelling cells)) (sym width)
