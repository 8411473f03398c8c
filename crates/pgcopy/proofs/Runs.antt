-- What any calls of a reader come to.
use Rattle.std.proofs.Common.{◌≡◌, ℕ, List, [], ◌∷◌, ◌++◌, take, Result, Ok, Err, refl, ap, sym}
use Rattle.std.proofs.Common.{◌∙◌, subst}
use Rattle.std.proofs.Common.{Option, Some, None, true, false}
use Rattle.std.specs.Prelude.{if◌then◌else◌}
use Rattle.std.proofs.Common.{append_assoc, append-nil}
use Rattle.std.specs.List.{flat_map}
use Rattle.std.proofs.lemmas.Grind.{flat_map-append}
use Rattle.pgtuple.specs.declared.cell.Cell.{Cell}
use Rattle.pgtuple.specs.Cells.{tuple_spelling}
use Rattle.pgcopy.specs.declared.fault.CopyFault.{CopyFault}
use Rattle.pgcopy.specs.declared.fault.CopyFault.TheVariants.{Line, Memory}
use Rattle.pgcopy.specs.declared.fault.Reason.{Reason}
use Rattle.pgcopy.specs.declared.fed.Fed.{Fed}
use Rattle.pgcopy.specs.declared.fed.Fed.TheVariants.{Waits, Row, Ended}
use Rattle.pgcopy.specs.Reading.{Format, Reading, Marked, ends, with_rows, reading, copy_reading}
use Rattle.pgcopy.specs.Copied.{Copied, fresh, reading_with, reading_behind, GoesOn, IsFed}
use Rattle.pgcopy.specs.Calls.{Call, Feed, taken_of, Leads, end_of}

-- ---- one call

record Goes (old : Copied) (taken before : List ℕ) (new : Copied) (after : List ℕ) : Type 0 where
  added : List (List Cell)
  buffer : after ≡ before ++ flat_map tuple_spelling added
  goes : GoesOn old taken added new

stays : (old : Copied) (taken before : List ℕ) (new : Copied) (after : List ℕ) → after ≡ before → GoesOn old taken [] new
    → Goes old taken before new after
stays old taken before new after same goes = record { added = []; buffer = same ∙ sym (append-nil before); goes = goes }

fed_goes : (old : Copied) (piece before : List ℕ) (result : Result Fed CopyFault) (new : Copied) (after : List ℕ)
    → IsFed old piece before result new after → Goes old (taken_of piece result) before new after
fed_goes old piece before (Ok Waits) new after fed = stays old piece before new after fed.0 fed.1
fed_goes old piece before (Ok (Row taken)) new after fed = record {
  added = fed.1 ∷ [];
  buffer = fed.3 ∙ ap (λ more. before ++ more) (sym (append-nil (tuple_spelling fed.1)));
  goes = fed.4;
}
fed_goes old piece before (Ok (Ended taken)) new after fed = stays old (take taken piece) before new after fed.1 fed.2
fed_goes old piece before (Err Memory) new after fed =
    stays old [] before new after fed.0 (subst (λ state. GoesOn old [] [] state) (sym fed.1) (λ more. refl))
fed_goes old piece before (Err (Line number reason)) new after fed = stays old piece before new after fed.0 fed.1

-- ---- any calls

record Comes (format : Format) (taken buffer : List ℕ) (state : Copied) : Type 0 where
  rows : List (List Cell)
  filled : buffer ≡ flat_map tuple_spelling rows
  says : (more : List ℕ) → copy_reading format (taken ++ more) ≡ with_rows rows (reading_behind state more)

comes_fresh : (format : Format) → Comes format [] [] (fresh format)
unfolding reading_behind
comes_fresh format = record { rows = []; filled = refl; says = λ more. refl }

with_both : (rows added : List (List Cell)) (others : Reading) → with_rows rows (with_rows added others) ≡ with_rows (rows ++ added) others
with_both rows added others =
    ap (λ (all : List (List Cell)). record { rows = all; end = others.end }) (sym (append_assoc rows added others.rows))

comes_more : (format : Format) (before taken filled : List ℕ) (old new : Copied) (buffer : List ℕ) → Comes format before filled old
    → Goes old taken filled new buffer → Comes format (before ++ taken) buffer new
comes_more format before taken filled old new buffer came went = record {
  rows = came.rows ++ went.added;
  filled = went.buffer ∙ ap (λ bytes. bytes ++ flat_map tuple_spelling went.added) came.filled
      ∙ sym (flat_map-append tuple_spelling came.rows went.added);
  says = λ more. ap (copy_reading format) (append_assoc before taken more) ∙ came.says (taken ++ more)
      ∙ ap (with_rows came.rows) (went.goes more) ∙ with_both came.rows went.added (reading_behind new more);
}

comes : (format : Format) (calls : List Call) (taken buffer : List ℕ) (state : Copied) → Leads format calls taken buffer state
    → Comes format taken buffer state
comes format [] taken buffer state leads = rw (leads.0, leads.1, leads.2) (comes_fresh format)
comes format (Feed piece result ∷ calls) taken buffer state leads =
    subst (λ bytes. Comes format bytes buffer state) (sym leads.5)
    (comes_more format leads.0 (taken_of piece result) leads.1 leads.2 state buffer (comes format calls leads.0 leads.1 leads.2 leads.3)
    (fed_goes leads.2 piece leads.1 result state buffer leads.4))

-- no byte says no row
nothing_with : (fault : Option Reason) (state : Copied) → (reading_with fault state []).rows ≡ []
unfolding reading
nothing_with (Some reason) state = refl
nothing_with None state =
    elim state.marked as (λ b. (if b then ends (Marked []) else reading state.format state.number state.held []).rows ≡ []) [
      | true ↦ refl
      | false ↦ refl
    ]

pub nothing : (state : Copied) → (reading_behind state []).rows ≡ []
unfolding reading_behind
nothing state = nothing_with state.fault state

says_all : (format : Format) (taken buffer : List ℕ) (state : Copied) (came : Comes format taken buffer state)
    → copy_reading format taken ≡ with_rows came.rows (reading_behind state [])
says_all format taken buffer state came = ap (copy_reading format) (sym (append-nil taken)) ∙ came.says []

pub rows_of_the_bytes : (format : Format) (calls : List Call) (taken buffer : List ℕ) (state : Copied)
    → Leads format calls taken buffer state → buffer ≡ flat_map tuple_spelling (copy_reading format taken).rows
rows_of_the_bytes format calls taken buffer state leads =
    let came = comes format calls taken buffer state leads in
    let rows : (copy_reading format taken).rows ≡ came.rows =
    ap (λ (it : Reading). it.rows) (says_all format taken buffer state came) ∙ ap (λ last. came.rows ++ last) (nothing state)
    ∙ append-nil came.rows in
    came.filled ∙ ap (flat_map tuple_spelling) (sym rows)

pub end_of_the_bytes : (format : Format) (calls : List Call) (taken buffer : List ℕ) (state : Copied)
    → Leads format calls taken buffer state → (copy_reading format taken).end ≡ end_of state
end_of_the_bytes format calls taken buffer state leads =
    let came = comes format calls taken buffer state leads in
    ap (λ (it : Reading). it.end) (says_all format taken buffer state came)

pub cuts_are_the_same : (format : Format) (calls others : List Call) (taken buffer filled : List ℕ) (state other : Copied)
    → Leads format calls taken buffer state → Leads format others taken filled other
    → (buffer ≡ filled) × (end_of state ≡ end_of other)
cuts_are_the_same format calls others taken buffer filled state other a b = (
  rows_of_the_bytes format calls taken buffer state a ∙ sym (rows_of_the_bytes format others taken filled other b),
  sym (end_of_the_bytes format calls taken buffer state a) ∙ end_of_the_bytes format others taken filled other b,
)
