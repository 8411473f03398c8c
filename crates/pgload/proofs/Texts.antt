-- What a part of a table's text makes of a load.
use Rattle.std.proofs.Common.{◌≡◌, ◌≤◌, ◌<◌, ◌⊎◌, inl, inr, ◌++◌, ℕ, List, [], ◌∷◌, length, take}
use Rattle.std.proofs.Common.{drop, zero, suc, length-append, length-drop, true, ◌+◌, ◌-◌, Result}
use Rattle.std.proofs.Common.{Ok, Err, refl, sym, ap, subst, ◌∙◌, arith, append-nil, append_assoc}
use Rattle.std.specs.Prelude.{◌==◌}
use Rattle.std.specs.FinMap as map
use Rattle.std.proofs.lemmas.Bool.Decides.{nat_tests}
use Rattle.std.specs.List.{AllByRecursion, flat_map}
use Rattle.std.proofs.lemmas.Grind.{flat_map-append}
use Rattle.pgtuple.specs.declared.cell.Cell.{Cell}
use Rattle.pgtuple.specs.Cells.{tuple_spelling}
use Rattle.pgtuple.specs.Limits.{IsWireTuple}
use Rattle.pglogical.specs.declared.message.RelationDef.{RelationDef}
use Rattle.pgcopy.specs.declared.fault.CopyFault.{CopyFault}
use Rattle.pgcopy.specs.declared.fault.CopyFault.TheVariants.{Line, Memory}
use Rattle.pgcopy.specs.Reading.{Reading, End, Open, Marked, Fails, ends, with_rows, copy_reading}
use Rattle.pgcopy.specs.Copied.{Copied, reading_behind, GoesOn, HasEnded, IsFed}
use Rattle.pgcopy.proofs.Runs.{nothing}
use Rattle.pgapply.specs.declared.fault.StoreFault.{StoreFault}
use Rattle.pgapply.specs.declared.fault.StoreFault.TheVariants as store
use Rattle.pgapply.specs.Value.{Tables}
use Rattle.pgapply.specs.Stored.{IsFault}
use Rattle.pgapply.specs.Apply.{Change, fold_changes, ◌>>=◌}
use Rattle.pgapply.specs.Taken.{Folds}
use Rattle.pgsub_core.proofs.Changes.{fold-append}
use Rattle.pgload.specs.declared.fault.LoadFault.{LoadFault}
use Rattle.pgload.specs.declared.fault.LoadFault.TheVariants as fault
use Rattle.pgload.specs.Faults.{IsStoreFault, text_fault}
use Rattle.pgload.specs.Loads.{TableText, format_of, text_reading, rows_of, IsWholeText, inserts}
use Rattle.pgload.specs.Loading.{with_text, AreRowsIn, Opened, IsReadTo, IsFaultOf, most_parts}
use Rattle.pgload.specs.Loading.{IsUnderWay, HasTaken, IsLoading, TextStops}
use Rattle.pgload.proofs.Batches.{inserts-append, some_spelled, left_of}
use Rattle.std.proofs.Math.Seq.{take-add}

-- ---- readings

with_both : (rows added : List (List Cell)) (others : Reading) → with_rows rows (with_rows added others) ≡ with_rows (rows ++ added) others
with_both rows added others =
    ap (λ (all : List (List Cell)). record { rows = all; end = others.end }) (sym (append_assoc rows added others.rows))

-- what a text says that is behind a part of it
pub says : (max_line : ℕ) (table : TableText) (opened : Opened) (stored waiting : List (List Cell))
    → IsReadTo max_line table opened stored waiting → (more : List ℕ)
    → text_reading max_line (with_text table more) ≡ with_rows (stored ++ waiting) (reading_behind opened.reader more)
says max_line table opened stored waiting read more = read.reads more

pub says_so_far : (max_line : ℕ) (table : TableText) (opened : Opened) (stored waiting : List (List Cell))
    → IsReadTo max_line table opened stored waiting
    → text_reading max_line table ≡ with_rows (stored ++ waiting) (reading_behind opened.reader [])
says_so_far max_line table opened stored waiting read =
    ap (copy_reading (format_of max_line table.definition)) (sym (append-nil table.text)) ∙ read.reads []

-- a piece more, with these rows in it
goes_on : (max_line : ℕ) (table : TableText) (opened : Opened) (stored waiting added : List (List Cell)) (piece : List ℕ) (reader : Copied)
    → IsReadTo max_line table opened stored waiting → GoesOn opened.reader piece added reader → (more : List ℕ)
    → copy_reading (format_of max_line table.definition) ((table.text ++ piece) ++ more)
    ≡ with_rows (stored ++ (waiting ++ added)) (reading_behind reader more)
goes_on max_line table opened stored waiting added piece reader read goes more =
    ap (copy_reading (format_of max_line table.definition)) (append_assoc table.text piece more) ∙ read.reads (piece ++ more)
    ∙ ap (with_rows (stored ++ waiting)) (goes more)
    ∙ with_both (stored ++ waiting) added (reading_behind reader more)
    ∙ ap (λ rows. with_rows rows (reading_behind reader more)) (append_assoc stored waiting added)

pub read_on : (max_line : ℕ) (table : TableText) (opened new : Opened) (stored waiting : List (List Cell)) (piece : List ℕ)
    → IsReadTo max_line table opened stored waiting → new.definition ≡ opened.definition → new.rows ≡ opened.rows
    → GoesOn opened.reader piece [] new.reader → IsReadTo max_line (with_text table piece) new stored waiting
read_on max_line table opened new stored waiting piece read definition rows goes = record {
  definition = definition ∙ read.definition;
  reads = λ more. goes_on max_line table opened stored waiting [] piece new.reader read goes more
      ∙ ap (λ rows. with_rows (stored ++ rows) (reading_behind new.reader more)) (append-nil waiting);
  buffer = record { spelled = rows ∙ read.buffer.spelled; wire = read.buffer.wire };
}

All-push : (rows : List (List Cell)) (row : List Cell) → AllByRecursion IsWireTuple rows → IsWireTuple row
    → AllByRecursion IsWireTuple (rows ++ row ∷ [])
All-push [] row all one = (one, tt)
All-push (first ∷ rows) row all one = (all.0, All-push rows row all.1 one)

pub read_row : (max_line : ℕ) (table : TableText) (opened new : Opened) (stored waiting : List (List Cell)) (row : List Cell) (piece : List
    ℕ)
    → IsReadTo max_line table opened stored waiting → new.definition ≡ opened.definition → IsWireTuple row
    → new.rows ≡ opened.rows ++ tuple_spelling row
    → GoesOn opened.reader piece (row ∷ []) new.reader → IsReadTo max_line (with_text table piece) new stored (waiting ++ row ∷ [])
read_row max_line table opened new stored waiting row piece read definition wire rows goes = record {
  definition = definition ∙ read.definition;
  reads = goes_on max_line table opened stored waiting (row ∷ []) piece new.reader read goes;
  buffer = record {
    spelled = rows ∙ ap (λ bytes. bytes ++ tuple_spelling row) read.buffer.spelled
        ∙ ap (λ last. flat_map tuple_spelling waiting ++ last) (sym (append-nil (tuple_spelling row)))
        ∙ sym (flat_map-append tuple_spelling waiting (row ∷ []));
    wire = All-push waiting row read.buffer.wire wire;
  };
}

-- a text that ends so, whatever follows
pub ends_so : (max_line : ℕ) (table : TableText) (opened : Opened) (stored waiting : List (List Cell)) (front others piece : List ℕ)
    (reader : Copied) (end : List ℕ → End) → IsReadTo max_line table opened stored waiting → GoesOn opened.reader front [] reader
    → HasEnded reader end → front ++ others ≡ piece → (text_reading max_line (with_text table piece)).end ≡ end others
ends_so max_line table opened stored waiting front others piece reader end read goes ended parts =
    ap (λ (it : Reading). it.end) (subst
    (λ bytes. text_reading max_line (with_text table bytes) ≡ with_rows (stored ++ waiting) (ends (end others))) parts
    (read.reads (front ++ others) ∙ ap (with_rows (stored ++ waiting)) (goes others ∙ ended others)))

-- a row takes some bytes
pub some_taken : (old new : Copied) (row : List Cell) (taken : ℕ) (piece : List ℕ) → GoesOn old (take taken piece) (row ∷ []) new → 0 <
    taken
some_taken old new row (suc taken) piece goes = omega arith
some_taken old new row zero piece goes =
    absurd (let e : [] ≡ row ∷ (reading_behind new []).rows = sym (nothing old) ∙ ap (λ (it : Reading). it.rows) (goes []) in never row _ e)
  where
    never : (row : List Cell) (rows : List (List Cell)) → [] ≡ row ∷ rows → ⊥
    never row rows e = let no : ⊥ = cc in no

in_bytes : (bytes rows : List ℕ) (cells : List (List Cell)) → bytes ≡ rows → AreRowsIn rows cells → AreRowsIn bytes cells
in_bytes bytes rows cells same are = record { spelled = same ∙ are.spelled; wire = are.wire }

pub no_rows : (rows : List ℕ) → true ≡ (length rows == 0) → rows ≡ []
no_rows [] e = refl
no_rows (byte ∷ rows) e = absurd (grind (arith, nat_tests))

none_waiting : (waiting : List (List Cell)) → [] ≡ flat_map tuple_spelling waiting → waiting ≡ []
none_waiting [] e = refl
none_waiting (row ∷ waiting) e =
    absurd (let some : 0 < length (tuple_spelling row) = some_spelled row in omega (arith, simp length-append at (ap length e)))

both_parts : (n : ℕ) (bytes : List ℕ) → take n bytes ++ drop n bytes ≡ bytes
both_parts zero bytes = refl
both_parts (suc n) [] = refl
both_parts (suc n) (byte ∷ bytes) = ap (λ others. byte ∷ others) (both_parts n bytes)

-- a piece in two parts
pub in_two : (table : TableText) (taken : ℕ) (piece : List ℕ)
    → with_text (with_text table (take taken piece)) (drop taken piece) ≡ with_text table piece
in_two table taken piece =
    ap (λ text. record { definition = table.definition; text = text }) (append_assoc table.text (take taken piece) (drop taken piece)
    ∙ ap (λ bytes. table.text ++ bytes) (both_parts taken piece))

pub with_nothing : (table : TableText) → with_text table [] ≡ table
with_nothing table = ap (λ text. record { definition = table.definition; text = text }) (append-nil table.text)

-- what of a slice is read, and what comes next
pub read_next : (table : TableText) (read taken : ℕ) (piece : List ℕ)
    → with_text (with_text table (take read piece)) (take taken (take (length piece - read) (drop read piece)))
    ≡ with_text table (take (read + taken) piece)
read_next table read taken piece =
    ap (λ bytes. with_text (with_text table (take read piece)) (take taken bytes)) (left_of piece read)
    ∙ ap (λ text. record { definition = table.definition; text = text }) (append_assoc table.text (take read piece) (take taken (drop read
    piece))
    ∙ ap (λ bytes. table.text ++ bytes) (sym (take-add read taken piece)))

pub read_last : (table : TableText) (read : ℕ) (piece : List ℕ)
    → with_text (with_text table (take read piece)) (take (length piece - read) (drop read piece)) ≡ with_text table piece
read_last table read piece =
    ap (λ bytes. with_text (with_text table (take read piece)) bytes) (left_of piece read) ∙ in_two table read piece

pub read_within : (read taken : ℕ) (piece : List ℕ) → read ≤ length piece → taken ≤ length (take (length piece - read) (drop read piece))
    → read + taken ≤ length piece
read_within read taken piece within most =
    let left : taken ≤ length piece - read = subst (λ n. taken ≤ n) (ap length (left_of piece read) ∙ length-drop read piece) most in
    omega (arith, left, within)

-- ---- faults

-- where the first changes have this fault, all have
fault_stays : (fault : StoreFault) (r : Result Tables StoreFault) (f : Tables → Result Tables StoreFault) → IsFault fault r
    → IsFault fault (r >>= f)
fault_stays store.Clash r f is = ap (λ it. it >>= f) is
fault_stays store.NoIdentity r f is = ap (λ it. it >>= f) is
fault_stays store.UnknownIdentity r f is = ap (λ it. it >>= f) is
fault_stays store.UnchangedInInsert r f is = ap (λ it. it >>= f) is
fault_stays store.Width r f is = ap (λ it. it >>= f) is
fault_stays store.TooManyCopies r f is = ap (λ it. it >>= f) is
fault_stays store.Refused r f is = tt
fault_stays store.NotAStore r f is = ap (λ it. it >>= f) is
fault_stays store.Memory r f is = tt

-- the fault of these rows behind those that are stored, with more rows behind
fault_among : (fault : StoreFault) (before : List Change) (def : RelationDef) (stored waiting others : List (List Cell)) (tables : Tables)
    → fold_changes map.empty (before ++ inserts def stored) ≡ Ok tables
    → IsFault fault (fold_changes tables (inserts def waiting))
    → IsFault fault (fold_changes map.empty (before ++ inserts def ((stored ++ waiting) ++ others)))
fault_among fault before def stored waiting others tables made is =
    let first : fold_changes map.empty (before ++ inserts def (stored ++ waiting)) ≡ fold_changes tables (inserts def waiting) =
    ap (fold_changes map.empty) (ap (λ changes. before ++ changes) (inserts-append def stored waiting)
    ∙ sym (append_assoc before (inserts def stored) (inserts def waiting)))
    ∙ fold-append (before ++ inserts def stored) (inserts def waiting) map.empty
    ∙ ap (λ (r : Result Tables StoreFault). r >>= λ next. fold_changes next (inserts def waiting)) made in
    let all : fold_changes map.empty (before ++ inserts def ((stored ++ waiting) ++ others))
    ≡ (fold_changes tables (inserts def waiting) >>= λ next. fold_changes next (inserts def others)) =
    ap (fold_changes map.empty) (ap (λ changes. before ++ changes) (inserts-append def (stored ++ waiting) others)
    ∙ sym (append_assoc before (inserts def (stored ++ waiting)) (inserts def others)))
    ∙ fold-append (before ++ inserts def (stored ++ waiting)) (inserts def others) map.empty
    ∙ ap (λ (r : Result Tables StoreFault). r >>= λ next. fold_changes next (inserts def others)) first in
    subst (IsFault fault) (sym all) (fault_stays fault _ _ is)

-- ---- the store

module _ {C : Type 0} (holds : C → Tables → Type 0) (place : C → ℕ) (reopens : C → C → Type 0) (serves is_honest : C → Type 0) where
  abbrev pub Crash : C → C → Type 0
  Crash old new = is_honest new → (other : C) → reopens new other → reopens old other ⊎ (place other ≤ most_parts)

  pub still_under_way : (old new : C) → IsUnderWay holds place reopens serves is_honest old → place new ≤ most_parts
      → (is_honest new → is_honest old) → Crash old new → IsUnderWay holds place reopens serves is_honest new
  still_under_way old new is part honest crash = record {
    part = part;
    leaves = λ true other left. elim (crash true other left) [
      | inl was ↦ is.leaves (honest true) other was
      | inr low ↦ low
    ];
  }

  taken_more : (old new : C) (changes more : List Change) → HasTaken holds place reopens serves is_honest changes old
      → (serves new → serves old) → (serves new → Folds holds old new more) → IsUnderWay holds place reopens serves is_honest new
      → HasTaken holds place reopens serves is_honest (changes ++ more) new
  taken_more old new changes more is served folds under_way = record {
    under_way = under_way;
    made = λ own.
        let was = is.made (served own) in
        let next = folds own was.0 was.2 in (
          next.0,
          fold-append changes more map.empty
              ∙ ap (λ (r : Result Tables StoreFault). r >>= λ it. fold_changes it more) was.1 ∙ next.1,
          next.2,
        );
  }

  module _ (max_line : ℕ) (before : List Change) (table : TableText) (old new : C) where
    -- the rows that waited are stored
    pub stored_all : (opened after : Opened) (bytes : List ℕ) → bytes ≡ opened.rows → IsLoading holds place reopens serves is_honest
        max_line before table old opened
        → after.definition ≡ opened.definition → after.reader ≡ opened.reader → after.rows ≡ []
        → (serves new → serves old)
        → (serves new → (cells : List (List Cell)) → AreRowsIn bytes cells → Folds holds old new (inserts opened.definition cells))
        → place new ≤ most_parts → (is_honest new → is_honest old) → Crash old new
        → IsLoading holds place reopens serves is_honest max_line before table new after
    stored_all opened after bytes same is definition reader rows served folds part honest crash =
        let def = table.definition in
        let all : (before ++ inserts def is.stored) ++ inserts def is.waiting ≡ before ++ inserts def (is.stored ++ is.waiting) =
        append_assoc before (inserts def is.stored) (inserts def is.waiting)
        ∙ ap (λ changes. before ++ changes) (sym (inserts-append def is.stored is.waiting)) in
        record {
          stored = is.stored ++ is.waiting;
          waiting = [];
          read = record {
            definition = definition ∙ is.read.definition;
            reads = λ more. is.read.reads more
                ∙ ap (λ rows. with_rows rows (reading_behind opened.reader more)) (sym (append-nil (is.stored ++ is.waiting)))
                ∙ ap (λ it. with_rows ((is.stored ++ is.waiting) ++ []) (reading_behind it more)) (sym reader);
            buffer = record { spelled = rows; wire = tt };
          };
          taken = subst (λ changes. HasTaken holds place reopens serves is_honest changes new) all
              (taken_more old new (before ++ inserts def is.stored) (inserts def is.waiting) is.taken served
              (λ own. subst (λ it. Folds holds old new (inserts it is.waiting)) is.read.definition (folds own is.waiting (in_bytes bytes
              opened.rows is.waiting same is.read.buffer)))
              (still_under_way old new is.taken.under_way part honest crash));
        }

    store_fault : (opened : Opened) (bytes more : List ℕ) (fault : LoadFault) → bytes ≡ opened.rows
        → IsLoading holds place reopens serves is_honest max_line before table old opened
        → (serves new → serves old)
        → IsStoreFault fault (most_parts ≤ place old) (λ of. (cells : List (List Cell)) → AreRowsIn bytes cells → serves new → (tables :
        Tables)
        → holds old tables → IsFault of (fold_changes tables (inserts opened.definition cells)))
        → place new ≡ place old
        → IsFaultOf max_line (serves new) (most_parts ≤ place new) before (with_text table more) fault
    store_fault opened bytes more (fault.Store of) same is served why kept = λ own.
        let was = is.taken.made (served own) in
        let def = table.definition in
        let here : IsFault of (fold_changes was.0 (inserts def is.waiting)) =
        subst (λ it. IsFault of (fold_changes was.0 (inserts it is.waiting))) is.read.definition
        (why is.waiting (in_bytes bytes opened.rows is.waiting same is.read.buffer) own was.0 was.2) in
        subst (λ (rows : List (List Cell)). IsFault of (fold_changes map.empty (before ++ inserts def rows)))
        (sym (ap (λ (it : Reading). it.rows) (is.read.reads more)))
        (fault_among of before def is.stored is.waiting (reading_behind opened.reader more).rows was.0 was.1 here)
    store_fault opened bytes more (fault.Line oid number reason) same is served why kept = absurd why
    store_fault opened bytes more (fault.Marker oid) same is served why kept = absurd why
    store_fault opened bytes more (fault.CutLine oid) same is served why kept = absurd why
    store_fault opened bytes more fault.Order same is served why kept = absurd why
    store_fault opened bytes more fault.TooManyBatches same is served why kept = subst (λ p. most_parts ≤ p) (sym kept) why
    store_fault opened bytes more fault.BadPoint same is served why kept = absurd why
    store_fault opened bytes more fault.NotNew same is served why kept = absurd why
    store_fault opened bytes more fault.BadInput same is served why kept = absurd why
    store_fault opened bytes more (fault.Wire of) same is served why kept = absurd why
    store_fault opened bytes more fault.Memory same is served why kept = tt

    -- the store took none of them
    pub store_stops : (opened : Opened) (bytes more : List ℕ) (fault : LoadFault) → bytes ≡ opened.rows
        → IsLoading holds place reopens serves is_honest max_line before table old opened
        → (serves new → serves old)
        → IsStoreFault fault (most_parts ≤ place old) (λ of. (cells : List (List Cell)) → AreRowsIn bytes cells → serves new → (tables :
        Tables)
        → holds old tables → IsFault of (fold_changes tables (inserts opened.definition cells)))
        → place new ≡ place old → (is_honest new → is_honest old) → Crash old new
        → TextStops holds place reopens serves is_honest max_line before (with_text table more) new fault
    store_stops opened bytes more fault same is served why kept honest crash = record {
      under_way = still_under_way old new is.taken.under_way (subst (λ p. p ≤ most_parts) (sym kept) is.taken.under_way.part) honest crash;
      why = store_fault opened bytes more fault same is served why kept;
    }

  -- ---- one call of the reader

  module _ (max_line : ℕ) (before : List Change) (table : TableText) (now : C) (opened : Opened) (piece : List ℕ)
      (is : IsLoading holds place reopens serves is_honest max_line before table now opened) where
    pub fed_row : (after : Opened) (row : List Cell) → after.definition ≡ opened.definition → IsWireTuple row
        → after.rows ≡ opened.rows ++ tuple_spelling row → GoesOn opened.reader piece (row ∷ []) after.reader
        → IsLoading holds place reopens serves is_honest max_line before (with_text table piece) now after
    fed_row after row definition wire rows goes = record {
      stored = is.stored;
      waiting = is.waiting ++ row ∷ [];
      read = read_row max_line table opened after is.stored is.waiting row piece is.read definition wire rows goes;
      taken = is.taken;
    }

    pub fed_on : (after : Opened) → after.definition ≡ opened.definition → after.rows ≡ opened.rows
        → GoesOn opened.reader piece [] after.reader
        → IsLoading holds place reopens serves is_honest max_line before (with_text table piece) now after
    fed_on after definition rows goes = record {
      stored = is.stored;
      waiting = is.waiting;
      read = read_on max_line table opened after is.stored is.waiting piece is.read definition rows goes;
      taken = is.taken;
    }

    pub marker_stops : (oid taken : ℕ) (reader : Copied) → oid ≡ opened.definition.oid → GoesOn opened.reader (take taken piece) [] reader
        → HasEnded reader Marked
        → TextStops holds place reopens serves is_honest max_line before (with_text table piece) now (fault.Marker oid)
    marker_stops oid taken reader named goes ended = record {
      under_way = is.taken.under_way;
      why = (
        named ∙ ap (λ (def : RelationDef). def.oid) is.read.definition,
        (
          drop taken piece,
          ends_so max_line table opened is.stored is.waiting (take taken piece) (drop taken piece) piece reader Marked is.read goes ended
              (both_parts taken piece),
        ),
      );
    }

    pub line_stops : (oid : ℕ) (of : CopyFault) (reader : Copied) (rows : List ℕ) → oid ≡ opened.definition.oid
        → IsFed opened.reader piece opened.rows (Err of) reader rows
        → TextStops holds place reopens serves is_honest max_line before (with_text table piece) now (text_fault oid of)
    line_stops oid (Line number reason) reader rows named fed = record {
      under_way = is.taken.under_way;
      why = (
        named ∙ ap (λ (def : RelationDef). def.oid) is.read.definition,
        ends_so max_line table opened is.stored is.waiting piece [] piece reader (λ _. Fails number reason) is.read fed.1 fed.2
            (append-nil piece),
      );
    }
    line_stops oid Memory reader rows named fed = record { under_way = is.taken.under_way; why = tt }

  -- ---- the end of a text

  module _ (max_line : ℕ) (before : List Change) (table : TableText) (now : C) (opened : Opened)
      (is : IsLoading holds place reopens serves is_honest max_line before table now opened) where
    pub cut_stops : (oid : ℕ) → oid ≡ opened.definition.oid → ((reading_behind opened.reader []).end ≡ Open [] → ⊥)
        → TextStops holds place reopens serves is_honest max_line before table now (fault.CutLine oid)
    cut_stops oid named not = record {
      under_way = is.taken.under_way;
      why = (
        named ∙ ap (λ (def : RelationDef). def.oid) is.read.definition,
        λ whole. not (sym (ap (λ (it : Reading). it.end) (says_so_far max_line table opened is.stored is.waiting is.read)) ∙ whole),
      );
    }

    pub whole_text : (reading_behind opened.reader []).end ≡ Open [] → IsWholeText max_line table
    whole_text end = ap (λ (it : Reading). it.end) (says_so_far max_line table opened is.stored is.waiting is.read) ∙ end

    pub all_taken : opened.rows ≡ []
        → HasTaken holds place reopens serves is_honest (before ++ inserts table.definition (rows_of max_line table)) now
    all_taken empty =
        let none : is.waiting ≡ [] = none_waiting is.waiting (sym empty ∙ is.read.buffer.spelled) in
        let rows : rows_of max_line table ≡ is.stored =
        ap (λ (it : Reading). it.rows) (says_so_far max_line table opened is.stored is.waiting is.read)
        ∙ ap (λ last. (is.stored ++ is.waiting) ++ last) (nothing opened.reader) ∙ append-nil (is.stored ++ is.waiting)
        ∙ ap (λ last. is.stored ++ last) none ∙ append-nil is.stored in
        subst (λ rows. HasTaken holds place reopens serves is_honest (before ++ inserts table.definition rows) now) (sym rows) is.taken
