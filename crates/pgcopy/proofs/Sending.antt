-- What a server sends for rows is read again.
use Rattle.std.proofs.Common.{◌≡◌, ◌≢◌, ℕ, List, [], ◌∷◌, ◌++◌, true, false, length, Ok, refl, ap}
use Rattle.std.proofs.Common.{sym}
use Rattle.std.proofs.Common.{◌∙◌, subst, arith, append_assoc, append-nil}
use Rattle.std.specs.Prelude.{◌==◌, if◌then◌else◌, map}
use Rattle.std.specs.List.{AllByRecursion, flat_map}
use Rattle.std.specs.Cmp.Lexicographic.{pointwise}
use Rattle.std.proofs.lemmas.Bool.Decides.{nat_tests}
use Rattle.pgtuple.specs.declared.cell.Cell.{Cell}
use Rattle.pgtuple.specs.declared.cell.Cell.TheVariants.{Null, Unchanged, Text, Binary}
use Rattle.pgcopy.specs.Values.{value_of, with_byte, sequence_at}
use Rattle.pgcopy.specs.Rows.{tab, null_string, is_null, cell_of, in_front, fields_of, cells_of}
use Rattle.pgcopy.specs.Rows.{row_of}
use Rattle.pgcopy.specs.Reading.{Format, Open, newline, is_end_marker, with_rows, next_number}
use Rattle.pgcopy.specs.Reading.{reading, copy_reading}
use Rattle.pgcopy.specs.Sent.{sent_byte, sent_field, sent_line, sent, IsSentCell, IsSentRow}
use Rattle.pgcopy.proofs.Plain.{value-plain, value-sequence, value-nil}
use Rattle.pgcopy.specs.Copied.{NoNewline}
use Rattle.pgcopy.proofs.Lines.{NoNewline-append, reading-part, reading-row}

-- ---- the cases of a byte

-- a character behind a backslash that means this byte
record Escapes (letter meant : ℕ) : Type 0 where
  sequence : (rest : List ℕ) → sequence_at (letter ∷ rest) ≡ (meant, 1)
  no_null : (letter == 78) ≡ false
  no_dot : (letter == 46) ≡ false
  no_tab : (letter == 9) ≡ false
  no_newline : letter ≢ 10

record Stands (byte : ℕ) : Type 0 where
  no_tab : (byte == 9) ≡ false
  no_newline : (byte == 10) ≡ false
  no_return : (byte == 13) ≡ false
  no_backslash : (byte == 92) ≡ false

choose : (P : List ℕ → Type 0) (byte meant letter : ℕ) (others : List ℕ) → (byte ≡ meant → P (92 ∷ letter ∷ []))
    → ((byte == meant) ≡ false → P others) → P (if byte == meant then 92 ∷ letter ∷ [] else others)
choose P byte meant letter others there other =
    elim (byte == meant) as (λ b. (byte == meant) ≡ b → P (if b then 92 ∷ letter ∷ [] else others)) [
      | true ↦ λ e. there (grind (arith, nat_tests))
      | false ↦ other
    ] refl

backspace : Escapes 98 8
unfolding sequence_at
backspace = record { sequence = λ rest. refl; no_null = refl; no_dot = refl; no_tab = refl; no_newline = λ e. absurd (omega arith) }

form_feed : Escapes 102 12
unfolding sequence_at
form_feed = record { sequence = λ rest. refl; no_null = refl; no_dot = refl; no_tab = refl; no_newline = λ e. absurd (omega arith) }

line_feed : Escapes 110 10
unfolding sequence_at
line_feed = record { sequence = λ rest. refl; no_null = refl; no_dot = refl; no_tab = refl; no_newline = λ e. absurd (omega arith) }

return : Escapes 114 13
unfolding sequence_at
return = record { sequence = λ rest. refl; no_null = refl; no_dot = refl; no_tab = refl; no_newline = λ e. absurd (omega arith) }

tabulator : Escapes 116 9
unfolding sequence_at
tabulator = record { sequence = λ rest. refl; no_null = refl; no_dot = refl; no_tab = refl; no_newline = λ e. absurd (omega arith) }

vertical : Escapes 118 11
unfolding sequence_at
vertical = record { sequence = λ rest. refl; no_null = refl; no_dot = refl; no_tab = refl; no_newline = λ e. absurd (omega arith) }

double : Escapes 92 92
unfolding sequence_at
double = record { sequence = λ rest. refl; no_null = refl; no_dot = refl; no_tab = refl; no_newline = λ e. absurd (omega arith) }

sent_cases : (P : List ℕ → Type 0) (byte : ℕ) → ((letter meant : ℕ) → Escapes letter meant → byte ≡ meant → P (92 ∷ letter ∷ []))
    → (Stands byte → P (byte ∷ [])) → P (sent_byte byte)
sent_cases P byte escaped plain =
    choose P byte 8 98 _ (escaped 98 8 backspace) (λ e8.
    choose P byte 12 102 _ (escaped 102 12 form_feed) (λ e12.
    choose P byte 10 110 _ (escaped 110 10 line_feed) (λ e10.
    choose P byte 13 114 _ (escaped 114 13 return) (λ e13.
    choose P byte 9 116 _ (escaped 116 9 tabulator) (λ e9.
    choose P byte 11 118 _ (escaped 118 11 vertical) (λ e11.
    choose P byte 92 92 _ (escaped 92 92 double) (λ e92.
    plain (record { no_tab = e9; no_newline = e10; no_return = e13; no_backslash = e92 }))))))))

-- ---- values

some_left : (byte : ℕ) (bytes : List ℕ) → (length (byte ∷ bytes) == 0) ≡ false
some_left byte bytes = grind (arith, nat_tests)

value_escaped : (letter meant : ℕ) (rest bytes : List ℕ) → Escapes letter meant → value_of rest ≡ Ok bytes
    → value_of (92 ∷ letter ∷ rest) ≡ Ok (meant ∷ bytes)
value_escaped letter meant rest bytes escapes e =
    let seq : sequence_at (letter ∷ rest) ≡ (meant, 1) = escapes.sequence rest in
    value-sequence (letter ∷ rest) (some_left letter rest) ∙ rw seq (ap (with_byte meant) e)

value_front : (byte : ℕ) (rest bytes : List ℕ) → value_of rest ≡ Ok bytes → value_of (sent_byte byte ++ rest) ≡ Ok (byte ∷ bytes)
value_front byte rest bytes e =
    sent_cases (λ sequence. value_of (sequence ++ rest) ≡ Ok (byte ∷ bytes)) byte
    (λ letter meant escapes is. subst (λ b. value_of (92 ∷ letter ∷ rest) ≡ Ok (b ∷ bytes)) (sym is)
    (value_escaped letter meant rest bytes escapes e))
    (λ stands. value-plain byte rest stands.no_backslash stands.no_return ∙ ap (with_byte byte) e)

value_sent : (bytes : List ℕ) → value_of (flat_map sent_byte bytes) ≡ Ok bytes
value_sent [] = value-nil
value_sent (byte ∷ bytes) = value_front byte (flat_map sent_byte bytes) bytes (value_sent bytes)

-- ---- fields

no_null : (bytes : List ℕ) → is_null (flat_map sent_byte bytes) ≡ false
no_null [] = refl
no_null (byte ∷ bytes) =
    sent_cases (λ sequence. pointwise ◌==◌ (sequence ++ flat_map sent_byte bytes) null_string ≡ false) byte
    (λ letter meant escapes is. rw (escapes.no_null) refl)
    (λ stands. rw (stands.no_backslash) refl)

cell_sent : (cell : Cell) → IsSentCell cell → cell_of (sent_field cell) ≡ Ok cell
unfolding cell_of
cell_sent Null is = refl
cell_sent Unchanged is = absurd is
cell_sent (Text bytes) is = rw (no_null bytes, value_sent bytes, is) refl
cell_sent (Binary bytes) is = absurd is

abbrev NoTab : List ℕ → Type 0
NoTab bytes = AllByRecursion (λ byte. (byte == 9) ≡ false) bytes

NoTab-append : (xs ys : List ℕ) → NoTab xs → NoTab ys → NoTab (xs ++ ys)
NoTab-append [] ys a b = b
NoTab-append (x ∷ xs) ys a b = (a.0, NoTab-append xs ys a.1 b)

text_no_tab : (bytes : List ℕ) → NoTab (flat_map sent_byte bytes)
text_no_tab [] = tt
text_no_tab (byte ∷ bytes) =
    NoTab-append (sent_byte byte) (flat_map sent_byte bytes)
    (sent_cases NoTab byte (λ letter meant escapes is. (refl, (escapes.no_tab, tt))) (λ stands. (stands.no_tab, tt)))
    (text_no_tab bytes)

field_no_tab : (cell : Cell) → NoTab (sent_field cell)
field_no_tab Null = (refl, (refl, tt))
field_no_tab Unchanged = tt
field_no_tab (Text bytes) = text_no_tab bytes
field_no_tab (Binary bytes) = tt

fields-first : (field rest : List ℕ) → NoTab field → fields_of (field ++ tab ∷ rest) ≡ field ∷ fields_of rest
fields-first [] rest none = refl
fields-first (byte ∷ field) rest none = rw (none.0) (ap (in_front byte) (fields-first field rest none.1))

fields-last : (field : List ℕ) → NoTab field → fields_of field ≡ field ∷ []
fields-last [] none = refl
fields-last (byte ∷ field) none = rw (none.0) (ap (in_front byte) (fields-last field none.1))

fields_sent : (cell : Cell) (cells : List Cell) → fields_of (sent_line (cell ∷ cells)) ≡ map sent_field (cell ∷ cells)
fields_sent cell [] = fields-last (sent_field cell) (field_no_tab cell)
fields_sent cell (other ∷ cells) =
    fields-first (sent_field cell) (sent_line (other ∷ cells)) (field_no_tab cell)
    ∙ ap (λ fields. sent_field cell ∷ fields) (fields_sent other cells)

cells_sent : (cells : List Cell) → AllByRecursion IsSentCell cells → cells_of (length cells) (map sent_field cells) ≡ Ok cells
unfolding cells_of
cells_sent [] all = refl
cells_sent (cell ∷ cells) all = rw (cell_sent cell all.0, cells_sent cells all.1) refl

row_sent : (cells : List Cell) → AllByRecursion IsSentCell cells → row_of (length cells) (sent_line cells) ≡ Ok cells
unfolding row_of cells_of
row_sent [] all = refl
row_sent (cell ∷ cells) all =
    let some : (length (cell ∷ cells) == 0) ≡ false = grind (arith, nat_tests) in
    rw (some, fields_sent cell cells) (cells_sent (cell ∷ cells) all)

-- ---- lines

text_no_newline : (bytes : List ℕ) → NoNewline (flat_map sent_byte bytes)
text_no_newline [] = tt
text_no_newline (byte ∷ bytes) =
    NoNewline-append (sent_byte byte) (flat_map sent_byte bytes)
    (sent_cases NoNewline byte (λ letter meant escapes is. (λ e. absurd (omega arith), (escapes.no_newline, tt)))
    (λ stands. (λ e. grind (arith, nat_tests, stands.no_newline), tt)))
    (text_no_newline bytes)

field_no_newline : (cell : Cell) → NoNewline (sent_field cell)
field_no_newline Null = (λ e. absurd (omega arith), (λ e. absurd (omega arith), tt))
field_no_newline Unchanged = tt
field_no_newline (Text bytes) = text_no_newline bytes
field_no_newline (Binary bytes) = tt

line_no_newline : (cells : List Cell) → NoNewline (sent_line cells)
line_no_newline [] = tt
line_no_newline (cell ∷ []) = field_no_newline cell
line_no_newline (cell ∷ other ∷ cells) =
    NoNewline-append (sent_field cell) (tab ∷ sent_line (other ∷ cells)) (field_no_newline cell)
    (λ e. absurd (omega arith), line_no_newline (other ∷ cells))

-- what stands behind a field makes no end-of-data marker of it
no_marker_behind : (cell : Cell) (rest : List ℕ) → IsSentCell cell → is_end_marker rest ≡ false
    → is_end_marker (sent_field cell ++ rest) ≡ false
no_marker_behind Null rest is none = refl
no_marker_behind Unchanged rest is none = absurd is
no_marker_behind (Text []) rest is none = none
no_marker_behind (Text (byte ∷ bytes)) rest is none =
    sent_cases (λ sequence. is_end_marker ((sequence ++ flat_map sent_byte bytes) ++ rest) ≡ false) byte
    (λ letter meant escapes e. rw (escapes.no_dot) refl)
    (λ stands. rw (stands.no_backslash) refl)
no_marker_behind (Binary bytes) rest is none = absurd is

-- no row's text is the end-of-data marker
pub no_marker : (cells : List Cell) → AllByRecursion IsSentCell cells → is_end_marker (sent_line cells) ≡ false
no_marker [] all = refl
no_marker (cell ∷ []) all = ap is_end_marker (sym (append-nil (sent_field cell))) ∙ no_marker_behind cell [] all.0 refl
no_marker (cell ∷ other ∷ cells) all = no_marker_behind cell (tab ∷ sent_line (other ∷ cells)) all.0 refl

sent_from : (format : Format) (number : ℕ) (rows : List (List Cell)) → AllByRecursion (IsSentRow format) rows
    → reading format number [] (sent rows) ≡ record { rows = rows; end = Open [] }
unfolding reading
sent_from format number [] all = refl
sent_from format number (row ∷ rows) all =
    let row_is = subst (λ n. row_of n (sent_line row) ≡ Ok row) all.0.width (row_sent row all.0.each) in
    ap (reading format number []) (append_assoc (sent_line row) (newline ∷ []) (sent rows))
    ∙ reading-part format number [] (sent_line row) (newline ∷ sent rows) (line_no_newline row) all.0.most
    ∙ reading-row format number (sent_line row) (sent rows) row (no_marker row all.0.each) row_is
    ∙ ap (with_rows (row ∷ [])) (sent_from format (next_number number) rows all.1)

pub sent_is_read : (format : Format) (rows : List (List Cell)) → AllByRecursion (IsSentRow format) rows
    → copy_reading format (sent rows) ≡ record { rows = rows; end = Open [] }
sent_is_read format rows all = sent_from format 1 rows all
