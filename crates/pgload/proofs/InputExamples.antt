-- Worked rows: frames of a load's input, of two tables with three rows, and the tables that the
-- load makes.
-- PostgreSQL documentation, Message Formats, CopyData; Logical Replication Message Formats,
-- Relation; COPY, File Formats, Text Format.
use Rattle.std.proofs.Common.{◌≡◌, ◌∷◌, [], ℕ, List, cond, Some, None, Ok, refl}
use Rattle.std.specs.FinMap as map
use Rattle.std.specs.FinMap.{get-empty, get-insert}
use Rattle.std.specs.Ordering.{nat_cmp, eq_by_cmp}
use Rattle.std.specs.Cmp.{nat_cmp_total}
use Rattle.std.specs.Cmp.Lexicographic.{slice_cmp, nat_list_cmp_total}
use Rattle.std.specs.Str.{is_utf8, chars}
use lib.Utf8.{encode}
use Rattle.pgtuple.specs.Cells.{tuple_spelling}
use Rattle.pgtuple.specs.declared.cell.Cell.{Cell}
use Rattle.pgtuple.specs.declared.cell.Cell.TheVariants.{Text}
use Rattle.pglogical.specs.Reading.{message_at, message_of, begin_at, commit_at, origin_at}
use Rattle.pglogical.specs.Reading.{relation_message_at, relation_at, type_name_at, insert_at}
use Rattle.pglogical.specs.Reading.{update_at, prior_at, delete_at, truncate_at, logical_at}
use Rattle.pglogical.specs.Reading.{stream_start_at, stream_commit_at, stream_abort_at, xid_at}
use Rattle.pglogical.specs.Reading.{number_at, signed_at, byte_at, text_at, count_at, bytes_at}
use Rattle.pglogical.specs.Reading.{oids_in, counted_columns_at, columns_at, column_at, row_at}
use Rattle.pglogical.proofs.Samples as samples
use Rattle.pgcopy.specs.Values.{sequence_at, value_behind}
use Rattle.pgcopy.specs.Rows.{cell_of, cells_of, row_of}
use Rattle.pgcopy.specs.Reading.{reading}
use Rattle.pgapply.specs.Value.{Row, Rows, Table, Tables}
use Rattle.pgapply.specs.Apply.{apply, fold_changes, rows_after}
use Rattle.pgsub_core.specs.Server.History.{tables_as_of}
use Rattle.pgload.specs.Loads.{load_transaction}
use Rattle.pgload.specs.Loading.{Part, Begins, Text as Piece, Ends, nothing_came, come_after}
use Rattle.pgload.specs.Inputs.{Gives, EndsAt, input_at, AfterAll}
use Rattle.pgload.proofs.Examples.{t, u, text_u, tables, row_1, row_2, row_3}

-- ---- payloads

relation : input_at samples.relation_t_bytes ≡ Some (Gives (Begins samples.t))
unfolding message_at message_of begin_at commit_at origin_at relation_message_at relation_at type_name_at insert_at update_at prior_at
    delete_at truncate_at logical_at stream_start_at stream_commit_at stream_abort_at xid_at number_at signed_at byte_at text_at count_at
    bytes_at oids_in counted_columns_at columns_at column_at row_at is_utf8 chars encode
relation = refl

piece : input_at (116 ∷ text_u) ≡ Some (Gives (Piece text_u))
piece = refl

text_ends : input_at (101 ∷ []) ≡ Some (Gives Ends)
text_ends = refl

-- 0/1958B68
point : input_at (112 ∷ 0 ∷ 0 ∷ 0 ∷ 0 ∷ 1 ∷ 149 ∷ 139 ∷ 104 ∷ []) ≡ Some (EndsAt 26577768)
point = refl

nothing : input_at [] ≡ None
nothing = refl

-- an end with a byte behind it, and a point that is cut
long_end : input_at (101 ∷ 49 ∷ []) ≡ None
unfolding message_at message_of byte_at
long_end = refl

cut_point : input_at (112 ∷ 0 ∷ []) ≡ None
unfolding message_at message_of byte_at
cut_point = refl

-- ---- parts

-- t, its text in two pieces, cut within its escape; and u
abbrev parts : List Part
parts =
    Begins t ∷ Piece (49 ∷ 9 ∷ 97 ∷ 92 ∷ []) ∷ Piece (116 ∷ 98 ∷ 10 ∷ 50 ∷ 9 ∷ 92 ∷ 78 ∷ 10 ∷ []) ∷ Ends
    ∷ Begins u ∷ Piece text_u ∷ Ends ∷ []

both_came : AfterAll nothing_came parts (record { ended = tables; going = None })
both_came = (_, refl, (_, refl, (_, refl, (_, refl, (_, refl, (_, refl, (_, refl, refl)))))))

-- a second table comes before the first one's text has ended, and text outside of one
within_a_table : come_after (record { ended = []; going = Some (record { definition = t; text = [] }) }) (Begins u) ≡ None
within_a_table = refl

outside : come_after nothing_came (Piece text_u) ≡ None
outside = refl

-- ---- the tables

no_table : (q : ℕ) → map.get (map.empty {X = Table} {R = nat_cmp}) q ≡ None
no_table q = get-empty nat_cmp q

no_row : (q : List ℕ) → map.get (map.empty {X = Row} {R = slice_cmp nat_cmp}) q ≡ None
no_row q = get-empty (slice_cmp nat_cmp) q

table_inserted : (m : Tables) (k : ℕ) (v : Table) (q : ℕ)
    → map.get (map.insert m k v) q ≡ cond (eq_by_cmp nat_cmp q k) (Some v) (map.get m q)
table_inserted m k v q = get-insert nat_cmp_total m k v q

row_inserted : (m : Rows) (k : List ℕ) (v : Row) (q : List ℕ)
    → map.get (map.insert m k v) q ≡ cond (eq_by_cmp (slice_cmp nat_cmp) q k) (Some v) (map.get m q)
row_inserted m k v q = get-insert nat_list_cmp_total m k v q

ruleset lookups = (no_table, no_row, table_inserted, row_inserted)

abbrev place : ℕ → List ℕ
place digit = tuple_spelling (Text (digit ∷ []) ∷ [])

abbrev once : List Cell → Row
once cells = record { cells = cells; copies = 1 }

abbrev rows_t : Rows
rows_t = map.insert (map.insert map.empty (place 49) (once row_1)) (place 50) (once row_2)

abbrev rows_u : Rows
rows_u = map.insert map.empty (place 51) (once row_3)

-- three rows by their keys; t is put once for each of its rows
abbrev loaded : Tables
loaded = map.insert
    (map.insert (map.insert map.empty 16384 (record { definition = t; rows = map.insert map.empty (place 49) (once row_1) }))
    16384 (record { definition = t; rows = rows_t }))
    16385 (record { definition = u; rows = rows_u })

made : tables_as_of (load_transaction 8 tables 1000 ∷ []) 1000 ≡ Ok loaded
unfolding tables_as_of fold_changes apply rows_after tuple_spelling reading row_of cells_of cell_of value_behind sequence_at is_utf8 chars
    encode
made = simp lookups
