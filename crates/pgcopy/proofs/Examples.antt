-- Worked rows: what lines say.
-- PostgreSQL documentation, COPY, File Formats, Text Format.
use Rattle.std.proofs.Common.{◌≡◌, ◌∷◌, [], Ok, Err, refl}
use Rattle.std.specs.Str.{is_utf8, chars}
use Rattle.pgtuple.specs.declared.cell.Cell.TheVariants.{Null, Text}
use Rattle.pgcopy.specs.declared.fault.Reason.TheVariants.{MissingColumn, ExtraColumn, CutSequence}
use Rattle.pgcopy.specs.declared.fault.Reason.TheVariants.{CarriageReturn}
use Rattle.pgcopy.specs.declared.fault.Reason.TheVariants.{NotUtf8, TooLong}
use Rattle.pgcopy.specs.Values.{sequence_at, value_behind, value_of}
use Rattle.pgcopy.specs.Rows.{cell_of, cells_of, row_of}
use Rattle.pgcopy.specs.Reading.{Format, Open, Marked, Fails, reading, copy_reading}

-- `a\b\f\n\r\t\v\\z`
each_letter : value_of (97 ∷ 92 ∷ 98 ∷ 92 ∷ 102 ∷ 92 ∷ 110 ∷ 92 ∷ 114 ∷ 92 ∷ 116 ∷ 92 ∷ 118 ∷ 92 ∷ 92 ∷ 122 ∷ [])
    ≡ Ok (97 ∷ 8 ∷ 12 ∷ 10 ∷ 13 ∷ 9 ∷ 11 ∷ 92 ∷ 122 ∷ [])
unfolding value_behind sequence_at
each_letter = refl

-- `\1011`, `\7x`, `\777`: three digits, one, and 511 - 256
octal_digits : value_of (92 ∷ 49 ∷ 48 ∷ 49 ∷ 49 ∷ 92 ∷ 55 ∷ 120 ∷ 92 ∷ 55 ∷ 55 ∷ 55 ∷ []) ≡ Ok (65 ∷ 49 ∷ 7 ∷ 120 ∷ 255 ∷ [])
unfolding value_behind sequence_at
octal_digits = refl

-- `\x4a1`, `\xfg`, `\xg`: two digits, one, and none
hex_digits : value_of (92 ∷ 120 ∷ 52 ∷ 97 ∷ 49 ∷ 92 ∷ 120 ∷ 102 ∷ 103 ∷ 92 ∷ 120 ∷ 103 ∷ []) ≡ Ok (74 ∷ 49 ∷ 15 ∷ 103 ∷ 120 ∷ 103 ∷ [])
unfolding value_behind sequence_at
hex_digits = refl

-- `\q\.\N`, where no null string stands
other_characters : value_of (92 ∷ 113 ∷ 92 ∷ 46 ∷ 92 ∷ 78 ∷ []) ≡ Ok (113 ∷ 46 ∷ 78 ∷ [])
unfolding value_behind sequence_at
other_characters = refl

-- a null; the text `\N`, which is sent as `\\N`; an empty text
null_cell : cell_of (92 ∷ 78 ∷ []) ≡ Ok Null
unfolding cell_of
null_cell = refl

text_like_null : cell_of (92 ∷ 92 ∷ 78 ∷ []) ≡ Ok (Text (92 ∷ 78 ∷ []))
unfolding cell_of value_behind sequence_at is_utf8 chars lib.Utf8.encode
text_like_null = refl

empty_cell : cell_of [] ≡ Ok (Text [])
unfolding cell_of value_behind is_utf8 chars lib.Utf8.encode
empty_cell = refl

-- a backslash at the end, a carriage return, and a byte that begins no character
cut_cell : cell_of (97 ∷ 92 ∷ []) ≡ Err CutSequence
unfolding cell_of value_behind sequence_at
cut_cell = refl

return_cell : cell_of (97 ∷ 13 ∷ []) ≡ Err CarriageReturn
unfolding cell_of value_behind
return_cell = refl

not_text_cell : cell_of (97 ∷ 92 ∷ 51 ∷ 55 ∷ 55 ∷ []) ≡ Err NotUtf8
unfolding cell_of value_behind sequence_at is_utf8 chars lib.Utf8.encode
not_text_cell = refl

abbrev pair : Format
pair = record { columns = 2; max_line = 5 }

-- `a<tab>\N`, `<tab>b`, and the front of a third line
two_rows : copy_reading pair (97 ∷ 9 ∷ 92 ∷ 78 ∷ 10 ∷ 9 ∷ 98 ∷ 10 ∷ 99 ∷ [])
    ≡ record { rows = (Text (97 ∷ []) ∷ Null ∷ []) ∷ (Text [] ∷ Text (98 ∷ []) ∷ []) ∷ []; end = Open (99 ∷ []) }
unfolding reading row_of cells_of cell_of value_behind is_utf8 chars lib.Utf8.encode
two_rows = refl

-- behind `\.` nothing is read
marked : copy_reading pair (97 ∷ 9 ∷ 98 ∷ 10 ∷ 92 ∷ 46 ∷ 10 ∷ 99 ∷ 10 ∷ [])
    ≡ record { rows = (Text (97 ∷ []) ∷ Text (98 ∷ []) ∷ []) ∷ []; end = Marked (99 ∷ 10 ∷ []) }
unfolding reading row_of cells_of cell_of value_behind is_utf8 chars lib.Utf8.encode
marked = refl

-- the second line has a column too few, or one too many
one_column : copy_reading pair (97 ∷ 9 ∷ 98 ∷ 10 ∷ 99 ∷ 10 ∷ [])
    ≡ record { rows = (Text (97 ∷ []) ∷ Text (98 ∷ []) ∷ []) ∷ []; end = Fails 2 MissingColumn }
unfolding reading row_of cells_of cell_of value_behind is_utf8 chars lib.Utf8.encode
one_column = refl

three_columns : copy_reading pair (97 ∷ 9 ∷ 9 ∷ 98 ∷ 10 ∷ []) ≡ record { rows = []; end = Fails 1 ExtraColumn }
unfolding reading row_of cells_of cell_of value_behind is_utf8 chars lib.Utf8.encode
three_columns = refl

-- a line of five bytes, and one of six
full_line : copy_reading pair (97 ∷ 9 ∷ 97 ∷ 97 ∷ 97 ∷ 10 ∷ 97 ∷ 9 ∷ 97 ∷ 97 ∷ 97 ∷ 97 ∷ [])
    ≡ record { rows = (Text (97 ∷ []) ∷ Text (97 ∷ 97 ∷ 97 ∷ []) ∷ []) ∷ []; end = Fails 2 TooLong }
unfolding reading row_of cells_of cell_of value_behind is_utf8 chars lib.Utf8.encode
full_line = refl

-- an empty line is a row of a table without columns, and of one with one an empty text
no_columns : row_of 0 [] ≡ Ok []
unfolding row_of cells_of
no_columns = refl

empty_line : row_of 1 [] ≡ Ok (Text [] ∷ [])
unfolding row_of cells_of cell_of value_behind is_utf8 chars lib.Utf8.encode
empty_line = refl
