-- Byte strings and what they read as, as the definitions give it.
use Rattle.std.proofs.Common.{◌≡◌, refl, ◌∷◌, [], Ok, Err}
use Rattle.std.specs.Str.{is_utf8, chars}
use lib.Utf8.{encode}
use Rattle.pgtuple.specs.declared.cell.Cell.TheVariants.{Null, Unchanged, Text, Binary}
use Rattle.pgtuple.specs.declared.fault.TupleFault.TheVariants as fault
use Rattle.pgtuple.specs.Cells.{tuple_spelling}
use Rattle.pgtuple.specs.Reading.{number_at, length_at, bytes_at, text_at, text_cell_at}
use Rattle.pgtuple.specs.Reading.{binary_cell_at, cell_at, cells_at, tuple_at}

-- no column
empty : tuple_at (0 ∷ 0 ∷ []) ≡ Ok ([], (2, []))
unfolding tuple_at number_at cells_at
empty = refl

nothing : tuple_at [] ≡ Err (fault.Short 0)
unfolding tuple_at number_at
nothing = refl

half_a_width : tuple_at (0 ∷ []) ≡ Err (fault.Short 0)
unfolding tuple_at number_at
half_a_width = refl

too_wide : tuple_at (6 ∷ 65 ∷ []) ≡ Err (fault.TooManyColumns 0)
unfolding tuple_at number_at
too_wide = refl

negative_width : tuple_at (255 ∷ 255 ∷ []) ≡ Err (fault.TooManyColumns 0)
unfolding tuple_at number_at
negative_width = refl

widest : tuple_at (6 ∷ 64 ∷ []) ≡ Err (fault.Short 2)
unfolding tuple_at number_at cells_at cell_at
widest = refl

bytes_missing : tuple_at (0 ∷ 1 ∷ 116 ∷ 0 ∷ 0 ∷ 0 ∷ 2 ∷ 97 ∷ []) ≡ Err (fault.Short 7)
unfolding tuple_at number_at cells_at cell_at text_cell_at length_at text_at bytes_at
bytes_missing = refl

length_missing : tuple_at (0 ∷ 1 ∷ 116 ∷ 0 ∷ 0 ∷ 0 ∷ []) ≡ Err (fault.Short 3)
unfolding tuple_at number_at cells_at cell_at text_cell_at length_at
length_missing = refl

unknown_kind : tuple_at (0 ∷ 2 ∷ 110 ∷ 120 ∷ []) ≡ Err (fault.BadKind 3)
unfolding tuple_at number_at cells_at cell_at
unknown_kind = refl

negative_length : tuple_at (0 ∷ 1 ∷ 98 ∷ 128 ∷ 0 ∷ 0 ∷ 0 ∷ []) ≡ Err (fault.BadLength 3)
unfolding tuple_at number_at cells_at cell_at binary_cell_at length_at
negative_length = refl

greatest_length : tuple_at (0 ∷ 1 ∷ 98 ∷ 127 ∷ 255 ∷ 255 ∷ 255 ∷ []) ≡ Err (fault.Short 7)
unfolding tuple_at number_at cells_at cell_at binary_cell_at length_at bytes_at
greatest_length = refl

not_utf8 : tuple_at (0 ∷ 1 ∷ 116 ∷ 0 ∷ 0 ∷ 0 ∷ 1 ∷ 255 ∷ []) ≡ Err (fault.NotUtf8 7)
unfolding tuple_at number_at cells_at cell_at text_cell_at length_at text_at bytes_at is_utf8 chars encode
not_utf8 = refl

-- Bytes that are no text stand in a binary cell.
binary : tuple_at (0 ∷ 1 ∷ 98 ∷ 0 ∷ 0 ∷ 0 ∷ 1 ∷ 255 ∷ []) ≡ Ok (Binary (255 ∷ []) ∷ [], (8, []))
unfolding tuple_at number_at cells_at cell_at binary_cell_at length_at bytes_at
binary = refl

-- The row '1', 'a' with a byte behind it, and the key '1', null.
row : tuple_at (0 ∷ 2 ∷ 116 ∷ 0 ∷ 0 ∷ 0 ∷ 1 ∷ 49 ∷ 116 ∷ 0 ∷ 0 ∷ 0 ∷ 1 ∷ 97 ∷ 78 ∷ [])
    ≡ Ok (Text (49 ∷ []) ∷ Text (97 ∷ []) ∷ [], (14, 78 ∷ []))
unfolding tuple_at number_at cells_at cell_at text_cell_at length_at text_at bytes_at is_utf8 chars encode
row = refl

row_spelled : tuple_spelling (Text (49 ∷ []) ∷ Text (97 ∷ []) ∷ []) ≡ 0 ∷ 2 ∷ 116 ∷ 0 ∷ 0 ∷ 0 ∷ 1 ∷ 49 ∷ 116 ∷ 0 ∷ 0 ∷ 0 ∷ 1 ∷ 97 ∷ []
unfolding tuple_spelling
row_spelled = refl

key_spelled : tuple_spelling (Text (49 ∷ []) ∷ Null ∷ []) ≡ 0 ∷ 2 ∷ 116 ∷ 0 ∷ 0 ∷ 0 ∷ 1 ∷ 49 ∷ 110 ∷ []
unfolding tuple_spelling
key_spelled = refl

unchanged_spelled : tuple_spelling (Text (50 ∷ []) ∷ Unchanged ∷ []) ≡ 0 ∷ 2 ∷ 116 ∷ 0 ∷ 0 ∷ 0 ∷ 1 ∷ 50 ∷ 117 ∷ []
unfolding tuple_spelling
unchanged_spelled = refl

binary_spelled : tuple_spelling (Binary (1 ∷ 0 ∷ []) ∷ []) ≡ 0 ∷ 1 ∷ 98 ∷ 0 ∷ 0 ∷ 0 ∷ 2 ∷ 1 ∷ 0 ∷ []
unfolding tuple_spelling
binary_spelled = refl

empty_spelled : tuple_spelling [] ≡ 0 ∷ 0 ∷ []
unfolding tuple_spelling
empty_spelled = refl
