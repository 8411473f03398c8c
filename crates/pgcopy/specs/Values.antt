-- The value of a column, of which neither a tab nor a newline is left.
-- PostgreSQL documentation, COPY, File Formats, Text Format: the special backslash sequences.
use Rattle.std.specs.Prelude.{◌+◌, ◌*◌, ◌-◌, ◌%◌, ◌==◌, ◌&&◌, ℕ, zero, suc, List, [], ◌∷◌}
use Rattle.std.specs.Prelude.{length, slice_get, slice_index, nat_le, Option, Some, None}
use Rattle.std.specs.Prelude.{Result, Ok, Err, if◌then◌else◌}
use Rattle.pgcopy.specs.declared.fault.Reason.{Reason}
use Rattle.pgcopy.specs.declared.fault.Reason.TheVariants.{CutSequence, CarriageReturn}

abbrev pub backslash : ℕ
backslash = 92

abbrev pub carriage_return : ℕ
carriage_return = 13

-- `\b` backspace, `\f` form feed, `\n` newline, `\r` carriage return, `\t` tab, `\v` vertical tab;
-- any other character stands for itself
abbrev pub meaning_of : ℕ → ℕ
meaning_of character =
    if character == 98 then 8
    else (if character == 102 then 12
    else (if character == 110 then 10
    else (if character == 114 then 13
    else (if character == 116 then 9
    else (if character == 118 then 11
    else character)))))

-- ---- numbers in sequences

-- 0 to 7
abbrev pub octal_digit : Option ℕ → Option ℕ
octal_digit None = None
octal_digit (Some character) = if nat_le 48 character && nat_le character 55 then Some (character - 48) else None

-- 0 to 9, A to F, a to f
abbrev pub hex_digit : Option ℕ → Option ℕ
hex_digit None = None
hex_digit (Some character) =
    if nat_le 48 character && nat_le character 57 then Some (character - 48)
    else (if nat_le 65 character && nat_le character 70 then Some (character - 55)
    else (if nat_le 97 character && nat_le character 102 then Some (character - 87)
    else None))

-- a byte, and how many characters behind the backslash stand for it
abbrev pub Sequence : Type 0
Sequence = ℕ × ℕ

-- one to three octal digits; of a number above 255 the low eight bits
abbrev pub octal_of : Option ℕ → Option ℕ → Option ℕ → Option Sequence
octal_of None second third = None
octal_of (Some a) None third = Some (a, 1)
octal_of (Some a) (Some b) None = Some (8 * a + b, 2)
octal_of (Some a) (Some b) (Some c) = Some ((64 * a + 8 * b + c) % 256, 3)

-- `x` and one or two hexadecimal digits; without one, `x` stands for itself
abbrev pub hex_of : Option ℕ → Option ℕ → Sequence
hex_of None second = (120, 1)
hex_of (Some a) None = (a, 2)
hex_of (Some a) (Some b) = (16 * a + b, 3)

abbrev pub octal_at : List ℕ → Option Sequence
octal_at bytes = octal_of (octal_digit (slice_get bytes 0)) (octal_digit (slice_get bytes 1)) (octal_digit (slice_get bytes 2))

abbrev pub other_sequence : List ℕ → Sequence
other_sequence bytes =
    if slice_index bytes 0 == 120 then hex_of (hex_digit (slice_get bytes 1)) (hex_digit (slice_get bytes 2))
    else (meaning_of (slice_index bytes 0), 1)

abbrev pub sequence_of : Option Sequence → List ℕ → Sequence
sequence_of None bytes = other_sequence bytes
sequence_of (Some octal) bytes = octal

-- what the characters behind a backslash stand for
unfoldable pub sequence_at : List ℕ → Sequence
sequence_at bytes = sequence_of (octal_at bytes) bytes

-- ---- values

-- a byte in front of the others
abbrev pub with_byte : ℕ → Result (List ℕ) Reason → Result (List ℕ) Reason
with_byte byte (Ok bytes) = Ok (byte ∷ bytes)
with_byte byte (Err reason) = Err reason

abbrev pub behind_backslash : List ℕ → Result (List ℕ) Reason → Result (List ℕ) Reason
behind_backslash bytes others = if length bytes == 0 then Err CutSequence else with_byte (sequence_at bytes).0 others

-- The value of these characters behind so many that a sequence takes. Each stands for itself, but
-- for a backslash with what follows it.
unfoldable pub value_behind : ℕ → List ℕ → Result (List ℕ) Reason
value_behind taken [] = Ok []
value_behind (suc taken) (byte ∷ bytes) = value_behind taken bytes
value_behind zero (byte ∷ bytes) =
    if byte == backslash then behind_backslash bytes (value_behind (sequence_at bytes).1 bytes)
    else (if byte == carriage_return then Err CarriageReturn
    else with_byte byte (value_behind zero bytes))

abbrev pub value_of : List ℕ → Result (List ℕ) Reason
value_of bytes = value_behind 0 bytes
