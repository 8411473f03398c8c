-- TupleData read from left to right: the cells and the number of bytes they take, or the first
-- field that can't be read. PostgreSQL documentation, Logical Replication Message Formats,
-- TupleData.
use Rattle.std.specs.Prelude.{◌≡◌, ◌+◌, ⊤, ℕ, zero, suc, List, [], ◌∷◌, length, take, drop, Result}
use Rattle.std.specs.Prelude.{Ok, Err, nat_lt, nat_le, ◌==◌, if◌then◌else◌}
use Rattle.std.specs.Int.{Width, w16, w32, byte_len, from_be_bytes}
use Rattle.std.specs.Str.{is_utf8}
use Rattle.pgtuple.specs.declared.cell.Cell.{Cell}
use Rattle.pgtuple.specs.declared.cell.Cell.TheVariants.{Null, Unchanged, Text, Binary}
use Rattle.pgtuple.specs.declared.fault.TupleFault.{TupleFault}
use Rattle.pgtuple.specs.declared.fault.TupleFault.TheVariants as fault
use Rattle.pgtuple.specs.Limits.{max_columns, max_int32}

-- an offset in the tuple, and the bytes from there on
abbrev pub At : Type 0
At = ℕ × List ℕ

-- a field's value and where reading goes on, or why it can't be read
abbrev pub Read : Type 0 → Type 0
Read A = Result (A × At) TupleFault

-- What a fault of a call has to do with what reading gives: all but Memory is the definition's.
abbrev pub Fails : {A : Type 0} → TupleFault → Result A TupleFault → Type 0
Fails fault.Memory read = ⊤
Fails (fault.Short place) read = read ≡ Err (fault.Short place)
Fails (fault.BadKind place) read = read ≡ Err (fault.BadKind place)
Fails (fault.BadLength place) read = read ≡ Err (fault.BadLength place)
Fails (fault.NotUtf8 place) read = read ≡ Err (fault.NotUtf8 place)
Fails (fault.TooManyColumns place) read = read ≡ Err (fault.TooManyColumns place)

infixl 10 ◌>>=◌
abbrev pub ◌>>=◌ : {A B E : Type 0} → Result A E → (A → Result B E) → Result B E
(Ok x) >>= f = f x
(Err e) >>= f = Err e

abbrev pub further : ℕ → At → At
further n at = (at.0 + n, drop n at.1)

unfoldable pub number_at : Width → At → Read ℕ
number_at w at = if nat_lt (length at.1) (byte_len w) then Err (fault.Short at.0)
    else Ok (from_be_bytes w (take (byte_len w) at.1), further (byte_len w) at)

unfoldable pub byte_at : At → Read ℕ
byte_at (place, []) = Err (fault.Short place)
byte_at (place, byte ∷ bytes) = Ok (byte, (place + 1, bytes))

-- a length as a signed number that isn't negative
unfoldable pub length_at : At → Read ℕ
length_at at = do
  n ← number_at w32 at
  if nat_le n.0 max_int32 then Ok n else Err (fault.BadLength at.0)

unfoldable pub bytes_at : ℕ → At → Read (List ℕ)
bytes_at n at = if nat_lt (length at.1) n then Err (fault.Short at.0) else Ok (take n at.1, further n at)

unfoldable pub text_at : ℕ → At → Read (List ℕ)
text_at n at = do
  bytes ← bytes_at n at
  if is_utf8 bytes.0 then Ok bytes else Err (fault.NotUtf8 at.0)

unfoldable pub text_cell_at : At → Read Cell
text_cell_at at = do
  n ← length_at at
  text ← text_at n.0 n.1
  Ok (Text text.0, text.1)

unfoldable pub binary_cell_at : At → Read Cell
binary_cell_at at = do
  n ← length_at at
  bytes ← bytes_at n.0 n.1
  Ok (Binary bytes.0, bytes.1)

-- the cell of this kind
abbrev pub cell_of : ℕ → At → At → Read Cell
cell_of kind here behind =
    if kind == 110 then Ok (Null, behind)
    else (if kind == 117 then Ok (Unchanged, behind)
    else (if kind == 116 then text_cell_at behind
    else (if kind == 98 then binary_cell_at behind
    else Err (fault.BadKind here.0))))

unfoldable pub cell_at : At → Read Cell
cell_at (place, []) = Err (fault.Short place)
cell_at (place, kind ∷ bytes) = cell_of kind (place, kind ∷ bytes) (place + 1, bytes)

unfoldable pub cells_at : ℕ → At → Read (List Cell)
cells_at zero at = Ok ([], at)
cells_at (suc n) at = do
  first ← cell_at at
  others ← cells_at n first.1
  Ok (first.0 ∷ others.0, others.1)

-- the number of columns, and the cells
abbrev pub tuple_from : At → Read (List Cell)
tuple_from at = do
  width ← number_at w16 at
  _few ← (if nat_le width.0 max_columns then Ok width else Err (fault.TooManyColumns at.0))
  cells_at width.0 width.1

-- the tuple at the front of these bytes, and the offset after it
unfoldable pub tuple_at : List ℕ → Read (List Cell)
tuple_at bytes = tuple_from (0, bytes)
