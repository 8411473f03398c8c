-- What a capture text says: sessions, each of pieces of bytes in hexadecimal, a piece a line.
use Rattle.std.specs.Prelude.{◌+◌, ◌==◌, ℕ, List, [], ◌∷◌, ◌++◌, Bool, true, Option, None, Some}
use Rattle.std.specs.Prelude.{Result, Ok, Err, if◌then◌else◌}
use Rattle.std.specs.Cmp.Lexicographic.{pointwise}
use Rattle.hex.specs.Hex.{decode_of}
use Rattle.hex.specs.declared.error.FromHexError.{FromHexError}
use Rattle.pgwire.specs.declared.session.Session.{Session}

-- a byte in front of the first line
abbrev pub in_front : ℕ → List (List ℕ) → List (List ℕ)
in_front byte [] = (byte ∷ []) ∷ []
in_front byte (line ∷ lines) = (byte ∷ line) ∷ lines

-- the lines, each without the line feed that ends it; what stands behind the last line feed is a
-- line too
abbrev pub lines_of : List ℕ → List (List ℕ)
lines_of [] = [] ∷ []
lines_of (byte ∷ text) = if byte == 10 then [] ∷ lines_of text else in_front byte (lines_of text)

-- what a line means
pub data Line : Type 0 where
  Skipped : Line
  Disconnection : Line
  Piece : (bytes : List ℕ) → Line
  NoLine : Line

-- an empty line, or a comment
abbrev pub is_skipped : List ℕ → Bool
is_skipped [] = true
is_skipped (byte ∷ line) = byte == 35

abbrev pub is_disconnection : List ℕ → Bool
is_disconnection line = pointwise ◌==◌ line (45 ∷ 45 ∷ [])

abbrev pub decoded : Result (List ℕ) FromHexError → Line
decoded (Ok bytes) = Piece bytes
decoded (Err fault) = NoLine

abbrev pub meaning_of : List ℕ → Line
meaning_of line = if is_skipped line then Skipped else (if is_disconnection line then Disconnection else decoded (decode_of line))

abbrev pub session_of : List (List ℕ) → Session
session_of pieces = record { pieces = pieces }

-- the first session of some lines, and the others; or the number of the first line that is none
abbrev pub Captured : Type 0
Captured = Result (Session × List Session) ℕ

-- what a line adds in front of what the lines behind it say
abbrev pub with_line : ℕ → Line → Captured → Captured
with_line number Skipped rest = rest
with_line number Disconnection (Ok rest) = Ok (session_of [], rest.0 ∷ rest.1)
with_line number Disconnection (Err bad) = Err bad
with_line number (Piece bytes) (Ok rest) = Ok (session_of (bytes ∷ rest.0.pieces), rest.1)
with_line number (Piece bytes) (Err bad) = Err bad
with_line number NoLine rest = Err number

-- what these lines say; the first of them has this number
abbrev pub captured_from : ℕ → List (List ℕ) → Captured
captured_from number [] = Ok (session_of [], [])
captured_from number (line ∷ lines) = with_line number (meaning_of line) (captured_from (number + 1) lines)

abbrev pub listed : Captured → Result (List Session) ℕ
listed (Ok sessions) = Ok (sessions.0 ∷ sessions.1)
listed (Err bad) = Err bad

-- the sessions of a capture text, or the number of its first line that is none, counted from 1
abbrev pub sessions_of : List ℕ → Result (List Session) ℕ
sessions_of text = listed (captured_from 1 (lines_of text))

-- the lines behind a line
abbrev pub lines_behind : Option (List ℕ) → List (List ℕ)
lines_behind None = []
lines_behind (Some text) = lines_of text

-- sessions that stand, and pieces of one that goes on, in front of what the lines behind them say
abbrev pub joined : List Session → List (List ℕ) → Captured → Result (List Session) ℕ
joined sessions pieces (Ok rest) = Ok (sessions ++ session_of (pieces ++ rest.0.pieces) ∷ rest.1)
joined sessions pieces (Err bad) = Err bad
