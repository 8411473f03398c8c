-- What a buffer is after a call that could not finish its writing.
use Rattle.std.specs.Prelude.{◌≡◌, ℕ, List, length, take}

-- what was in the buffer is before what came after it
abbrev pub Keeps : List ℕ → List ℕ → Type 0
Keeps old new = take (length old) new ≡ old
