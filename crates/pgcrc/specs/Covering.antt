-- What a value of `Crc32` has taken.
use Rattle.std.specs.Prelude.{◌≡◌, ℕ, List}
use Rattle.pgcrc.specs.declared.crc.Crc32.{Crc32}
use Rattle.pgcrc.specs.Crc.{after_bits, message_bits, ones}

-- it has taken this message, in whatever pieces it came
unfoldable pub Covers : Crc32 → List ℕ → Type 0
Covers crc message = crc.register ≡ after_bits ones (message_bits message)
