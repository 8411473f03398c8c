-- The bytes of a tuple, borrowed or owned.
use Rattle.std.specs.Prelude.{ℕ, List}
use Rattle.pgencoded.specs.declared.encoded.Encoded.{Encoded}
use Rattle.pgencoded.specs.declared.encoded.Encoded.TheVariants.{Received, Own}

abbrev pub encoded_bytes : Encoded → List ℕ
encoded_bytes (Received bytes) = bytes.now
encoded_bytes (Own bytes) = bytes.items
