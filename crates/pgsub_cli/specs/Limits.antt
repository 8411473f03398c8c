-- The program's limits, in bytes.
use Rattle.std.specs.Prelude.{◌≡◌, ℕ, ℤ, min, pos, refl}
use Rattle.pgcommand.specs.declared.limits.Limits.{Limits}
use Rattle.pgcommand.specs.declared.limits.TheConstants.Limits.{DEFAULT}

-- of a frame's payload, where the command line doesn't say
abbrev pub longest_payload : ℕ
longest_payload = 16777216

-- of a recording
abbrev pub longest_recording : ℕ
longest_recording = 67108864

-- that the buffered items of all open transactions may cost, where it doesn't
abbrev pub most_buffered : ℕ
most_buffered = 67108864

abbrev pub default_limits : Limits
default_limits = DEFAULT

pub default_limits_are : (default_limits.max_buffered ≡ most_buffered) × (default_limits.max_frame ≡ longest_payload)
default_limits_are = (refl, refl)

-- of a frame's payload, where the command line says so: none can be longer than 2147483643
abbrev pub longest_within : Limits → ℕ
longest_within limits = min limits.max_frame 2147483643

-- the client's clock of replies, of which the program sends none
abbrev pub clock : ℤ
clock = pos 0
