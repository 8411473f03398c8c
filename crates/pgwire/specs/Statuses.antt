-- PostgreSQL documentation, Streaming Replication Protocol: Standby status update, in CopyData.
use Rattle.std.specs.Prelude.{ℕ, List, [], ◌∷◌, ◌++◌}
use Rattle.std.specs.Int.{w64, to_be_bytes, cast_unsigned}
use Rattle.pgwire.specs.declared.status.Status.{Status}
use Rattle.pgwire.specs.Payloads.{flag_byte}
use Rattle.pgwire.specs.Frames.{CopyData, frame}

-- the first byte of a standby status update
abbrev pub status_tag : ℕ
status_tag = 114

-- `r`, the ends of what was written, flushed and applied, the client's clock, and 1 where a reply
-- is wanted, else 0
abbrev pub status_payload : Status → List ℕ
status_payload s = status_tag
    ∷ (to_be_bytes w64 s.written ++ to_be_bytes w64 s.flushed ++ to_be_bytes w64 s.applied ++ to_be_bytes w64 (cast_unsigned w64 s.clock)
    ++ flag_byte s.ask ∷ [])

abbrev pub status_frame : Status → List ℕ
status_frame s = frame (CopyData (status_payload s))
