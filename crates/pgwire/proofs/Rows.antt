-- Worked rows: what frames, payloads, a status and the faults of a stream are in bytes.
use Rattle.std.proofs.Common.{◌≡◌, ◌∷◌, ◌++◌, [], ℕ, true, false, Ok, Err, refl, arith, inl, inr}
use Rattle.std.proofs.Common.{length, take, drop}
use Rattle.std.specs.Prelude.{pos, negsuc, replicate}
use Rattle.pgwire.specs.declared.fault.WireFault.TheVariants as fault
use Rattle.pgwire.specs.Frames.{CopyData, CopyDone, frame, IsDeframedAs, HasFramingFault, IsPartial}
use Rattle.pgwire.specs.Payloads.{ServerMessage, XLogData, Keepalive, payload, payload_at}
use Rattle.pgwire.specs.Statuses.{status_frame}

abbrev data_of : ℕ → ServerMessage
data_of n = XLogData 0 0 (pos 0) (replicate n 7)

-- the headers of frames whose bodies have 21, 40, 20 and 26 bytes, as a Begin, a Relation, an
-- Insert and a Commit
begin_header : take 6 (frame (CopyData (payload (data_of 21)))) ≡ 100 ∷ 0 ∷ 0 ∷ 0 ∷ 0x32 ∷ 0x77 ∷ []
begin_header = refl

relation_header : take 6 (frame (CopyData (payload (data_of 40)))) ≡ 100 ∷ 0 ∷ 0 ∷ 0 ∷ 0x45 ∷ 0x77 ∷ []
relation_header = refl

insert_header : take 6 (frame (CopyData (payload (data_of 20)))) ≡ 100 ∷ 0 ∷ 0 ∷ 0 ∷ 0x31 ∷ 0x77 ∷ []
insert_header = refl

commit_header : take 6 (frame (CopyData (payload (data_of 26)))) ≡ 100 ∷ 0 ∷ 0 ∷ 0 ∷ 0x37 ∷ 0x77 ∷ []
commit_header = refl

begin_len : length (frame (CopyData (payload (data_of 21)))) ≡ 51
begin_len = refl

-- start, end and clock stand in this order, the data behind them
data_fields : payload (XLogData 0x150 0x500 (negsuc 1) (1 ∷ 2 ∷ []))
    ≡ 0x77 ∷ 0 ∷ 0 ∷ 0 ∷ 0 ∷ 0 ∷ 0 ∷ 1 ∷ 0x50 ∷ 0 ∷ 0 ∷ 0 ∷ 0 ∷ 0 ∷ 0 ∷ 5 ∷ 0 ∷ 0xff ∷ 0xff ∷ 0xff ∷ 0xff ∷ 0xff ∷ 0xff ∷ 0xff ∷ 0xfe ∷ 1
    ∷ 2 ∷ []
data_fields = refl

-- a keepalive with end 0/180 that asks for a reply, and one with a clock that doesn't
keepalive : frame (CopyData (payload (Keepalive 0x180 (pos 0) true)))
    ≡ 100 ∷ 0 ∷ 0 ∷ 0 ∷ 0x16 ∷ 0x6b ∷ 0 ∷ 0 ∷ 0 ∷ 0 ∷ 0 ∷ 0 ∷ 1 ∷ 0x80 ∷ 0 ∷ 0 ∷ 0 ∷ 0 ∷ 0 ∷ 0 ∷ 0 ∷ 0 ∷ 1 ∷ []
keepalive = refl

keepalive_clock : payload (Keepalive 0 (pos 0x102) false) ≡ 0x6b ∷ 0 ∷ 0 ∷ 0 ∷ 0 ∷ 0 ∷ 0 ∷ 0 ∷ 0 ∷ 0 ∷ 0 ∷ 0 ∷ 0 ∷ 0 ∷ 0 ∷ 1 ∷ 2 ∷ 0 ∷ []
keepalive_clock = refl

copy_done : frame CopyDone ≡ 0x63 ∷ 0 ∷ 0 ∷ 0 ∷ 4 ∷ []
copy_done = refl

-- a status with written, flushed, applied, clock and ask in this order
status : status_frame (record { written = 0x280; flushed = 0x130; applied = 0x120; clock = pos 7; ask = false })
    ≡ 0x64 ∷ 0 ∷ 0 ∷ 0 ∷ 0x26 ∷ 0x72 ∷ 0 ∷ 0 ∷ 0 ∷ 0 ∷ 0 ∷ 0 ∷ 2 ∷ 0x80 ∷ 0 ∷ 0 ∷ 0 ∷ 0 ∷ 0 ∷ 0 ∷ 1 ∷ 0x30 ∷ 0 ∷ 0 ∷ 0 ∷ 0 ∷ 0 ∷ 0 ∷ 1
    ∷ 0x20
    ∷ 0 ∷ 0 ∷ 0 ∷ 0 ∷ 0 ∷ 0 ∷ 0 ∷ 7 ∷ 0 ∷ []
status = refl

asking_status : drop 38 (status_frame (record { written = 0; flushed = 0; applied = 0; clock = pos 5; ask = true })) ≡ 1 ∷ []
asking_status = refl

-- payloads and their faults: nothing; a keepalive of 17 and of 18 bytes with reply byte 2, and of
-- 19; a short XLogData; another letter
empty_payload : payload_at [] ≡ Err fault.Short
unfolding payload_at
empty_payload = refl

short_keepalive : payload_at (107 ∷ replicate 16 0) ≡ Err fault.Short
unfolding payload_at
short_keepalive = refl

bad_reply_byte : payload_at (107 ∷ (replicate 16 0 ++ 2 ∷ [])) ≡ Err fault.BadReplyByte
unfolding payload_at
bad_reply_byte = refl

long_keepalive : payload_at (107 ∷ (replicate 16 0 ++ 2 ∷ 0 ∷ [])) ≡ Err fault.Trailing
unfolding payload_at
long_keepalive = refl

short_data : payload_at (119 ∷ replicate 23 0) ≡ Err fault.Short
unfolding payload_at
short_data = refl

other_letter : payload_at (120 ∷ []) ≡ Err (fault.UnknownServerMessage 120)
unfolding payload_at
other_letter = refl

keepalive_read : payload_at (0x6b ∷ 0 ∷ 0 ∷ 0 ∷ 0 ∷ 0 ∷ 0 ∷ 1 ∷ 0x80 ∷ 0xff ∷ 0xff ∷ 0xff ∷ 0xff ∷ 0xff ∷ 0xff ∷ 0xff ∷ 0xff ∷ 1 ∷ [])
    ≡ Ok (Keepalive 0x180 (negsuc 0) true)
unfolding payload_at
keepalive_read = refl

-- Frames of a stream with payloads of at most 64 bytes: the header of 64 bytes waits, that of 65
-- doesn't
waits : IsPartial 64 (100 ∷ 0 ∷ 0 ∷ 0 ∷ 0x44 ∷ [])
waits = record { tag = λ _. inl refl; payload = λ _. (refl, omega arith, omega arith, omega arith) }

too_large : HasFramingFault 64 (100 ∷ 0 ∷ 0 ∷ 0 ∷ 0x45 ∷ []) fault.TooLarge
too_large = record {
  fs = [];
  rest = 100 ∷ 0 ∷ 0 ∷ 0 ∷ 0x45 ∷ [];
  whole = refl;
  each = tt;
  breaks = (refl, omega arith, refl, omega arith, omega arith);
}

below_four : HasFramingFault 64 (100 ∷ 0 ∷ 0 ∷ 0 ∷ 3 ∷ []) fault.BadLength
below_four = record {
  fs = [];
  rest = 100 ∷ 0 ∷ 0 ∷ 0 ∷ 3 ∷ [];
  whole = refl;
  each = tt;
  breaks = (refl, omega arith, inl refl, inl (omega arith));
}

-- the greatest bit of the length is its sign, which comes before the limit
negative : HasFramingFault 64 (100 ∷ 0x80 ∷ 0 ∷ 0 ∷ 0 ∷ []) fault.BadLength
negative = record {
  fs = [];
  rest = 100 ∷ 0x80 ∷ 0 ∷ 0 ∷ 0 ∷ [];
  whole = refl;
  each = tt;
  breaks = (refl, omega arith, inl refl, inr (inl (omega arith)));
}

long_copy_done : HasFramingFault 64 (99 ∷ 0 ∷ 0 ∷ 0 ∷ 5 ∷ []) fault.BadLength
long_copy_done = record {
  fs = [];
  rest = 99 ∷ 0 ∷ 0 ∷ 0 ∷ 5 ∷ [];
  whole = refl;
  each = tt;
  breaks = (refl, omega arith, inr refl, inr (inr (refl, λ e. omega arith)));
}

unknown_letter : HasFramingFault 64 (0x78 ∷ []) (fault.UnknownFrame 120)
unknown_letter = record {
  fs = [];
  rest = 0x78 ∷ [];
  whole = refl;
  each = tt;
  breaks = (refl, omega arith, refl, (λ e. omega arith), λ e. omega arith);
}

after_done : HasFramingFault 64 (99 ∷ 0 ∷ 0 ∷ 0 ∷ 4 ∷ 100 ∷ []) fault.AfterDone
after_done = record { fs = CopyDone ∷ []; rest = 100 ∷ []; whole = refl; each = refl; breaks = (refl, omega arith) }

-- an empty payload is a frame; what follows is cut inside its length
cut_in_length : IsDeframedAs 64 (100 ∷ 0 ∷ 0 ∷ 0 ∷ 4 ∷ 100 ∷ 0 ∷ 0 ∷ []) (CopyData [] ∷ []) (100 ∷ 0 ∷ 0 ∷ [])
cut_in_length = record {
  whole = refl;
  each = ((omega arith, omega arith), tt);
  partial = record { tag = λ _. inl refl; payload = λ long. absurd (omega arith) };
  last = λ e. absurd (cc);
}
