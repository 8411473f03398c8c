use Rattle.std.proofs.Common.{◌≡◌, ◌-◌, arith, drop, length, slice_index}
use Rattle.std.proofs.lemmas.List.{take_all, length-drop}
use Rattle.pgwire.proofs.Decoding.{empty_at, as_data, as_keepalive, as_unknown}
use Rattle.pgwire.proofs.message.read.Goals as goal

pub returns-in-empty : goal.returns-in-empty
returns-in-empty c = empty_at c.args.bytes.now (omega arith)

pub returns-in-119 : goal.returns-in-119
returns-in-119 c =
    let bytes = c.args.bytes.now in
    let tag : slice_index bytes 0 ≡ 119 = grind arith in
    rw (as_data bytes (omega arith) tag)
    (rw (take_all (length bytes - 1) (drop 1 bytes) (omega (arith, length-drop 1 bytes))) at c.decode_data.ensures)

pub returns-in-107 : goal.returns-in-107
returns-in-107 c =
    let bytes = c.args.bytes.now in
    let tag : slice_index bytes 0 ≡ 107 = grind arith in
    rw (as_keepalive bytes (omega arith) tag)
    (rw (take_all (length bytes - 1) (drop 1 bytes) (omega (arith, length-drop 1 bytes))) at c.decode_keepalive.ensures)

pub returns-in-len1-up : goal.returns-in-len1-up
returns-in-len1-up c = as_unknown c.args.bytes.now (omega arith) (grind arith) (grind arith)
