use Rattle.std.proofs.Common.{◌-◌, arith, drop, length}
use Rattle.std.proofs.lemmas.List.{take_all, length-drop}
use Rattle.std.proofs.lemmas.Int.{to_z-of_z}
use Rattle.std.specs.Int.{w64}
use Rattle.pgwire.proofs.Decoding.{data_gives}
use Rattle.pgwire.proofs.message.decode_data.Goals as goal

pub returns : goal.returns
returns c =
    let fields = c.args.fields.now in
    let end = rw (take_all (length fields - 8) (drop 8 fields) (omega (arith, length-drop 8 fields))) at c.read_u64-2.ensures in
    let clock = rw (take_all (length fields - 16) (drop 16 fields) (omega (arith, length-drop 16 fields))) at c.read_i64.ensures in
    rw (
      take_all (length fields - 24) (drop 24 fields) (omega (arith, length-drop 24 fields)),
      to_z-of_z w64 c.read_i64.result (record { sfits = c.read_i64.type_inv }),
    )
    (data_gives fields c.read_u64.result c.read_u64-2.result c.read_i64.result (omega arith) c.read_u64.ensures end clock)
