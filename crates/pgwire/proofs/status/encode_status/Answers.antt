use Rattle.std.proofs.Common.{◌≡◌, ◌∷◌, ◌++◌, [], ap, ◌∙◌, arith}
use mir.Val.{SFits}
use Rattle.std.proofs.lemmas.Int.{to_z-of_z}
use Rattle.std.specs.Int.{w64, to_be_bytes, cast_unsigned}
use Rattle.pgwire.specs.Payloads.{flag_byte}
use Rattle.pgwire.proofs.Sending.{appended, same_flag}
use Rattle.pgwire.proofs.status.encode_status.Goals as goal

pub returns-clause-appended : goal.returns-clause-appended
returns-clause-appended c =
    let s = c.args.status.now in
    let tag : c.put_u8.new.self.items ≡ c.args.out.now.items ++ 100 ∷ [] =
    (rw c.unwrap.ensures at c.put_u8.ensures.ok) ∙ ap (λ xs. xs ++ 100 ∷ []) c.reserve.ensures.items in
    let len : c.put_u32.new.self.items ≡ c.put_u8.new.self.items ++ 0 ∷ 0 ∷ 0 ∷ 38 ∷ [] = rw c.unwrap-2.ensures at c.put_u32.ensures.ok in
    let letter : c.put_u8-2.new.self.items ≡ c.put_u32.new.self.items ++ 114 ∷ [] = rw c.unwrap-3.ensures at c.put_u8-2.ensures.ok in
    let raw = rw c.unwrap-4.ensures at c.put_i64.ensures.ok in
    let fits : SFits w64 s.clock = record { sfits = omega arith } in
    let clock : c.put_i64.new.self.items ≡ c.put_lsn-3.new.out.items ++ to_be_bytes w64 (cast_unsigned w64 s.clock) =
    raw ∙ ap (λ z. c.put_lsn-3.new.out.items ++ to_be_bytes w64 (cast_unsigned w64 z)) (to_z-of_z w64 s.clock fits) in
    let last = rw c.unwrap-5.ensures at c.put_u8-3.ensures.ok in
    let flag : c.from.result ≡ flag_byte s.ask = c.from.ensures ∙ same_flag s.ask in
    let ask : c.put_u8-3.new.self.items ≡ c.put_i64.new.self.items ++ flag_byte s.ask ∷ [] =
    last ∙ ap (λ byte. c.put_i64.new.self.items ++ byte ∷ []) flag in
    appended _ _ _ _ _ _ _ _ _ _ _ _ _ _ tag len letter c.put_lsn.ensures.items c.put_lsn-2.ensures.items c.put_lsn-3.ensures.items clock
    ask
