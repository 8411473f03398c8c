use Rattle.std.proofs.Common.{◌≡◌, ◌++◌, ◌-◌, ℕ, List, drop, take, length, refl, ap, sym, ◌∙◌, true}
use Rattle.std.proofs.Common.{arith, length-drop}
use Rattle.std.proofs.lemmas.List.{take_all}
use Rattle.std.proofs.lemmas.Slice.Eq.{starts_is}
use Rattle.std.specs.Cmp.{unsigned_Decides}
use Rattle.pgfeed.specs.Texts.{crc_text}
use Rattle.pgfeed.proofs.mark.read_crc.Goals as goal

pub returns-then-starts_with : goal.returns-then-starts_with
returns-then-starts_with c =
    let line : List ℕ = c.args.line.now in
    let told : ℕ = c.in-Some.told in
    let behind : List ℕ = take (length line - told) (drop told line) in
    let whole : behind ≡ drop told line = take_all (length line - told) (drop told line) (omega (arith, length-drop told line)) in
    let is : c.as_bytes.result.now ≡ crc_text c.in-Some.crc = c.as_bytes.ensures.value ∙ c.in_ok-text.ensures in
    let rest : List ℕ = drop (length c.as_bytes.result.now) behind in
    let begins : behind ≡ c.as_bytes.result.now ++ rest =
    (starts_is unsigned_Decides behind c.as_bytes.result.now true c.if-starts_with.ensures.value).0 refl in
    (omega arith, (rest, sym whole ∙ begins ∙ ap (λ xs. xs ++ rest) is))
