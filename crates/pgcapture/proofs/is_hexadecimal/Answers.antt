use Rattle.std.proofs.Common.{rules, tests, subst, sym}
use Rattle.std.specs.Prelude.{◌↔◌, IsOk, IsTrue, Bool}
use Rattle.std.specs.Char.{is_ascii_hexdigit}
use Rattle.std.proofs.lemmas.Iterator.{YieldsList-from_slice}
use Rattle.std.proofs.lemmas.Iterator.Search.{all_from_yields_List}
use Rattle.hex.specs.Hex.{decode_of}
use Rattle.pgcapture.proofs.Digits.{decodes-even}
use Rattle.pgcapture.proofs.is_hexadecimal.Goals as goal

pub returns-then-line-eq0 : goal.returns-then-line-eq0
returns-then-line-eq0 c =
    let all = all_from_yields_List is_ascii_hexdigit _ _ c.all.result c.all.ensures.ran (YieldsList-from_slice c.args.line.now cc)
    (λ x b q k. search (rules, tests)) in
    subst (λ (b : Bool). IsTrue b ↔ IsOk (decode_of c.args.line.now)) (sym all) (decodes-even c.args.line.now c.if-line-eq0.true)
