use Rattle.std.proofs.Common.{◌≡◌, ◌++◌, ℕ, List, drop, length, refl, ap, ◌∙◌, true}
use Rattle.std.proofs.lemmas.Slice.Eq.{starts_is}
use Rattle.std.specs.Cmp.{unsigned_Decides}
use Rattle.pgfeed.specs.Texts.{commit_front}
use Rattle.pgfeed.proofs.mark.read_mark.Goals as goal

pub returns-then-starts_with : goal.returns-then-starts_with
returns-then-starts_with c =
    let front : List ℕ = commit_front c.in-Some.mark.end c.args.prev c.in-Some.mark.bytes in
    let is : c.as_bytes.result.now ≡ front = c.as_bytes.ensures.value ∙ c.in_ok-front.ensures in
    let rest : List ℕ = drop (length c.as_bytes.result.now) c.args.line.now in
    let begins : c.args.line.now ≡ c.as_bytes.result.now ++ rest =
    (starts_is unsigned_Decides c.args.line.now c.as_bytes.result.now true c.if-starts_with.ensures.value).0 refl in
    (rest, begins ∙ ap (λ xs. xs ++ rest) is)
