use Rattle.std.proofs.Common.{◌≡◌, ◌++◌, ℕ, List, drop, take, length, refl, ap, sym, ◌∙◌, true}
use Rattle.std.proofs.Common.{arith}
use Rattle.std.proofs.lemmas.Slice.Eq.{starts_is}
use Rattle.std.specs.Cmp.{unsigned_Decides}
use Rattle.sqlite_disk.specs.Disk.{Holds}
use Rattle.pgfeed.specs.Texts.{segment_front}
use Rattle.pgfeed.specs.Cutting.Files.{holds_at}
use Rattle.pgfeed.proofs.opening.test_head.Goals as goal

pub returns-then-starts_with-clause-head : goal.returns-then-starts_with-clause-head
returns-then-starts_with-clause-head g c = λ clean.
    let file : List ℕ = g.D.Disk.seen c.args.disk.now in
    let head : List ℕ = c.read_at.new.buf in
    let size : length head ≡ 1024 = c.read_at.auto.buf in
    let holds : Holds file 0 head = c.in-Ok.ensures.read clean (omega arith) in
    let read : take 1024 file ≡ head = ap (λ n. take n file) (sym size) ∙ holds_at file 0 head holds in
    let is : c.as_bytes.result.now ≡ segment_front c.args.base = c.as_bytes.ensures.value ∙ c.in_ok-front.ensures in
    let rest : List ℕ = drop (length c.as_bytes.result.now) head in
    let begins : head ≡ c.as_bytes.result.now ++ rest =
    (starts_is unsigned_Decides head c.as_bytes.result.now true c.if-starts_with.ensures.value).0 refl in
    (rest, read ∙ begins ∙ ap (λ xs. xs ++ rest) is)
