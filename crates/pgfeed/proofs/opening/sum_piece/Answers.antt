use Rattle.std.proofs.Common.{◌≡◌, ◌++◌, ℕ, List, drop, take, length, ap, sym, ◌∙◌, subst}
use Rattle.std.proofs.Common.{rules}
use Rattle.sqlite_disk.specs.Disk.{Holds}
use Rattle.pgcrc.specs.Covering.{Covers}
use Rattle.pgfeed.specs.Cutting.Files.{holds_at}
use Rattle.pgfeed.proofs.opening.sum_piece.Goals as goal

pub returns-clause-sums : goal.returns-clause-sums
returns-clause-sums g c = λ clean before covers.
    let file : List ℕ = g.D.Disk.seen c.args.disk.now in
    let piece : List ℕ = c.read_at.new.buf in
    let long : length piece ≡ c.args.size = search rules in
    let holds : Holds file c.args.offset piece = c.in-Ok.ensures.read clean (search rules) in
    let read : take c.args.size (drop c.args.offset file) ≡ piece =
    ap (λ n. take n (drop c.args.offset file)) (sym long) ∙ holds_at file c.args.offset piece holds in
    subst (λ xs. Covers c.update.new.self (before ++ xs)) (sym read) (c.update.ensures before covers)
