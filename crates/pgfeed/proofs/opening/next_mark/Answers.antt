use Rattle.std.proofs.Common.{◌≡◌, ◌≤◌, ◌+◌, ℕ, List, drop, take, length, ap, sym, ◌∙◌, rules}
use Rattle.std.proofs.Common.{arith}
use Rattle.std.proofs.lemmas.List.{length-drop}
use Rattle.sqlite_disk.specs.Disk.{Holds}
use Rattle.pgfeed.specs.Cutting.Files.{holds_at}
use Rattle.pgfeed.proofs.opening.next_mark.Goals as goal

pub returns-clause-mark : goal.returns-clause-mark
returns-clause-mark g c = λ clean whole.
    let file : List ℕ = g.D.Disk.seen c.args.disk.now in
    let line : List ℕ = c.read_at.new.buf in
    let size : length line ≡ 256 = c.read_at.auto.buf in
    let holds : Holds file c.args.offset line = c.in-Ok.ensures.read clean (omega arith) in
    let read : take 256 (drop c.args.offset file) ≡ line =
    ap (λ n. take n (drop c.args.offset file)) (sym size) ∙ holds_at file c.args.offset line holds in
    let behind = length-drop c.args.offset file in
    let room : 256 + c.in-Some.mark.bytes ≤ length (drop c.args.offset file) = omega arith in
    let found = rw c.in-Some.is at c.in_ok-mark.ensures in
    record {
      above = search rules;
      end_fits = search rules;
      bytes_fit = search rules;
      more = found.0;
      line = read ∙ found.1;
      within = room;
    }
