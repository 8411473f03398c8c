use Rattle.std.proofs.Common.{◌≡◌, ◌+◌, ◌++◌, ℕ, List, [], drop}
use Rattle.std.proofs.Common.{take, length, ap, sym, ◌∙◌}
use Rattle.std.proofs.Common.{arith}
use Rattle.std.proofs.lemmas.List.{take-append-drop}
use Rattle.sqlite_disk.specs.Disk.{Holds}
use Rattle.pgcrc.specs.Crc.{crc32}
use Rattle.pgcrc.specs.Covering.{Covers}
use Rattle.pgfeed.specs.Reading.{HasItsCrc}
use Rattle.pgfeed.specs.Texts.{crc_text}
use Rattle.pgfeed.specs.Cutting.Files.{drop_drop, holds_at}
use Rattle.pgfeed.proofs.opening.test_last.Goals as goal

-- the line that was read has the checksum of what stands before it and of the bytes behind
is_its : (file line more : List ℕ) (offset bytes told crc value : ℕ) → take 256 (drop offset file) ≡ line
    → drop told line ≡ crc_text crc ++ more → value ≡ crc → value ≡ crc32 (take told line ++ take bytes (drop (offset + 256) file))
    → HasItsCrc bytes (drop offset file)
is_its file line more offset bytes told crc value read tells same sums =
    let whole : crc ≡ crc32 (take told line ++ take bytes (drop 256 (drop offset file))) =
    sym same ∙ sums ∙ ap (λ xs. crc32 (take told line ++ take bytes xs)) (sym (drop_drop offset 256 file)) in
    record {
      told = take told line;
      more = more;
      line = read ∙ sym (take-append-drop told line) ∙ ap (λ xs. take told line ++ xs) (tells ∙ ap (λ n. crc_text n ++ more) whole);
    }

pub returns-then-value-crc-clause-tested : goal.returns-then-value-crc-clause-tested
returns-then-value-crc-clause-tested g c = λ clean ends few.
    let file : List ℕ = g.D.Disk.seen c.args.disk.now in
    let line : List ℕ = c.read_at.new.buf in
    let size : length line ≡ 256 = c.read_at.auto.buf in
    let holds : Holds file c.args.offset line = c.in-Ok.ensures.read (c.sum_bytes.ensures.clean clean) (omega arith) in
    let read : take 256 (drop c.args.offset file) ≡ line =
    ap (λ n. take n (drop c.args.offset file)) (sym size) ∙ holds_at file c.args.offset line holds in
    let told : ℕ = c.in-Some.told in
    let found = rw c.in-Some.is at c.in_ok-told.ensures in
    let tells : drop told line ≡ crc_text c.in-Some.crc ++ found.1.0 = found.1.1 in
    let covers : Covers c.in_ok-sum.sum
    (take told line ++ take c.args.bytes (drop (c.args.offset + 256) (g.D.Disk.seen c.read_at.new.self))) =
    c.in_ok-sum.ensures.sums clean (take told line) (c.update.ensures [] c.new-sum.ensures) in
    let sums : c.value.result ≡ crc32 (take told line ++ take c.args.bytes (drop (c.args.offset + 256) file)) =
    c.value.ensures _ covers
    ∙ ap (λ bytes. crc32 (take told line ++ take c.args.bytes (drop (c.args.offset + 256) bytes))) c.read_at.ensures.seen in
    is_its file line found.1.0 c.args.offset c.args.bytes told c.in-Some.crc c.value.result read tells c.if-value-crc.true sums
