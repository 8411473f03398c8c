use Rattle.std.proofs.Common.{◌≡◌, ◌<◌, ◌≤◌, ℕ, List, IfSome, length, arith, subst}
use Rattle.pgsub_cli.proofs.Reading.{all_read, longer_read}
use Rattle.pgsub_cli.proofs.files.AnyInput.read_whole.Goals as goal

pub returns-then-len-longest-clause-longer : goal.returns-then-len-longest-clause-longer
returns-then-len-longest-clause-longer g c = λ _.
    let long : c.args.longest < length c.read_to_end.new.buf.items =
    omega (arith, c.len.ensures, c.if-len-longest.true, c.read_to_end.new.buf.ok.0) in
    subst (λ reader. (bytes : List ℕ) × IfSome (g.R.Read.remaining reader) (λ known. bytes ≡ known) × (c.args.longest < length bytes))
    c.take.ensures.inner
    (longer_read (g.R.Read.remaining c.take.result.inner) c.take.result.limit c.args.longest c.new-text.result.items
    c.read_to_end.new.buf.items c.new-text.ensures.items c.in_ok-read_to_end.ensures.bytes long)

pub returns-clause-whole : goal.returns-clause-whole
returns-clause-whole g c =
    let text = c.read_to_end.new.buf.items in
    let fits : length text ≤ c.args.longest = omega (arith, c.len.ensures, c.if-len-longest.false, c.read_to_end.new.buf.ok.0) in
    let short : length text < c.take.result.limit = omega (arith, fits, c.take.ensures.limit, c.from.ensures) in (
      subst (λ reader. IfSome (g.R.Read.remaining reader) (λ known. text ≡ known)) c.take.ensures.inner
          (all_read (g.R.Read.remaining c.take.result.inner) c.take.result.limit c.new-text.result.items text c.new-text.ensures.items
          c.in_ok-read_to_end.ensures.bytes short),
      fits,
    )
