use Rattle.std.proofs.Common.{◌≡◌, ◌+◌, ◌*◌, ◌^◌, arith, Some, None, ap, ◌∙◌}
use Rattle.std.proofs.lemmas.Str.Pattern.{split_parts}
use Rattle.std.proofs.lemmas.Result.{err_from_is_err_and}
use Rattle.pglsn.proofs.Halves.{halves, no_slash, part_fits, joined}
use Rattle.std.specs.Str.Parse.{digits_value}
use Rattle.pglsn.proofs.Lsn.parse.Goals as goal

pub returns-in_default : goal.returns-in_default
returns-in_default c = λ n. no_slash _ n (split_parts 47 c.args.text.now None c.in_default.ensures.cases (omega arith))

pub returns-in_err-high : goal.returns-in_err-high
returns-in_err-high c =
    let p = err_from_is_err_and c.from_residual.result c.from_residual.ensures.1 in
    rw p.1 (λ n reads.
    let s = split_parts 47 c.args.text.now (Some (c.in-Some.high, c.in-Some.low)) c.in-Some.ensures.cases (omega arith) in
    let h = halves c.args.text.now c.in-Some.high.now c.in-Some.low.now n s.0 s.1 reads in
    c.in_err-high.ensures h.0)

pub returns-in_err-low : goal.returns-in_err-low
returns-in_err-low c =
    let p = err_from_is_err_and c.from_residual-in_err-low.result c.from_residual-in_err-low.ensures.1 in
    rw p.1 (λ n reads.
    let s = split_parts 47 c.args.text.now (Some (c.in-Some.high, c.in-Some.low)) c.in-Some.ensures.cases (omega arith) in
    let h = halves c.args.text.now c.in-Some.high.now c.in-Some.low.now n s.0 s.1 reads in
    c.in_err-low.ensures h.1)

pub returns : goal.returns
returns c =
    let s = split_parts 47 c.args.text.now (Some (c.in-Some.high, c.in-Some.low)) c.in-Some.ensures.cases (omega arith) in
    let high : c.from.result ≡ digits_value 16 c.in-Some.high.now = c.from.ensures ∙ c.in_ok-high.ensures.1 in
    let low : c.from-2.result ≡ digits_value 16 c.in-Some.low.now = c.from-2.ensures ∙ c.in_ok-low.ensures.1 in
    let fits = part_fits c.in-Some.high.now c.in_ok-high.ensures.0 in
    let value = joined c.from.result c.from-2.result (omega (arith, high, fits)) ∙ ap (λ n. n * 2 ^ 32 + c.from-2.result) high
    ∙ ap (λ n. digits_value 16 c.in-Some.high.now * 2 ^ 32 + n) low in
    record {
      high = c.in-Some.high.now;
      low = c.in-Some.low.now;
      whole = s.0;
      high_part = c.in_ok-high.ensures.0;
      low_part = c.in_ok-low.ensures.0;
      value = value;
    }
