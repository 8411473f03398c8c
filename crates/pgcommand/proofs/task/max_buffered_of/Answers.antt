use Rattle.std.proofs.Common.{◌∙◌, ap, arith, subst, sym, codes, unwrap_or}
use Rattle.std.specs.Str.Parse.{ParsesUnsigned, ExplainsUnsignedError, HasUnsignedDigitsIfOk}
use Rattle.clap.specs.Words.{found_of, one_of, rows_of}
use Rattle.clap.proofs.WalkLemmas.{one_text-rows}
use Rattle.pgcommand.specs.Asked.{ReadsOr, default_buffered}
use Rattle.pgcommand.proofs.Building.{reads_or}
use Rattle.pgcommand.proofs.task.max_buffered_of.Goals as goal

pub returns : goal.returns
returns c =
    let same = one_text-rows (found_of c.args.found.now) (codes "max-buffered") in
    let rows = rows_of (found_of c.args.found.now) in
    subst (ReadsOr (default_buffered rows) 18446744073709551615 (one_of (codes "max-buffered") rows))
    (sym (c.unwrap_or.ensures ∙ ap (unwrap_or c.get_one.result) c.default_buffered-default.ensures))
    (reads_or _ (λ bs r. ParsesUnsigned 64 10 bs r × ExplainsUnsignedError 10 bs r × HasUnsignedDigitsIfOk bs r) 64 18446744073709551615
    (default_buffered rows) _ c.get_one.result (omega arith) (λ u x g. g.0)
    (λ e. c.get_one.ensures.none (same ∙ e)) (λ u e. c.get_one.ensures.value u (same ∙ e)))
