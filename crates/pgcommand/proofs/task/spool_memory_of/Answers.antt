use Rattle.std.proofs.Common.{◌∙◌, arith, subst, sym, codes}
use Rattle.std.specs.Str.Parse.{ParsesUnsigned, ExplainsUnsignedError, HasUnsignedDigitsIfOk}
use Rattle.clap.specs.Words.{found_of, one_of, rows_of}
use Rattle.clap.proofs.WalkLemmas.{one_text-rows}
use Rattle.pgcommand.specs.Asked.{ReadsOr}
use Rattle.pgcommand.proofs.Building.{reads_or}
use Rattle.pgcommand.proofs.task.spool_memory_of.Goals as goal

pub returns : goal.returns
returns c =
    let same = one_text-rows (found_of c.args.found.now) (codes "spool-memory") in
    subst (ReadsOr 67108864 18446744073709551615 (one_of (codes "spool-memory") (rows_of (found_of c.args.found.now))))
    (sym c.unwrap_or.ensures)
    (reads_or _ (λ bs r. ParsesUnsigned 64 10 bs r × ExplainsUnsignedError 10 bs r × HasUnsignedDigitsIfOk bs r) 64 18446744073709551615
    67108864 _ c.get_one.result (omega arith) (λ u x g. g.0)
    (λ e. c.get_one.ensures.none (same ∙ e)) (λ u e. c.get_one.ensures.value u (same ∙ e)))
