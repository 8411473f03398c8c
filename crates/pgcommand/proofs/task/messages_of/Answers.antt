use Rattle.std.proofs.Common.{◌∙◌, arith, codes}
use Rattle.std.specs.Str.Parse.{ParsesUnsigned, ExplainsUnsignedError, HasUnsignedDigitsIfOk}
use Rattle.clap.specs.Words.{found_of}
use Rattle.clap.proofs.WalkLemmas.{one_text-rows}
use Rattle.pgcommand.proofs.Building.{reads_if_given}
use Rattle.pgcommand.proofs.task.messages_of.Goals as goal

pub returns : goal.returns
returns c =
    let same = one_text-rows (found_of c.args.found.now) (codes "messages") in
    reads_if_given _ (λ bs r. ParsesUnsigned 64 10 bs r × ExplainsUnsignedError 10 bs r × HasUnsignedDigitsIfOk bs r) 64
    18446744073709551615 _ c.get_one.result (omega arith) (λ u x g. g.0)
    (λ e. c.get_one.ensures.none (same ∙ e)) (λ u e. c.get_one.ensures.value u (same ∙ e))
