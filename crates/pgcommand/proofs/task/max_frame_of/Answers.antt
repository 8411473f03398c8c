use Rattle.std.proofs.Common.{◌∙◌, sym, arith, codes}
use Rattle.std.specs.Str.Parse.{ParsesUnsigned, ExplainsUnsignedError, HasUnsignedDigitsIfOk}
use Rattle.clap.specs.Words.{found_of}
use Rattle.clap.proofs.WalkLemmas.{one_text-rows}
use Rattle.pgcommand.proofs.Building.{none≢some, reads_up_to, some-inj}
use Rattle.pgcommand.proofs.task.max_frame_of.Goals as goal

pub returns-in-Some : goal.returns-in-Some
returns-in-Some c =
    let same = one_text-rows (found_of c.args.found.now) (codes "max-frame") in
    reads_up_to _ (λ bs r. ParsesUnsigned 32 10 bs r × ExplainsUnsignedError 10 bs r × HasUnsignedDigitsIfOk bs r) 32 2147483643 _
    c.get_one.result (omega arith) (λ u x g. g.0)
    (λ u e. c.get_one.ensures.value u (same ∙ e)) _ (λ m e small. some-inj (sym c.in-Some.is ∙ e))

pub returns-in-None : goal.returns-in-None
returns-in-None c =
    let same = one_text-rows (found_of c.args.found.now) (codes "max-frame") in
    reads_up_to _ (λ bs r. ParsesUnsigned 32 10 bs r × ExplainsUnsignedError 10 bs r × HasUnsignedDigitsIfOk bs r) 32 2147483643 _
    c.get_one.result (omega arith) (λ u x g. g.0)
    (λ u e. c.get_one.ensures.value u (same ∙ e)) _ (λ m e small. absurd (none≢some (sym c.in-None.is ∙ e)))
