use Rattle.std.proofs.Common.{◌∙◌, ap, subst, sym, reverse, List}
use Rattle.std.proofs.lemmas.List.{reverse-reverse}
use Rattle.pgpast.specs.declared.record.Record.{Record}
use Rattle.pgpast.specs.Loaded.{AreUpTo, EndsUpTo, IsLast, slots_of}
use Rattle.pgpast.proofs.Slots.{are_up_to}
use Rattle.pgpast.proofs.loading.Loaded.of.Goals as goal

pub returns-in_default-clause-last : goal.returns-in_default-clause-last
returns-in_default-clause-last c slot r lt fit at =
    absurd (subst (λ o. EndsUpTo o r) c.in_default.is (c.of-survey.ensures.last slot r lt fit at))

pub returns-clause-last : goal.returns-clause-last
returns-clause-last c =
    let bytes = c.args.bytes.now in
    let chain = c.in_ok-chain.chain.items in
    subst (AreUpTo bytes) (sym (ap (λ (xs : List Record). reverse xs) c.reverse.ensures.items ∙ reverse-reverse chain))
    (are_up_to bytes chain c.in-Some.slot c.in-Some.first c.in_ok-chain.ensures.first
    (subst (IsLast bytes (slots_of bytes)) c.in-Some.is c.of-survey.ensures.last))
