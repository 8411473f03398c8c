use Rattle.std.proofs.Common.{Ok, Err, refl, sym, ap, subst}
use Rattle.pgrepeats.specs.declared.fault.Trouble.{Trouble}
use Rattle.pgrepeats.specs.Past.{Answers}
use Rattle.pgcompared.specs.declared.noting.Noting.{Noting}
use Rattle.pgcompared.specs.declared.noting.Told.{Told}
use Rattle.pgcompared.proofs.noting.Noting.tell.Goals as goal

pub returns-in-Ok-hear : goal.returns-in-Ok-hear
returns-in-Ok-hear c = (
  refl,
  (subst (λ (t : Trouble). Answers c.args.self.now.past c.args.commit c.hear.new.self (Err t)) c.in-Err-Contradicted.field-0-is
      c.in-Err-Contradicted.ensures).0,
  (
    record c.args.self.now { past = c.restart.new.self },
    (_, c.restart.ensures, refl, refl, refl),
    record {
      answer = c.in-Ok-hear.answer;
      is =
          subst (λ (x : Noting). Answers c.restart.new.self c.args.commit x.past (Ok c.in-Ok-hear.answer))
          (sym c.answer-in-Ok-hear.ensures.new) c.in-Ok-hear.ensures;
      reached = ap (λ (x : Noting). x.reached) c.answer-in-Ok-hear.ensures.new;
      whole = ap (λ (x : Noting). x.is_whole) c.answer-in-Ok-hear.ensures.new;
      equal = ap (λ (x : Noting). x.equal) c.answer-in-Ok-hear.ensures.new;
      forgot_is = ap (λ (x : Told). x.forgot) c.answer-in-Ok-hear.ensures.told;
      noted = ap (λ (x : Told). x.noted) c.answer-in-Ok-hear.ensures.told;
    },
  ),
)
