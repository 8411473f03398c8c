use Rattle.std.proofs.Common.{◌∙◌, Bool, inr, sym, ap}
use Rattle.pgwire.specs.Deframed.{Deframed}
use Rattle.pgcompared.specs.Live.{passed_over}
use Rattle.pgcompared.proofs.compared.Compared.hear_next.Goals as goal

pub returns-then-is_done : goal.returns-then-is_done
returns-then-is_done c =
    inr (
      _,
      c.in-Some.ensures,
      (
        c.hear.new.self,
        c.release.new.self,
        c.hear.ensures,
        c.release.ensures,
        ap (λ (d : Deframed). record c.args.self.now { deframer = d; hearing = c.hear.new.self; came = 0 }) c.reset.ensures
            ∙ ap (λ (b : Bool). passed_over b c.args.self.now c.release.new.self c.hear.new.self c.args.came)
            (sym (sym c.is_done.ensures ∙ c.if-is_done.true)),
      ),
    )

pub returns-else-is_done : goal.returns-else-is_done
returns-else-is_done c =
    inr (
      _,
      c.in-Some.ensures,
      (
        c.hear.new.self,
        c.release.new.self,
        c.hear.ensures,
        c.release.ensures,
        ap (λ (b : Bool). passed_over b c.args.self.now c.release.new.self c.hear.new.self c.args.came)
            (sym (sym c.is_done.ensures ∙ c.if-is_done.false)),
      ),
    )
