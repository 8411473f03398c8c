use Rattle.std.proofs.Common.{◌∙◌, inl, inr, refl, ap, Some}
use Rattle.pgrules.proofs.live.LiveWatch.hear_next.Goals as goal

pub returns-in-Err : goal.returns-in-Err
returns-in-Err c none =
    inr (
      _,
      c.in-Some.ensures,
      inr (
        c.in-Err.end,
        c.hear_frame.new.watch,
        c.release.new.self,
        c.in-Err.ensures.ended none,
        c.release.ensures,
        ap (λ s. record c.args.self.now {
          watch = c.hear_frame.new.watch;
          deframer = c.release.new.self;
          end = Some c.in-Err.end;
          seen = s;
        }) c.in-Err.ensures.seen,
        ap Some (c.findings.ensures ∙ ap (λ s. record { seen = s; end = c.in-Err.end }) c.in-Err.ensures.seen),
      ),
    )

pub returns : goal.returns
returns c none =
    inr (
      _,
      c.in-Some.ensures,
      inl (
        c.hear_frame.new.watch,
        c.hear_frame.new.seen,
        c.in_default-hear_frame.ensures.heard none,
        c.pass_over.ensures,
        refl,
      ),
    )
