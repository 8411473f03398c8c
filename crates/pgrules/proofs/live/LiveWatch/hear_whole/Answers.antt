use Rattle.std.proofs.Common.{◌∙◌, inl, inr, refl, ap, Some}
use Rattle.pgrules.proofs.live.LiveWatch.hear_whole.Goals as goal

pub returns-in-Err : goal.returns-in-Err
returns-in-Err c none =
    inl (
      c.in-Some.came,
      c.in-Some.ensures.1,
      inr (
        c.in-Err.end,
        c.hear_payload.new.watch,
        c.in-Err.ensures.ended none,
        ap (λ s. record c.args.self.now {
          watch = c.hear_payload.new.watch;
          came = c.in-Some.came;
          end = Some c.in-Err.end;
          seen = s;
        }) c.in-Err.ensures.seen,
        ap Some (c.findings.ensures ∙ ap (λ s. record { seen = s; end = c.in-Err.end }) c.in-Err.ensures.seen),
      ),
    )

pub returns : goal.returns
returns c none =
    inl (
      c.in-Some.came,
      c.in-Some.ensures.1,
      inl (c.hear_payload.new.watch, c.hear_payload.new.seen, c.in_default-hear_payload.ensures.heard none, refl, refl),
    )
