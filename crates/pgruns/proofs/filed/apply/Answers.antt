use Rattle.std.proofs.Common.{◌∙◌, [], ℕ, Option, refl, sym, ap, ap₂, subst}
use Rattle.pgapply.specs.declared.fault.StoreFault.{StoreFault}
use Rattle.pgstore.specs.StoreValue.{Group}
use Rattle.pgsub_cli.specs.Runs.{Tells}
use Rattle.pgsub_cli.specs.Storing.{status_of_unopened}
use Rattle.pgruns.specs.Filed.{ending_of_closing, status_closed}
use Rattle.pgruns.proofs.Unfed.{unapplied_stays}
use Rattle.pgruns.proofs.filed.apply.Goals as goal

pub returns-in-Ok-clause-ran : goal.returns-in-Ok-clause-ran
returns-in-Ok-clause-ran g c run =
    let applied = c.apply_over-status in
    let closed = c.close_told-fault in
    let e = applied.ensures.ran run in
    let told = subst (λ (f : Option StoreFault).
    Tells g.E.Output.takes g.E.Output.failed [] [] (ending_of_closing f) applied.new.err closed.new.err) closed.ensures.fault
    closed.ensures.tells in (
      e.0,
      c.run_status.ensures ∙ ap₂ (status_closed status_of_unopened) e.1 closed.ensures.fault,
      (applied.new.err, e.2, told),
      record {
        opened = c.in-Ok.store;
        ended = applied.result.1;
        found = λ honest. c.in-Ok.ensures.stood (applied.ensures.honest honest);
        serves = λ honest. c.in-Ok.ensures.serves (applied.ensures.honest honest);
        untaken = ap (λ (a : Group). a.tally) c.in-Ok.ensures.begun;
        run = e.3 (λ honest. c.in-Ok.ensures.serves (applied.ensures.honest honest));
        closes = closed.ensures.closes;
      },
    )

pub returns-in-Ok-clause-unfed : goal.returns-in-Ok-clause-unfed
returns-in-Ok-clause-unfed g c unfed =
    let applied = c.apply_over-status in
    let closed = c.close_told-fault in
    let e = applied.ensures.unfed unfed in
    let told = subst (λ (f : Option StoreFault).
    Tells g.E.Output.takes g.E.Output.failed [] [] (ending_of_closing f) applied.new.err closed.new.err) closed.ensures.fault
    closed.ensures.tells in (
      e.0,
      e.1,
      c.run_status.ensures ∙ ap (λ (n : ℕ). status_closed status_of_unopened n closed.result.0) e.2
          ∙ unapplied_stays e.0 closed.result.0,
      e.4,
      (applied.new.err, e.5, told),
      record {
        opened = c.in-Ok.store;
        ended = applied.result.1;
        found = λ honest. c.in-Ok.ensures.stood (applied.ensures.honest honest);
        serves = λ honest. c.in-Ok.ensures.serves (applied.ensures.honest honest);
        untaken = ap (λ (a : Group). a.tally) c.in-Ok.ensures.begun;
        run = e.3;
        closes = closed.ensures.closes;
      },
    )

pub returns-in-Err-clause-unopened : goal.returns-in-Err-clause-unopened
returns-in-Err-clause-unopened g c = (
  c.fault.result,
  subst (g.O.Opening.fails c.args.opening) (sym c.fault.ensures) c.in-Err.ensures.failed,
  c.tell_unopened.ensures.status,
  refl,
  refl,
  c.tell_unopened.ensures.tells,
  c.in-Err.ensures.unchanged,
)
