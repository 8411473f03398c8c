use Rattle.std.proofs.Common.{[], Option, refl, sym, subst, ap, ap₂, ◌∙◌}
use Rattle.pgapply.specs.declared.fault.StoreFault.{StoreFault}
use Rattle.pgstore.specs.StoreValue.{Group}
use Rattle.pgruns.specs.Filed.{ending_of_closing, status_closed}
use Rattle.pgsub_cli.specs.Storing.{status_of_unopened}
use Rattle.pgsub_cli.specs.Runs.{Tells}
use Rattle.pgruns.proofs.filed.dump.Goals as goal

pub returns-in-Ok-clause-ran : goal.returns-in-Ok-clause-ran
returns-in-Ok-clause-ran g c =
    let dumped = c.dump_store-status.ensures in
    let e = dumped.ends in (
      e.0,
      c.run_status.ensures ∙ ap₂ (status_closed status_of_unopened) e.1 c.close_told-fault.ensures.fault,
      (
        c.dump_store-status.new.err,
        e.3,
        subst (λ (f : Option StoreFault).
            Tells g.E.Output.takes g.E.Output.failed [] [] (ending_of_closing f) c.dump_store-status.new.err c.close_told-fault.new.err)
            c.close_told-fault.ensures.fault c.close_told-fault.ensures.tells,
      ),
      record {
        opened = c.in-Ok.store;
        ended = c.dump_store-status.result.1;
        found = λ honest. c.in-Ok.ensures.stood (dumped.honest honest);
        serves = λ honest. c.in-Ok.ensures.serves (dumped.honest honest);
        untaken = ap (λ (a : Group). a.tally) c.in-Ok.ensures.begun;
        run = (e.2, dumped.unchanged, dumped.position, dumped.crash);
        closes = c.close_told-fault.ensures.closes;
      },
    )

pub returns-in-Err-clause-unopened : goal.returns-in-Err-clause-unopened
returns-in-Err-clause-unopened g c = (
  c.fault.result,
  subst (g.O.Opening.fails c.args.opening) (sym c.fault.ensures) c.in-Err.ensures.failed,
  c.tell_unopened.ensures.status,
  refl,
  c.tell_unopened.ensures.tells,
  c.in-Err.ensures.unchanged,
)
