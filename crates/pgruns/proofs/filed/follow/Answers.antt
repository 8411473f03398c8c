use Rattle.std.proofs.Common.{◌∙◌, [], ℕ, Option, refl, sym, ap, ap₂, subst}
use Rattle.std.specs.Prelude.{option_map}
use Rattle.pgapply.specs.declared.fault.StoreFault.{StoreFault}
use Rattle.pgstore.specs.StoreValue.{Group}
use Rattle.pgsub_cli.specs.Runs.{Tells}
use Rattle.pgruns.specs.Filed.{ending_of_closing, status_closed, status_of_unclosed}
use Rattle.pgloaded.proofs.After.{if_some_as}
use Rattle.pgruns.proofs.Unloaded.{unloaded_stays}
use Rattle.pgruns.proofs.Unfed.{unfed_stays}
use Rattle.pgruns.proofs.filed.follow.Goals as goal

pub returns-in-Ok-clause-ran : goal.returns-in-Ok-clause-ran
returns-in-Ok-clause-ran g c loaded run =
    let followed = c.follow_loaded-status in
    let closed = c.close_told-fault in
    let e = followed.ensures.ran loaded run in
    let told = subst (λ (f : Option StoreFault).
    Tells g.E.Output.takes g.E.Output.failed [] [] (ending_of_closing f) followed.new.io.err closed.new.err) closed.ensures.fault
    closed.ensures.tells in (
      e.0,
      (followed.new.io.err, e.2, told),
      e.3,
      e.4,
      e.5,
      record {
        opened = c.in-Ok.store;
        ended = followed.result.1;
        found = λ kept. c.in-Ok.ensures.stood (followed.ensures.honest kept);
        serves = λ kept. c.in-Ok.ensures.serves (followed.ensures.honest kept);
        untaken = ap (λ (a : Group). a.tally) c.in-Ok.ensures.begun;
        run = (
          c.followed_status.ensures ∙ ap₂ (status_closed status_of_unclosed) e.1 closed.ensures.fault,
          e.6 (λ kept. c.in-Ok.ensures.serves (followed.ensures.honest kept)),
        );
        closes = closed.ensures.closes;
      },
    )

pub returns-in-Ok-clause-unfed : goal.returns-in-Ok-clause-unfed
returns-in-Ok-clause-unfed g c loaded unfed =
    let followed = c.follow_loaded-status in
    let closed = c.close_told-fault in
    let e = followed.ensures.unfed loaded unfed in
    let told = subst (λ (f : Option StoreFault).
    Tells g.E.Output.takes g.E.Output.failed [] [] (ending_of_closing f) followed.new.io.err closed.new.err) closed.ensures.fault
    closed.ensures.tells in (
      e.0,
      e.1,
      c.followed_status.ensures ∙ ap (λ (n : ℕ). status_closed status_of_unclosed n closed.result.0) e.2
          ∙ unfed_stays e.0 closed.result.0,
      e.3,
      e.4,
      (followed.new.io.err, e.5, told),
      record {
        opened = c.in-Ok.store;
        ended = followed.result.1;
        found = λ kept. c.in-Ok.ensures.stood (followed.ensures.honest kept);
        serves = λ kept. c.in-Ok.ensures.serves (followed.ensures.honest kept);
        untaken = ap (λ (a : Group). a.tally) c.in-Ok.ensures.begun;
        run = e.6;
        closes = closed.ensures.closes;
      },
    )

pub returns-in-Ok-clause-unloaded : goal.returns-in-Ok-clause-unloaded
returns-in-Ok-clause-unloaded g c =
    let followed = c.follow_loaded-status in
    let closed = c.close_told-fault in
    let told = subst (λ (f : Option StoreFault).
    Tells g.E.Output.takes g.E.Output.failed [] [] (ending_of_closing f) followed.new.io.err closed.new.err) closed.ensures.fault
    closed.ensures.tells in
    if_some_as followed.result.3 _ _ followed.ensures.unloaded (λ why e. (
      c.followed_status.ensures ∙ ap (λ (n : ℕ). status_closed status_of_unclosed n closed.result.0) e.0
          ∙ unloaded_stays why closed.result.0,
      e.1,
      e.2,
      e.3,
      (followed.new.io.err, e.4, told),
      record {
        opened = c.in-Ok.store;
        ended = followed.result.1;
        found = λ kept. c.in-Ok.ensures.stood (followed.ensures.honest kept);
        serves = λ kept. c.in-Ok.ensures.serves (followed.ensures.honest kept);
        untaken = ap (λ (a : Group). a.tally) c.in-Ok.ensures.begun;
        run = e.5;
        closes = closed.ensures.closes;
      },
    ))

pub returns-in-Err-clause-unopened : goal.returns-in-Err-clause-unopened
returns-in-Err-clause-unopened g c = (
  c.fault-fault.result,
  subst (g.O.Opening.fails c.args.opening) (sym c.fault-fault.ensures) c.in-Err.ensures.failed,
  c.tell_unfollowed-status.ensures.status,
  refl,
  refl,
  (option_map (λ text. text.now) c.cause-cause.result, c.tell_unfollowed-status.ensures.tells),
  c.in-Err.ensures.unchanged,
)
