use Rattle.std.proofs.Common.{Ok, refl, ap, ◌∙◌, rules}
use Rattle.sqlite.specs.Held.{state}
use Rattle.sqlite.specs.State.{HasCleanDisk}
use Rattle.pgtables.proofs.FoundTexts.{rows_text, rows_read_only}
use Rattle.pgtables.proofs.ReadSteps.{begins, refused_stays, refused_survives, one_more}
use Rattle.pgtables.proofs.FoundHeld.{ArePassed, none_passed, found_on, rows_found}
use Rattle.pgtables.proofs.opened.check_stored_rows.Goals as goal

pub returns-in_err-rows-clause-unchanged : goal.returns-in_err-rows-clause-unchanged
returns-in_err-rows-clause-unchanged g c =
    refused_stays rows_text rows_read_only g.S.Store c.args.conn.now c.query.follows.lender-at-none c.query.result _ c.in_err-rows.was
    c.query.follows.holds-at-none c.see_committed.ensures

pub returns-in_err-rows-clause-crash : goal.returns-in_err-rows-clause-crash
returns-in_err-rows-clause-crash g c =
    refused_survives rows_text rows_read_only g.S.Store c.args.conn.now c.query.follows.lender-at-none c.query.result _ c.in_err-rows.was
    c.query.follows.holds-at-none

pub loop-init : goal.loop-init
loop-init g c =
    let made = c.in_ok-rows.ensures in (
      refl,
      begins rows_text rows_read_only g.S.Store (ArePassed g.C.RowCheck.accepts c.args.check.now _)
          (none_passed g.C.RowCheck.accepts c.args.check.now) c.args.conn.now c.in_ok-rows.rows.conn.now (made.mode c.requires.settled)
          made.survives made.begun,
    )

pub loop-preserved : goal.loop-preserved
loop-preserved g c =
    let moved = c.next.follows.holds-at-none in
    let checked = c.in_ok-found.ensures in
    let row = c.in-Some.row.now in (
      moved.same_reference ∙ c.loop.invariant.0,
      one_more rows_text rows_read_only g.S.Store (ArePassed g.C.RowCheck.accepts c.args.check.now c.loop.last) c.args.conn.now c.loop.rows
          c.next.follows.lender-at-none c.loop.invariant.1 c.next.result moved
          (ArePassed g.C.RowCheck.accepts c.args.check.now _) c.in-Some.row (c.in_ok-row.was ∙ ap Ok c.in-Some.is)
          (found_on g.C.RowCheck.accepts c.args.check.now c.loop.last _ row c.if-is_none.ensures checked.accepted checked.behind),
    )

pub returns-in_default-clause-held : goal.returns-in_default-clause-held
returns-in_default-clause-held g c clean is =
    let new = c.next.follows.lender-at-none in
    let late : HasCleanDisk (state g.S.Store new.conn.now) = search rules in
    rows_found g.C.RowCheck.accepts c.args.check.now g.S.Store c.args.conn.now c.loop.rows new c.loop.last c.loop.invariant.1 c.next.result
    c.next.follows.holds-at-none (c.in_ok-row.was ∙ ap Ok c.in_default.is) late c.requires.present c.see_sound.ensures
