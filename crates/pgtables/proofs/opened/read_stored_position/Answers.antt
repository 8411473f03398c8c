use Rattle.std.proofs.Common.{IfOk, subst}
use Rattle.pgtables.specs.Opened.{ArePlacesRead}
use Rattle.pgtables.proofs.FoundTexts.{place_text, place_read_only}
use Rattle.pgtables.proofs.FoundPlace.{place_found}
use Rattle.pgtables.proofs.ReadSteps.{all_open, all_stays, all_told, commits_nothing, if_ok, on_ok}
use Rattle.pgtables.proofs.opened.read_stored_position.Goals as goal

pub returns-in_err-rows-clause-unchanged : goal.returns-in_err-rows-clause-unchanged
returns-in_err-rows-clause-unchanged g c =
    all_stays place_text place_read_only g.S.Store c.args.conn.now c.query_all.new.self c.query_all.result c.query_all.ensures.ok
    c.query_all.ensures.err c.see_committed.ensures

pub returns-in_err-rows-clause-crash : goal.returns-in_err-rows-clause-crash
returns-in_err-rows-clause-crash g c = commits_nothing place_text place_read_only _ _ c.query_all.ensures.survives

pub returns-clause-found : goal.returns-clause-found
returns-clause-found g c clean =
    let it = all_told place_text place_read_only g.S.Store c.args.conn.now c.query_all.new.self c.query_all.result c.query_all.ensures.ok _
    c.in_ok-rows.rows c.in_ok-rows.was c.query_all.ensures.survives.clean c.requires.present c.see_sound.ensures clean in
    if_ok c.read_one_place.result _ _ (place_found _ _ c.in_ok-rows.rows.items it.0 it.1 it.2)
    (subst (λ l. IfOk c.read_one_place.result (ArePlacesRead l)) c.as_slice.ensures.value c.read_one_place.ensures)

pub returns-clause-serving : goal.returns-clause-serving
returns-clause-serving g c clean =
    on_ok c.read_one_place.result _
    (all_open place_text place_read_only g.S.Store c.args.conn.now c.query_all.new.self c.query_all.result c.query_all.ensures.ok
    c.in_ok-rows.rows c.in_ok-rows.was clean)

pub returns-clause-unchanged : goal.returns-clause-unchanged
returns-clause-unchanged g c =
    all_stays place_text place_read_only g.S.Store c.args.conn.now c.query_all.new.self c.query_all.result c.query_all.ensures.ok
    c.query_all.ensures.err c.see_committed.ensures

pub returns-clause-crash : goal.returns-clause-crash
returns-clause-crash g c = commits_nothing place_text place_read_only _ _ c.query_all.ensures.survives
