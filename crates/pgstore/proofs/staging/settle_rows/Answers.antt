use Rattle.std.proofs.Common.{sym, ap, ◌∙◌, arith}
use Rattle.std.specs.FinMap.{get}
use Rattle.sqlite.specs.State.{HasCleanDisk}
use Rattle.pgtables.specs.Kept as stored
use Rattle.pgtables.specs.Kept.{tables_in}
use Rattle.pgrows.specs.Rows.{database, state}
use Rattle.pgreshaping.proofs.Remembering.{none_known}
use Rattle.pgstore.proofs.staging.settle_rows.Goals as goal

pub returns-clause-knows : goal.returns-clause-knows
returns-clause-knows g c clean still oid def at =
    let put : HasCleanDisk (state g.S.Store c.put_position.new.self) = omega (arith, c.commit.ensures.survives.clean, clean) in
    let was : HasCleanDisk (state g.S.Store c.args.rows.now) = omega (arith, c.put_position.ensures.survives.clean, put) in
    let made = c.in_default.ensures.made put in
    let shows = c.in_default-commit.ensures.committed clean in
    ap (λ trees. get (tables_in trees).defined oid) shows.now_is ∙ ap (λ (t : stored.Tables). get t.defined oid) made.made
    ∙ c.requires was made.was_open oid def at

pub returns-clause-rests : goal.returns-clause-rests
returns-clause-rests g c settled clean still =
    let shows = c.in_default-commit.ensures.committed clean in
    ap database (shows.now_is ∙ sym shows.committed_is)

pub returns-in-Err-clause-knows : goal.returns-in-Err-clause-knows
returns-in-Err-clause-knows g c = none_known g.S.Store c.clear.new.self c.undo.new.self c.clear.ensures

pub returns-in-Err-commit-clause-knows : goal.returns-in-Err-commit-clause-knows
returns-in-Err-commit-clause-knows g c =
    none_known g.S.Store c.clear-in-Err-commit.new.self c.commit.new.self c.clear-in-Err-commit.ensures
