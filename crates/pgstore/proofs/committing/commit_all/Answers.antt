use Rattle.std.proofs.Common.{arith}
use Rattle.std.specs.Int.{w64, to_be_bytes}
use Rattle.sqlite.specs.State.{HasCleanDisk}
use Rattle.pgrows.specs.Rows.{state}
use Rattle.pgstore.proofs.Committed.{crash_taken, has_taken}
use Rattle.pgstore.proofs.committing.commit_all.Goals as goal

pub returns-in_err-commit-clause-crash : goal.returns-in_err-commit-clause-crash
returns-in_err-commit-clause-crash g c =
    crash_taken g.S.Store c.args.rows.now c.put_all.new.rows c.commit.new.self c.args.definitions.now c.args.changes.now
    (to_be_bytes w64 c.args.end) c.requires.begun c.in_default.ensures.made c.put_all.ensures.goes c.commit.ensures.survives

pub returns-clause-taken : goal.returns-clause-taken
returns-clause-taken g c clean =
    let put : HasCleanDisk (state g.S.Store c.put_all.new.rows) = omega (arith, c.commit.ensures.survives.clean, clean) in
    let was : HasCleanDisk (state g.S.Store c.args.rows.now) = omega (arith, c.put_all.ensures.goes.survives.clean, put) in
    let shows = c.in_ok-commit.ensures.committed clean in
    has_taken g.S.Store c.args.rows.now c.put_all.new.rows c.commit.new.self c.args.definitions.now c.args.changes.now
    (to_be_bytes w64 c.args.end) c.requires.begun was (c.in_default.ensures.made put) shows
    (c.see_kept.ensures.kept clean shows.is_open)

pub returns-clause-crash : goal.returns-clause-crash
returns-clause-crash g c =
    crash_taken g.S.Store c.args.rows.now c.put_all.new.rows c.commit.new.self c.args.definitions.now c.args.changes.now
    (to_be_bytes w64 c.args.end) c.requires.begun c.in_default.ensures.made c.put_all.ensures.goes c.commit.ensures.survives
