use Rattle.std.proofs.Common.{arith}
use Rattle.sqlite.specs.Held as connection
use Rattle.sqlite.specs.State.{HasCleanDisk}
use Rattle.sqlite.specs.View.{IsClean}
use Rattle.pgstore.proofs.Reopened.{adopted_holds}
use Rattle.pgstore.proofs.TreesRead.{over_finds}
use Rattle.pgstore.proofs.store.Store.adopt_over.Goals as goal

pub returns-in-Ok-adopt-clause-holds : goal.returns-in-Ok-adopt-clause-holds
returns-in-Ok-adopt-clause-holds g c honest =
    let clean : HasCleanDisk (connection.state g.S.Store c.in-Ok.conn) = omega (arith, c.in-Ok-adopt.ensures.crash.clean, honest) in
    let was : IsClean (g.S.Store.view c.args.store) = omega (arith, c.in-Ok.ensures.clean, clean) in
    let opened = c.in-Ok.ensures.opens clean in (
      was,
      λ content finds.
          adopted_holds g.S.Store content c.in-Ok.conn _
          (over_finds g.S.Store c.args.store c.in-Ok.conn content (c.in-Ok.ensures.trees clean) opened.0 opened.1 finds) opened.0
          opened.1 (c.in-Ok-adopt.ensures.adopted honest),
    )

pub returns-in-Err-adopt-clause-stays : goal.returns-in-Err-adopt-clause-stays
returns-in-Err-adopt-clause-stays g c honest =
    let clean : HasCleanDisk (connection.state g.S.Store c.in-Ok.conn) =
    omega (arith, c.in-Err-adopt.ensures.crash_refused.clean, honest) in
    let was : IsClean (g.S.Store.view c.args.store) = omega (arith, c.in-Ok.ensures.clean, clean) in
    let opened = c.in-Ok.ensures.opens clean in (
      was,
      λ content finds.
          c.in-Err-adopt.ensures.as_found content
          (over_finds g.S.Store c.args.store c.in-Ok.conn content (c.in-Ok.ensures.trees clean) opened.0 opened.1 finds) opened.0,
    )
