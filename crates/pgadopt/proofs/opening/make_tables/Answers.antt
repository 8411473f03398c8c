use Rattle.std.proofs.Common.{◌≡◌, rules, subst}
use Rattle.sqlite.specs.Held.{Held, state}
use Rattle.sqlite.specs.State.{Survives}
use Rattle.pgencoded.specs.DatabaseValue.{AreOf, nothing_stored}
use Rattle.pgadopt.proofs.Beginning.{crash_begun}
use Rattle.pgadopt.proofs.opening.make_tables.Goals as goal

pub returns-in_err-commit-clause-crash : goal.returns-in_err-commit-clause-crash
returns-in_err-commit-clause-crash g c =
    let same : c.commit.new.self.0 ≡ c.conn-2-1.given.0 = search rules in
    subst (λ (h : Held g.row.S.Denot). Survives (state g.S.Store c.args.conn.now) (state g.S.Store h) (AreOf nothing_stored)) same
    (crash_begun g.S.Store c.args.conn.now c.transaction-tx.result.conn.now c.create_tables.new.tx.conn.now c.commit.new.self.0
    c.transaction-tx.ensures.begun c.in_ok-create_tables.ensures.made c.create_tables.ensures.goes.survives c.commit.ensures.survives)

pub returns-clause-crash : goal.returns-clause-crash
returns-clause-crash g c =
    let same : c.commit.new.self.0 ≡ c.conn-2-1.given.0 = search rules in
    subst (λ (h : Held g.row.S.Denot). Survives (state g.S.Store c.args.conn.now) (state g.S.Store h) (AreOf nothing_stored)) same
    (crash_begun g.S.Store c.args.conn.now c.transaction-tx.result.conn.now c.create_tables.new.tx.conn.now c.commit.new.self.0
    c.transaction-tx.ensures.begun c.in_ok-create_tables.ensures.made c.create_tables.ensures.goes.survives c.commit.ensures.survives)
