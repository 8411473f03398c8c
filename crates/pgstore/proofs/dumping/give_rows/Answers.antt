use Rattle.std.proofs.Common.{IsTrue, sym, subst, arith}
use Rattle.sqlite.specs.State.{HasCleanDisk}
use Rattle.pgrows.specs.Rows.{state}
use Rattle.sqlite.specs.Effect.{Database}
use Rattle.pgtables.specs.Kept.{tables_in}
use Rattle.pgencoded.specs.Spelled.{IsStored}
use Rattle.pgreshaping.proofs.Remembering.{none_known}
use Rattle.pgstore.proofs.dumping.give_rows.Goals as goal

pub returns-in-Trees-clause-formed : goal.returns-in-Trees-clause-formed
returns-in-Trees-clause-formed g c clean stored = c.read_rows.ensures.formed clean (λ was still.
    let b = (rw c.in-Trees.is at c.begin.ensures.begun) was still in
    let v = stored (omega (arith, c.begin.ensures.survives.clean, was, rw c.in-Trees.is at c.begin.ensures.survives.clean)) b.0 in
    (v.0, subst (λ (d : Database). IsStored v.0 (tables_in d.trees)) (sym b.1) v.1))

pub returns-in-Trees-clause-source : goal.returns-in-Trees-clause-source
returns-in-Trees-clause-source g c = (
  λ clean.
      let was : HasCleanDisk (state g.S.Store c.in-Trees.rows) = omega (arith, c.read_rows.ensures.goes.survives.clean, clean) in
      subst IsTrue (sym (c.read_rows.ensures.goes.keeps clean).numbered) ((rw c.in-Trees.is at c.begin.ensures.source).0 was),
  none_known g.S.Store c.clear.new.self c.read_rows.new.rows c.clear.ensures,
  λ settled. absurd (cc),
)
