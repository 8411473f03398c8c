use Rattle.pgreshaping.proofs.Remembering.{none_known}
use Rattle.pgstore.proofs.Sourced.{begun_again, known_begun}
use Rattle.pgstore.proofs.source.Source.begun.Goals as goal

pub returns-in-Trees-default-default-true-clause-source : goal.returns-in-Trees-default-default-true-clause-source
returns-in-Trees-default-default-true-clause-source g c =
    let was = rw c.in-Trees-default-default-true.is at c.requires in
    let old = c.in-Trees-default-default-true.rows in
    let new = c.undone.result in
    let begins = c.undone.ensures.begun in
    let settled = was.2 c.in-Trees-default-default-true.field-2-test in (
      c.undone.ensures.numbered was.0,
      known_begun g.S.Store old new begins c.in-Trees-default-default-true.known c.undone.ensures.survives settled was.1,
      λ _. begun_again g.S.Store old new begins,
    )

pub returns-in_default-clause-source : goal.returns-in_default-clause-source
returns-in_default-clause-source g c = (
  c.into_rows.ensures.numbered,
  none_known g.S.Store c.new.result c.into_rows.result c.new.ensures,
  λ _. begun_again g.S.Store _ c.into_rows.result c.into_rows.ensures.begun,
)
