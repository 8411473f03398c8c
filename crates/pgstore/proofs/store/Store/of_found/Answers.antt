use Rattle.std.proofs.Common.{IsTrue, sym, subst, subst₂, arith}
use Rattle.sqlite.specs.View.{IsClean}
use Rattle.pgrows.proofs.Found.{open_of}
use Rattle.pgstore.specs.Reopened.{HoldsContent}
use Rattle.pgstore.proofs.TreesRead.{trees_hold}
use Rattle.pgstore.proofs.store.Store.of_found.Goals as goal

pub returns-in-Some-clause-serves : goal.returns-in-Some-clause-serves
returns-in-Some-clause-serves g c honest =
    let store = c.args.store in
    let here : IsClean (g.S.Store.view store) = subst (λ s. IsClean (g.S.Store.view s)) c.at.ensures.rows honest in
    record {
      honest = honest;
      is_open = subst (λ s. IsTrue (g.S.Store.view s).is_open) (sym c.at.ensures.rows)
          (open_of (g.S.Store.view store) (g.met.S.Store.broken_if_shut store) (c.requires.opened here).sound);
    }

pub returns-in-Some-clause-holds : goal.returns-in-Some-clause-holds
returns-in-Some-clause-holds g c honest =
    let store = c.args.store in
    let here : IsClean (g.S.Store.view store) = subst (λ s. IsClean (g.S.Store.view s)) c.at.ensures.rows honest in (
      here,
      λ content finds.
          subst₂ (λ s p. HoldsContent g.S.Store content (record { rows = s; position = p; group = c.at.result.group }))
          (sym c.at.ensures.rows) (sym c.at.ensures.position)
          (trees_hold g.S.Store store c.in-Some.position (omega arith) c.requires.opened (rw c.in-Some.is at c.requires.found)
          c.at.result.group content here finds),
    )
