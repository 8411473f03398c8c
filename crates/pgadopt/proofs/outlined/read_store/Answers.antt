use Rattle.std.proofs.Common.{Ok, ap, ◌∙◌, arith}
use Rattle.sqlite.specs.View.{View, IsClean}
use Rattle.pgadopt.proofs.RowsRead.{lists_still, trees_read}
use Rattle.pgadopt.proofs.outlined.read_store.Goals as goal

pub check_rows-requires : goal.check_rows-requires
check_rows-requires g c clean =
    lists_still (g.S.Store.view c.args.store.now) (g.S.Store.view c.read_outline.new.store) (c.in_ok-outline.ensures.same clean)
    (rw c.in-Some.is at (c.in_ok-outline.ensures.found clean)).listed

pub returns-clause-found : goal.returns-clause-found
returns-clause-found g c clean2 =
    let store = c.args.store.now in
    let clean1 : IsClean (g.S.Store.view c.read_outline.new.store) = omega (arith, c.check_rows.ensures.quiet.clean, clean2) in
    let it = rw c.in-Some.is at (c.in_ok-outline.ensures.found clean1) in
    let verified = c.check_rows.ensures.verified clean2 (c.in_ok-check_rows.was ∙ ap Ok c.if-not-branch.false) in (
      it.listed.unbroken,
      trees_read (g.S.Store.view store) (g.S.Store.view c.read_outline.new.store).trees
          (ap (λ (v : View). v.trees) (c.in_ok-outline.ensures.same clean1)) c.in-Some.outline.definitions c.in-Some.outline.position it
          verified.held (record { each = verified.accepted.each; keyed = verified.accepted.keyed }) verified.indexed,
    )
