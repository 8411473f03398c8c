use Rattle.std.proofs.Common.{◌<◌, ◌^◌, sym, subst, arith}
use Rattle.pgencoded.specs.Spelled.{IsStored}
use Rattle.pgstore.proofs.Founded.{founded_as, founded_store}
use Rattle.pgstore.proofs.Groups.{begun_empty}
use Rattle.pgstore.proofs.Reopened.{refused_stays}
use Rattle.pgstore.proofs.Stores.{adopted_survives}
use Rattle.pgstore.proofs.store.Store.adopt.Goals as goal

pub invariant_of-result : goal.invariant_of-result
invariant_of-result g c =
    let settled = c.in-Ok.ensures.settled in
    let range : c.in-Ok.position < 2 ^ 64 = omega arith in (
      (settled, λ clean still. (c.in-Ok.ensures.founds clean).stands.kept),
      founded_store g.S.Store c.args.conn c.adopt_tables.new.conn c.in-Ok.position range c.in-Ok.ensures.founds (c.see_committed.ensures)
          g.met.S.Store.settled,
      begun_empty g.S.Store _ c.in-Ok.position range _ c.at.ensures,
    )

pub returns-in-Ok-clause-adopted : goal.returns-in-Ok-clause-adopted
returns-in-Ok-clause-adopted g c honest =
    let it = c.in-Ok.ensures.founds honest in
    let range : c.in-Ok.position < 2 ^ 64 = omega arith in
    let same = sym (founded_as g.S.Store c.args.conn c.adopt_tables.new.conn c.in-Ok.position range c.in-Ok.ensures.founds
    c.see_committed.ensures honest) in
    record {
      stood = λ v are. let at = it.stood v are in record { stored = subst (IsStored v.tables) same at.0; position = at.1 };
      bare = λ none. let at = it.bare none in record { stored = subst (IsStored _) same at.0; position = at.1 };
      value = λ v is. let at = it.value v is in record { stored = subst (IsStored v.tables) same at.0; position = at.1 };
      known = it.known;
    }

pub returns-in-Ok-clause-crash : goal.returns-in-Ok-clause-crash
returns-in-Ok-clause-crash g c = adopted_survives g.S.Store c.args.conn c.adopt_tables.new.conn _ c.adopt_tables.ensures.crash

pub returns-in-Err-clause-as_found : goal.returns-in-Err-clause-as_found
returns-in-Err-clause-as_found g c =
    refused_stays g.S.Store g.met.S.Store.settled c.args.conn c.adopt_tables.new.conn c.adopt_tables.ensures.crash
    (λ clean still. (c.in-Err.ensures.unchanged clean still))
