use Rattle.std.proofs.Common.{◌≡◌, [], ◌∷◌, Ok, ap, subst, ◌∙◌, arith}
use Rattle.std.specs.Prelude.{T}
use Rattle.std.specs.Int.{w64, to_be_bytes}
use Rattle.std.specs.Ordering.{nat_cmp}
use Rattle.std.specs.FinMap.{is_sorted}
use Rattle.sqlite.specs.Tree.{Trees}
use Rattle.sqlite.specs.View.{View, IsClean}
use Rattle.pgtables.specs.Kept.{pos_row}
use Rattle.pgadopt.specs.Adopted.{AreDefinitionsOf}
use Rattle.pgadopt.proofs.outlined.read_outline.Goals as goal

pub read_definitions-requires : goal.read_definitions-requires
read_definitions-requires g c clean = c.lists_store.ensures clean (c.in_ok-lists_store.was ∙ ap Ok c.if-not-branch.false)

pub returns-clause-found : goal.returns-clause-found
returns-clause-found g c clean2 =
    let store = c.args.store.now in
    let clean1 : IsClean (g.S.Store.view c.read_definitions.new.store) = omega (arith, c.read_position.ensures.quiet.clean, clean2) in
    let clean0 : IsClean (g.S.Store.view store) = omega (arith, c.read_definitions.ensures.quiet.clean, clean1) in
    let one : (g.S.Store.view c.read_definitions.new.store).trees ≡ (g.S.Store.view store).trees =
    ap (λ (v : View). v.trees) (c.in_ok-found.ensures.same clean1) in
    let found = rw c.in-Some.is at (c.in_ok-found.ensures.found clean1) in
    let at = rw c.in-Some-2.is at (c.in_ok-position.ensures.found clean2) in
    record {
      listed = c.lists_store.ensures clean0 (c.in_ok-lists_store.was ∙ ap Ok c.if-not-branch.false);
      definitions = c.in-Some.found.items;
      are = subst (λ es. T (is_sorted nat_cmp es) → AreDefinitionsOf es c.in-Ok.definitions) c.as_slice.ensures.value
          c.in-Ok.ensures.ok found.1.rises;
      defined = found.0;
      lists = found.1;
      place = subst (λ (t : Trees). t 3 ≡ pos_row (to_be_bytes w64 c.in-Some-2.position) ∷ []) one at.0;
      range = at.1;
    }
