-- The rows with the changes since are the server's.
use Rattle.std.proofs.Common.{◌≡◌, ◌++◌, ℕ, List, [], ◌∷◌, true, false, cond, eqb, map, Some, Ok}
use Rattle.std.proofs.Common.{refl, sym, ap, subst, ◌∙◌, arith, append_assoc, append-nil}
use Rattle.std.specs.FinMap as finite
use Rattle.std.proofs.lemmas.Bool.Decides.{nat_tests}
use Rattle.pglogical.specs.declared.message.RelationDef.{RelationDef}
use Rattle.pgapply.specs.Value.{Tables}
use Rattle.pgapply.specs.Apply.{Change, apply, fold_changes, ◌>>=◌}
use Rattle.pgsub_core.specs.Server.Work.{surviving_changes, changes_of}
use Rattle.pgsub_core.specs.Server.History.{all_changes, tables_as_of}
use Rattle.pgsub_core.proofs.Changes.{fold-append, changes-append}
use Rattle.pgadding.specs.Addition.{OwnChange, Inserted, Addition, own_item, emptied, owned}
use Rattle.pgadding.specs.Addition.{rows_work}
use Rattle.pgadding.specs.Later.{own_changes, LaterRowsAreTheServers}
use Rattle.pgadding.proofs.Kept.{point-changes, in_two, same_ok}
use Rattle.pgadding.proofs.Steps.{bound, applied, applied_too, put}

-- ---- a table's own changes make the same of it without the others

alone : (oid : ℕ) (cs : List Change) (mine tables next : Tables) → finite.get mine oid ≡ finite.get tables oid
    → fold_changes tables cs ≡ Ok next
    → (there : Tables) × (fold_changes mine (own_changes oid cs) ≡ Ok there) × (finite.get there oid ≡ finite.get next oid)
unfolding fold_changes
alone oid [] mine tables next same e =
    (mine, refl, subst (λ n. finite.get mine oid ≡ finite.get n oid) (same_ok tables next (Ok tables) refl e) same)
alone oid (c ∷ cs) mine tables next same e =
    let it = bound (apply tables c) (λ n. fold_changes n cs) next e in
    let step = applied tables c it.at it.first in
    let k = c.definition.oid in
    elim (eqb k oid) as (λ b. eqb k oid ≡ b
    → (there : Tables) × (fold_changes mine (cond b (c ∷ own_changes oid cs) (own_changes oid cs)) ≡ Ok there)
    × (finite.get there oid ≡ finite.get next oid)) [
      | true ↦ λ own.
          let at : k ≡ oid = grind (arith, nat_tests) in
          let here : finite.get tables k ≡ finite.get mine k =
          subst (λ x. finite.get tables x ≡ finite.get mine x) (sym at) (sym same) in
          let after : Tables = finite.insert mine k step.table in
          let makes : apply mine c ≡ Ok after = applied_too tables mine c it.at step here in
          let now : finite.get after oid ≡ finite.get it.at oid =
          put mine k step.table oid ∙ ap (λ x. cond (eqb oid k) (Some step.table) x) same ∙ sym (put tables k step.table oid)
          ∙ ap (λ n. finite.get n oid) (sym step.is) in
          let rest = alone oid cs after it.at next now it.then in
          (rest.0, ap (λ r. r >>= λ n. fold_changes n (own_changes oid cs)) makes ∙ rest.1, rest.2)
      | false ↦ λ isnt.
          let differ : eqb oid k ≡ false = grind (arith, nat_tests) in
          let now : finite.get mine oid ≡ finite.get it.at oid =
          same ∙ sym (ap (λ b. cond b (Some step.table) (finite.get tables oid)) differ) ∙ sym (put tables k step.table oid)
          ∙ ap (λ n. finite.get n oid) (sym step.is) in
          let rest = alone oid cs mine it.at next now it.then in
          (rest.0, rest.1, rest.2)
    ] refl

-- ---- the rows' transaction in two parts

pub owned_append : (def : RelationDef) (xs ys : List OwnChange)
    → surviving_changes (owned def (xs ++ ys)) ≡ surviving_changes (owned def xs) ++ surviving_changes (owned def ys)
owned_append def [] ys = refl
owned_append def (x ∷ xs) ys =
    ap (λ cs. changes_of (own_item def.oid x) (def ∷ []) ++ cs) (owned_append def xs ys)
    ∙ sym (append_assoc (changes_of (own_item def.oid x) (def ∷ [])) (surviving_changes (owned def xs)) (surviving_changes (owned def ys)))

abbrev before_later : Addition → Addition
before_later a = record a { later = [] }

rows_then_later : (a : Addition)
    → surviving_changes (rows_work a)
    ≡ surviving_changes (rows_work (before_later a)) ++ surviving_changes (owned a.definition a.later)
rows_then_later a =
    let def = a.definition in
    let rows = map Inserted a.rows in
    let first = changes_of (emptied a) (def ∷ []) in
    ap (λ cs. first ++ cs) (owned_append def rows a.later
    ∙ ap (λ os. surviving_changes (owned def os) ++ surviving_changes (owned def a.later)) (sym (append-nil rows)))
    ∙ sym (append_assoc first (surviving_changes (owned def (rows ++ []))) (surviving_changes (owned def a.later)))

-- ---- at the later point

pub later_rows : LaterRowsAreTheServers
unfolding tables_as_of
later_rows a read before below between above at_read at_point is e f rows =
    let oid = a.definition.oid in
    let first = all_changes before ++ all_changes below in
    let more = all_changes between in
    let early : fold_changes finite.empty first ≡ Ok at_read =
    ap (fold_changes finite.empty) (sym (point-changes read before below (between ++ above) is.at_slot)) ∙ e in
    let late : fold_changes finite.empty (first ++ more) ≡ Ok at_point =
    ap (fold_changes finite.empty)
    (append_assoc (all_changes before) (all_changes below) more
    ∙ ap (λ cs. all_changes before ++ cs) (sym (changes-append below between))
    ∙ sym (point-changes a.point before (below ++ between) above is.at_place)) ∙ f in
    let split = in_two first more finite.empty at_point late in
    let from : split.at ≡ at_read = same_ok split.at at_read (fold_changes finite.empty first) split.first early in
    let goes : fold_changes at_read more ≡ Ok at_point = ap (λ n. fold_changes n more) (sym from) ∙ split.then in
    let it = alone oid more rows.alone at_read at_point rows.same goes in
    record {
      alone = it.0;
      taken = ap (fold_changes finite.empty) (rows_then_later a)
          ∙ fold-append (surviving_changes (rows_work (before_later a))) (surviving_changes (owned a.definition a.later)) finite.empty
          ∙ ap (λ r. r >>= λ n. fold_changes n (surviving_changes (owned a.definition a.later))) rows.taken
          ∙ ap (fold_changes rows.alone) is.kept ∙ it.1;
      same = it.2;
    }
