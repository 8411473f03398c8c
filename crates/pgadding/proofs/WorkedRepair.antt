-- The example of a repair is one.
use Rattle.std.proofs.Common.{◌≡◌, ◌++◌, ℕ, List, [], ◌∷◌, false, true, cond, eqb, Option, Some}
use Rattle.std.proofs.Common.{None, refl, sym, ap, subst, ◌∙◌, inl, arith, ◌||◌}
use Rattle.std.proofs.lemmas.Bool.Decides.{nat_tests}
use Rattle.std.specs.FinMap as finite
use Rattle.std.specs.FinMap.{get-insert, get-empty}
use Rattle.std.specs.Ordering.{nat_cmp}
use Rattle.std.specs.Cmp.Lexicographic.{slice_cmp, nat_list_cmp_total}
use Rattle.pgtuple.specs.declared.cell.Cell.TheVariants.{Text, Null}
use Rattle.pglogical.specs.declared.message.OldKind.TheVariants.{Key}
use Rattle.pglogical.specs.declared.message.Item.{Item}
use Rattle.pglogical.specs.declared.message.Item.TheVariants.{Update, Delete}
use Rattle.pgorder.specs.declared.Version.TheVariants.{Two}
use Rattle.pgtuple.specs.Cells.{tuple_spelling}
use Rattle.pgapply.specs.Value.{Row, Rows, Table, Tables, IsRow, AreRows, IsTable, AreTables}
use Rattle.pgapply.proofs.KeepsForm.{no_rows, row_inserted, same_some}
use Rattle.pgsub_core.specs.Server.Work.{is_among}
use Rattle.pgadding.specs.Around.{IsAround}
use Rattle.pgadding.specs.Given.{giving}
use Rattle.pgadding.specs.Mended.{IsNotAmong, AreFound, IsMended, keyed_changes}
use Rattle.pgadding.specs.WorkedRepair.{k, cells, place_of, one_row, our_rows, their_rows}
use Rattle.pgadding.specs.WorkedRepair.{tables_with, IsExampleOfARepair}
use Rattle.pgadding.proofs.Given.{any_tables}
use Rattle.pgadding.proofs.MendedRows.{same_place_as}
use Rattle.pgadding.proofs.MendedTables.{differ, not_itself}
use Rattle.pgadding.proofs.Ordered.{shaped}
use Rattle.pgadding.proofs.Steps.{put}

-- ---- rows

is_row : (letter digit : ℕ) → IsRow k (place_of digit) (one_row letter digit)
unfolding tuple_spelling
is_row letter digit = record { width = refl; known = refl; sent = refl; some = omega arith; copies = omega arith }

are_theirs : AreRows k their_rows
are_theirs = row_inserted k finite.empty (place_of 49) (one_row 97 49) (no_rows k) (is_row 97 49)

are_ours : AreRows k our_rows
are_ours = row_inserted k (finite.insert finite.empty (place_of 49) (one_row 98 49)) (place_of 51) (one_row 99 51)
    (row_inserted k finite.empty (place_of 49) (one_row 98 49) (no_rows k) (is_row 98 49)) (is_row 99 51)

ours_at : (q : List ℕ) → finite.get our_rows q
    ≡ cond (same_place_as (place_of 51) q) (Some (one_row 99 51)) (cond (same_place_as (place_of 49) q) (Some (one_row 98 49)) None)
ours_at q =
    get-insert nat_list_cmp_total (finite.insert finite.empty (place_of 49) (one_row 98 49)) (place_of 51) (one_row 99 51) q
    ∙ ap (λ there. cond (same_place_as (place_of 51) q) (Some (one_row 99 51)) there)
    (get-insert nat_list_cmp_total finite.empty (place_of 49) (one_row 98 49) q
    ∙ ap (λ there. cond (same_place_as (place_of 49) q) (Some (one_row 98 49)) there) (get-empty (slice_cmp nat_cmp) q))

theirs_at : (q : List ℕ) → finite.get their_rows q ≡ cond (same_place_as (place_of 49) q) (Some (one_row 97 49)) None
theirs_at q =
    get-insert nat_list_cmp_total finite.empty (place_of 49) (one_row 97 49) q
    ∙ ap (λ there. cond (same_place_as (place_of 49) q) (Some (one_row 97 49)) there) (get-empty (slice_cmp nat_cmp) q)

same_elsewhere : (q : List ℕ) → IsNotAmong q (place_of 49 ∷ place_of 51 ∷ []) → finite.get our_rows q ≡ finite.get their_rows q
same_elsewhere q isnt =
    ours_at q
    ∙ ap (λ b. cond b (Some (one_row 99 51)) (cond (same_place_as (place_of 49) q) (Some (one_row 98 49)) None))
    (differ (place_of 51) q (λ e. isnt.1.0 (sym e)))
    ∙ ap (λ b. cond b (Some (one_row 98 49)) None) (differ (place_of 49) q (λ e. isnt.0 (sym e)))
    ∙ sym (theirs_at q ∙ ap (λ b. cond b (Some (one_row 97 49)) None) (differ (place_of 49) q (λ e. isnt.0 (sym e))))

-- the changes at both identities
abbrev both_changes : Option Row → Option Row → Option Row → Option Row → List Item
both_changes a b c d = keyed_changes k a b ++ (keyed_changes k c d ++ [])

changes_are : both_changes (finite.get their_rows (place_of 49)) (finite.get our_rows (place_of 49)) (finite.get their_rows (place_of 51))
    (finite.get our_rows (place_of 51))
    ≡ Update 16386 None (cells 97 49) ∷ Delete 16386 Key (Null ∷ Text (51 ∷ []) ∷ []) ∷ []
changes_are =
    ap (λ a. both_changes a (finite.get our_rows (place_of 49)) (finite.get their_rows (place_of 51)) (finite.get our_rows (place_of 51)))
    (theirs_at (place_of 49))
    ∙ ap (λ b. both_changes (Some (one_row 97 49)) b (finite.get their_rows (place_of 51)) (finite.get our_rows (place_of 51)))
    (ours_at (place_of 49))
    ∙ ap (λ c. both_changes (Some (one_row 97 49)) (Some (one_row 98 49)) c (finite.get our_rows (place_of 51))) (theirs_at (place_of 51))
    ∙ ap (λ d. both_changes (Some (one_row 97 49)) (Some (one_row 98 49)) None d) (ours_at (place_of 51))

-- ---- tables

at_table : (rows : Rows) (oid : ℕ)
    → finite.get (tables_with rows) oid ≡ cond (eqb oid 16386) (Some (record { definition = k; rows = rows })) None
at_table rows oid = put finite.empty 16386 (record { definition = k; rows = rows }) oid
    ∙ ap (λ there. cond (eqb oid 16386) (Some (record { definition = k; rows = rows })) there) (get-empty nat_cmp oid)

are_tables : (rows : Rows) → AreRows k rows → AreTables (tables_with rows)
are_tables rows are oid table there =
    elim (eqb oid 16386) as (λ b. eqb oid 16386 ≡ b
    → ◌≡◌ {A = Option Table} (cond b (Some (record { definition = k; rows = rows })) None) (Some table) → IsTable oid table) [
      | true ↦ λ yes e.
          let is : ◌≡◌ {A = Table} (record { definition = k; rows = rows }) table = same_some e in
          let at : 16386 ≡ oid = grind (arith, nat_tests) in
          subst (IsTable oid) is (record { same_oid = at; each = are })
      | false ↦ λ no e. absurd (cc)
    ] refl (sym (at_table rows oid) ∙ there)

is_mended : IsMended (tables_with our_rows) (tables_with their_rows)
    (record { definition = k; changes = Update 16386 None (cells 97 49) ∷ Delete 16386 Key (Null ∷ Text (51 ∷ []) ∷ []) ∷ [] })
is_mended = record {
  ours = our_rows;
  theirs = their_rows;
  found = subst (AreFound k our_rows) (sym (at_table our_rows 16386)) (refl, refl);
  wanted = at_table their_rows 16386;
  places = place_of 49 ∷ place_of 51 ∷ [];
  once = ((not_itself (place_of 51) (place_of 49) refl, tt), (tt, tt));
  others = same_elsewhere;
  changes = sym changes_are;
  some = λ e. cc;
  tells = inl refl;
  tuples = λ bag. absurd (cc);
}

no_other : (oid : ℕ) → is_among (16386 ∷ []) oid ≡ false → finite.get (tables_with our_rows) oid ≡ finite.get (tables_with their_rows) oid
no_other oid isnt =
    elim (eqb 16386 oid) as (λ b. eqb 16386 oid ≡ b → (b || false) ≡ false
    → finite.get (tables_with our_rows) oid ≡ finite.get (tables_with their_rows) oid) [
      | true ↦ λ yes e. absurd (cc)
      | false ↦ λ no _.
          let other : eqb oid 16386 ≡ false = grind (arith, nat_tests) in
          at_table our_rows oid ∙ ap (λ b. cond b (Some (record { definition = k; rows = our_rows })) None) other
          ∙ sym (at_table their_rows oid ∙ ap (λ b. cond b (Some (record { definition = k; rows = their_rows })) None) other)
    ] refl isnt

-- ---- histories

ours_given : AreTables (tables_with our_rows)
ours_given = are_tables our_rows are_ours

theirs_given : AreTables (tables_with their_rows)
theirs_given = are_tables their_rows are_theirs

around_given : (tables : Tables) → AreTables tables → IsAround 1000 (giving tables ∷ []) [] []
around_given tables are = record {
  history = (any_tables tables 1000 are (omega arith)).0;
  some = omega arith;
  stored = (omega arith, tt);
  seen = tt;
  unseen = tt;
}

pub is_example : IsExampleOfARepair
is_example = record {
  around = record {
    around = record { server = around_given (tables_with their_rows) theirs_given; copy = around_given (tables_with our_rows) ours_given };
    copy = tables_with our_rows;
    server = tables_with their_rows;
    ours = (any_tables (tables_with our_rows) 1000 ours_given (omega arith)).1;
    theirs = (any_tables (tables_with their_rows) 1000 theirs_given (omega arith)).1;
    differs = record { mended = record { once = (refl, tt); each = (is_mended, tt) }; others = no_other };
  };
  session = record {
    delivered = record { shaped = shaped Two [] tt; commits = (tt, (tt, tt)) };
    whole = tt;
    ends = refl;
    read = (tt, (tt, tt));
  };
}
