-- Tables that are made anew from what was read.
use Rattle.std.proofs.Common.{◌≡◌, ◌++◌, ℕ, List, [], ◌∷◌, Some, None, cond, refl, sym, ap, subst}
use Rattle.std.proofs.Common.{◌∙◌, append-nil, T, inl, arith}
use Rattle.std.specs.Ordering.{nat_cmp, eq_by_cmp}
use Rattle.std.specs.Cmp.{nat_cmp_total}
use Rattle.std.specs.FinMap as finite
use Rattle.std.specs.FinMap.{get-empty, get-insert, find, is_sorted}
use Rattle.std.specs.FinMap.Entries.{find-append}
use Rattle.sqlite.specs.Store.{Ghosts}
use Rattle.sqlite.specs.Held.{Held, state}
use Rattle.sqlite.specs.State.{HasCleanDisk}
use Rattle.pgtables.specs.Kept as stored
use Rattle.pgtables.specs.Kept.{Goes, GoesOn, Makes, IfServing, tables_in, tables_of}
use Rattle.pgtables.specs.Kept.{with_definition, with_place, no_tables}
use Rattle.pgtables.proofs.Inside.{goes_on_then}
use Rattle.pgadopt.specs.Adopted.{with_definitions}
use Rattle.pgadopt.proofs.Adopted.{none_before}

goes_none : {S : Type 0} (g : Ghosts S) (a : Held S) → Goes g a a
goes_none g a = record {
  keeps = λ clean. record { was_open = λ still. still; committed = λ still. refl };
  survives = record {
    clean = omega arith;
    shield = λ h. h;
    counts = omega arith;
    limit = refl;
    closes = λ clean h. inl h;
    crash = λ clean db h. inl h;
  };
}

abbrev Entries : Type 0
Entries = List (ℕ × stored.Definition)

-- ---- definitions that are put one after another

one_more : (es : Entries) (e : ℕ × stored.Definition) (t : stored.Tables)
    → with_definitions (es ++ e ∷ []) t ≡ with_definition e.0 e.1 (with_definitions es t)
one_more [] e t = refl
one_more (x ∷ es) e t = one_more es e (with_definition x.0 x.1 t)

grouped : (front : Entries) (e : ℕ × stored.Definition) (es : Entries) → (front ++ e ∷ []) ++ es ≡ front ++ e ∷ es
grouped [] e es = refl
grouped (x ∷ front) e es = ap (λ xs. x ∷ xs) (grouped front e es)

got_after : (front es : Entries) (t : stored.Tables) → T (is_sorted nat_cmp (front ++ es))
    → ((q : ℕ) → finite.get t.defined q ≡ find nat_cmp q front) → (q : ℕ)
    → finite.get (with_definitions es t).defined q ≡ find nat_cmp q (front ++ es)
got_after front [] t sorted has q = has q ∙ ap (find nat_cmp q) (sym (append-nil front))
got_after front (e ∷ es) t sorted has q =
    let together = grouped front e es in
    let rises : T (is_sorted nat_cmp ((front ++ e ∷ []) ++ es)) = subst (λ xs. T (is_sorted nat_cmp xs)) (sym together) sorted in
    got_after (front ++ e ∷ []) es (with_definition e.0 e.1 t) rises
    (λ q. get-insert nat_cmp_total t.defined e.0 e.1 q ∙ ap (cond (eq_by_cmp nat_cmp q e.0) (Some e.1)) (has q)
    ∙ sym (find-append nat_cmp nat_cmp_total front e.0 e.1 q (none_before front es e rises))) q
    ∙ ap (find nat_cmp q) together

-- definitions whose OIDs rise are all there
pub got_definitions : (es : Entries) → T (is_sorted nat_cmp es) → (q : ℕ)
    → finite.get (with_definitions es no_tables).defined q ≡ find nat_cmp q es
got_definitions es sorted = got_after [] es no_tables sorted (λ q. get-empty nat_cmp q)

rows_after : (es : Entries) (t : stored.Tables) → (with_definitions es t).rows ≡ t.rows
rows_after [] t = refl
rows_after (e ∷ es) t = rows_after es (with_definition e.0 e.1 t)

-- and no row
pub got_no_row : (es : Entries) (key : List ℕ) → finite.get (with_definitions es no_tables).rows key ≡ None
got_no_row es key = ap (λ rows. finite.get rows key) (rows_after es no_tables) ∙ get-empty _ key

module _ {S : Type 0} (g : Ghosts S) where
  pub none_put : (a : Held S) → IfServing g a (stored.IsUnderWay g a) → GoesOn g (with_definitions []) a a
  none_put a under = record {
    goes = goes_none g a;
    made = λ clean still.
        record { was_open = still; is_open = still; under_way = under clean still; made = refl };
  }

  pub one_put : (a b c : Held S) (es : Entries) (e : ℕ × stored.Definition) → GoesOn g (with_definitions es) a b
      → (HasCleanDisk (state g c) → Makes g (with_definition e.0 e.1) b c) → Goes g b c → GoesOn g (with_definitions (es ++ e ∷ [])) a c
  one_put a b c es e before made goes =
      subst (λ f. GoesOn g f a c) (λ i t. sym (one_more es e t) i)
      (goes_on_then g a b c (with_definitions es) (with_definition e.0 e.1) before made goes.keeps goes.survives)
