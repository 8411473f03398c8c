-- A dump gives rows in the order of the index, and what was given is a front of it.
use Rattle.std.proofs.Common.{◌≡◌, inl, ℕ, ℤ, pos, Bool, true, false, true≢false, filter, slice_get}
use Rattle.std.proofs.Common.{unwrap_or, List, [], ◌∷◌, ◌++◌, map, Option, Some, None, refl, sym}
use Rattle.std.proofs.Common.{ap, subst, ◌∙◌}
use Rattle.std.proofs.lemmas.List.{append_assoc, append-nil, map-append}
use Rattle.std.specs.FinMap.{get}
use Rattle.sqlite_value.specs.declared.value.Value.TheVariants.{Int, Text, Blob}
use Rattle.sqlite_value.specs.Order.{Row, column}
use Rattle.sqlite_value.specs.Keys.{plain}
use Rattle.sqlite_trees.specs.declared.store.Direction.TheVariants.{Forward}
use Rattle.sqlite_trees.specs.Tree.{Trees, from_key, has_rowid, order_of, rowid, sought}
use Rattle.sqlite_trees.specs.Objects.{catalog_tree, IsListed}
use Rattle.sqlite_trees.specs.View.{View, Advances, Finds, IsOrdered, with_cursor}
use Rattle.sqlite_exec.specs.Calls.{OnlyReads}
use Rattle.sqlite_exec.proofs.CheckLemmas.{from_no_key}
use Rattle.sqlite_rules.specs.Lists.{Has}
use Rattle.sqlite_rules.proofs.ListLemmas.{has_filtered, has_right}
use Rattle.sqlite_rules.specs.Edit.{id_in}
use Rattle.pgtables.specs.Kept.{AreDefined, Definition, copies_in, number_in, tables_in}
use Rattle.pgtables.specs.DumpOrder.{dump_of, no_definition}
use Rattle.pgrows.specs.Rows.{IsGood}
use Rattle.pgrows.specs.Dump.{Defines, DefinesKnown, GivesAll, GivesFront, row_at, shown_by}
use Rattle.pgrows.proofs.SetUp.{index_shape, indexed, entries_rise}
use Rattle.pgrows.proofs.Seek.{entry}
use Rattle.pgrows.proofs.Defined.{looked_up}
use Rattle.pgrows.proofs.Ordered.{dumped, entry_row}

-- some entries were given, and the cursor stands behind them
pub record IsGiving {K : Type 0} (start now : View) (old new : K → List Row → Type 0) (definition : Row) (known : Option ℤ) : Type 0 where
  pub done : List Row
  pub left : List Row
  pub split : start.trees 2 ≡ done ++ left
  pub at : now.cursors 0 ≡ Some left
  pub same : OnlyReads start now
  pub taken : (k : K) (before : List Row) → old k before → new k (before ++ map (shown_by start.trees) done)
  pub defines : DefinesKnown start.trees definition known

module _ {start : View} (good : IsGood start) (listed : IsListed (start.trees catalog_tree) start.shape start.reals)
    (ordered : IsOrdered start.shape start.trees) {K : Type 0} (old : K → List Row → Type 0) where
  all_is : map (shown_by start.trees) (start.trees 2) ≡ dump_of (tables_in start.trees)
  all_is = dumped start.trees good.kept.held (indexed good listed ordered) (entries_rise good listed ordered)

  pub begins : (now : View) (key definition : Row) → key ≡ []
      → now ≡ with_cursor start 0 (sought (order_of (start.shape 2)) Forward key (start.trees 2))
      → IsGiving start now old old definition None
  begins now key definition key_is placed = record {
    done = [];
    left = start.trees 2;
    split = refl;
    at = ap (λ (v : View). v.cursors 0) placed
        ∙ ap (λ s. Some (from_key (order_of s) key (start.trees 2))) (index_shape good listed ordered)
        ∙ ap (λ k. Some (from_key plain k (start.trees 2))) key_is ∙ ap Some (from_no_key plain (start.trees 2));
    same = placed ∙ (λ i. record start { cursors = (sym placed i).cursors });
    taken = λ k before h. subst (old k) (sym (append-nil before)) h;
    defines = tt;
  }

  module _ (now : View) (new : K → List Row → Type 0) (definition : Row) (known : Option ℤ)
      (g : IsGiving start now old new definition known) where
    pub front : (k : K) → GivesFront (tables_in start.trees) (old k) (new k)
    front k = (
      map (shown_by start.trees) g.done,
      map (shown_by start.trees) g.left,
      sym all_is ∙ ap (map (shown_by start.trees)) g.split ∙ map-append (shown_by start.trees) g.done g.left,
      g.taken k,
    )

    pub ended : (next : View) (row : Row) → Advances now next 0 row false → (k : K) → GivesAll (tables_in start.trees) (old k) (new k)
    ended next row h k before h0 =
        let none : Some g.left ≡ Some [] = sym g.at ∙ h.0 in
        let left : g.left ≡ [] = cc in
        let all : start.trees 2 ≡ g.done = g.split ∙ ap (λ l. g.done ++ l) left ∙ append-nil g.done in
        subst (new k) (ap (λ l. before ++ map (shown_by start.trees) l) (sym all) ∙ ap (λ l. before ++ l) all_is) (g.taken k before h0)

    module _ (next : View) (row : Row) (h : Advances now next 0 row true) where
      left_is : g.left ≡ row ∷ h.0
      left_is = let both : Some g.left ≡ Some (row ∷ h.0) = sym g.at ∙ h.1 in cc

      split_is : start.trees 2 ≡ g.done ++ row ∷ h.0
      split_is = g.split ∙ ap (λ l. g.done ++ l) left_is

      pub entry_in : Has (start.trees 2) row
      entry_in = subst (λ l. Has l row) (sym split_is) (has_right g.done (row ∷ h.0) row (inl refl))

      pub reads_next : OnlyReads start next
      reads_next = h.2 ∙ (λ i. record (g.same i) { cursors = (with_cursor now 0 h.0).cursors })
          ∙ (λ i. record start { cursors = (sym h.2 i).cursors })

      -- the row is one of the dump
      pub shown_in : Has (dump_of (tables_in start.trees)) (shown_by start.trees row)
      shown_in = subst (λ l. Has l (shown_by start.trees row))
          (sym (map-append (shown_by start.trees) g.done (row ∷ h.0)) ∙ sym (ap (map (shown_by start.trees)) split_is) ∙ all_is)
          (has_right (map (shown_by start.trees) g.done) (map (shown_by start.trees) (row ∷ h.0)) (shown_by start.trees row) (inl refl))

      pub given_one : (next_new : K → List Row → Type 0) (shown next_definition : Row) (oid : ℤ) → shown ≡ shown_by start.trees row
          → Defines start.trees next_definition oid
          → ((k : K) (rows : List Row) → new k rows → next_new k (rows ++ shown ∷ []))
          → IsGiving start next old next_new next_definition (Some oid)
      given_one next_new shown next_definition oid shown_is defines more = record {
        done = g.done ++ row ∷ [];
        left = h.0;
        split = split_is ∙ sym (append_assoc g.done (row ∷ []) h.0);
        at = ap (λ (v : View). v.cursors 0) h.2;
        same = reads_next;
        taken = λ k before h0. subst (next_new k) (append_assoc before (map (shown_by start.trees) g.done) (shown ∷ [])
            ∙ ap (λ l. before ++ l) (ap (λ s. map (shown_by start.trees) g.done ++ s ∷ []) shown_is
            ∙ sym (map-append (shown_by start.trees) g.done (row ∷ [])))) (more k _ (g.taken k before h0));
        defines = defines;
      }

-- ---- one row

pub defines_from : (db : Trees) → AreDefined (db 0) → (n : ℤ) → ((o : ℕ) × (n ≡ pos o)) → (row : Row) (found : Bool)
    → Finds (db 0) n row found → found ≡ true → Defines db row n
defines_from db are n number row true finds is =
    let it = looked_up (db 0) are number.0 row true (subst (λ k. Finds (db 0) k row true) number.1 finds) in
    (number.0, it.0, number.1, it.1, it.2)
defines_from db are n number row false finds is = absurd (true≢false (sym is))

module _ {v : View} (good : IsGood v) (listed : IsListed (v.trees catalog_tree) v.shape v.reals) (ordered : IsOrdered v.shape v.trees)
    (e : Row) (has : Has (v.trees 2) e) where
  row_of : (r : Row) × Has (v.trees 1) r × (e ≡ entry r)
  row_of = entry_row v.trees good.kept.held (indexed good listed ordered) (entries_rise good listed ordered) e has

  oid_is : column e 0 ≡ Int (pos (number_in (column row_of.0 1)))
  oid_is = ap (λ x. column x 0) row_of.2 ∙ ap (λ x. column x 1) (good.kept.held.formed row_of.0 row_of.1)

  id_is : column e 2 ≡ Int (id_in (rowid row_of.0))
  id_is = ap (λ x. column x 2) row_of.2 ∙ ap rowid (good.kept.held.formed row_of.0 row_of.1)

  pub numbered : (n : ℤ) → ((m : ℤ) → column e 0 ≡ Int m → n ≡ m) → (o : ℕ) × (n ≡ pos o)
  numbered n is = (number_in (column row_of.0 1), is (pos (number_in (column row_of.0 1))) oid_is)

  shown_is : (definition row : Row) (n id : ℤ) → Defines v.trees definition n → column e 0 ≡ Int n → column e 2 ≡ Int id
      → Finds (v.trees 1) id row true
      → column definition 0 ∷ column definition 2 ∷ column definition 3 ∷ column row 3 ∷ column row 4 ∷ [] ≡ shown_by v.trees e
  shown_is definition row n id D at_oid at_id finds =
      let t = tables_in v.trees in
      let here = has_filtered (has_rowid id) (v.trees 1) row (subst (λ l. Has l row) (sym finds) (inl refl)) in
      let formed = good.kept.held.formed row here.0 in
      let oid : number_in (column e 0) ≡ D.0 = ap number_in (at_oid ∙ ap Int D.2) in
      let row_is : row_at (v.trees 1) e ≡ row =
      ap (λ k. unwrap_or (slice_get (filter (has_rowid (id_in k)) (v.trees 1)) 0) []) at_id
      ∙ ap (λ (l : List Row). unwrap_or (slice_get l 0) []) finds in
      let d_is : unwrap_or (get t.defined (number_in (column e 0))) no_definition ≡ D.1 =
      ap (λ k. unwrap_or (get t.defined k) no_definition) oid ∙ ap (λ o. unwrap_or o no_definition) D.3 in
      let a : column definition 0 ≡ Int (pos (number_in (column e 0))) = ap (λ r. column r 0) D.4 ∙ ap (λ k. Int (pos k)) (sym oid) in
      let b : column definition 2 ≡ Text (unwrap_or (get t.defined (number_in (column e 0))) no_definition).namespace =
      ap (λ r. column r 2) D.4 ∙ ap (λ (x : Definition). Text x.namespace) (sym d_is) in
      let c : column definition 3 ≡ Text (unwrap_or (get t.defined (number_in (column e 0))) no_definition).name =
      ap (λ r. column r 3) D.4 ∙ ap (λ (x : Definition). Text x.name) (sym d_is) in
      let p : column row 3 ≡ Blob (copies_in (row_at (v.trees 1) e)).body =
      ap (λ r. column r 3) formed ∙ ap (λ r. Blob (copies_in r).body) (sym row_is) in
      let q : column row 4 ≡ Int (pos (copies_in (row_at (v.trees 1) e)).copies) =
      ap (λ r. column r 4) formed ∙ ap (λ r. Int (pos (copies_in r).copies)) (sym row_is) in
      λ i. a i ∷ b i ∷ c i ∷ p i ∷ q i ∷ []

  pub shown_read : (definition row : Row) (n id : ℤ) → Defines v.trees definition n → ((m : ℤ) → column e 0 ≡ Int m → n ≡ m)
      → ((m : ℤ) → column e 2 ≡ Int m → id ≡ m) → Finds (v.trees 1) id row true
      → column definition 0 ∷ column definition 2 ∷ column definition 3 ∷ column row 3 ∷ column row 4 ∷ [] ≡ shown_by v.trees e
  shown_read definition row n id D at_oid at_id finds =
      shown_is definition row n id D (oid_is ∙ ap Int (sym (at_oid (pos (number_in (column row_of.0 1))) oid_is)))
      (id_is ∙ ap Int (sym (at_id (id_in (rowid row_of.0)) id_is))) finds
