-- Files hold one database at most: the rows of sqlite_schema tell the shape of each tree.
use Rattle.std.proofs.Common.{◌≡◌, ◌+◌, ◌-◌, ◌*◌, ◌%◌, ◌<◌, ◌⊎◌, Bool, ℕ, List, [], ◌∷◌, Some, inl}
use Rattle.std.proofs.Common.{inr, map, length, get_or, codes, refl, sym, ap, ap₂, subst, subst₂}
use Rattle.std.proofs.Common.{◌∙◌, All, arith, pos, suc}
use Rattle.std.specs.Prelude.{find, ◌==◌}
use Rattle.sqlite_wal.specs.Recovery.{Image}
use Rattle.sqlite_pages.specs.PageMap.{PageMap}
use Rattle.sqlite_pool.specs.File.{in_use, version_in}
use Rattle.sqlite_pool.specs.Stored.{Recovers}
use Rattle.sqlite_pool.specs.StoredLaws.{recovers_once}
use Rattle.sqlite_value.specs.declared.value.Value.TheVariants.{Int, Text}
use Rattle.sqlite_value.specs.declared.value.Value.{Value}
use Rattle.sqlite_value.specs.Order.{Row, bytes, column}
use Rattle.sqlite_trees.specs.declared.store.Shape.{Shape}
use Rattle.sqlite_trees.specs.declared.store.Shape.TheVariants.{Absent, Table, Index, Pageless}
use Rattle.sqlite_trees.specs.declared.store.Shape.TheVariants.{FrozenTable, FrozenIndex}
use Rattle.sqlite_trees.specs.Objects.{number_in, shape_code, with_version}
use Rattle.sqlite_trees.specs.Tree.{Trees, order_of}
use Rattle.sqlite_trees.specs.View.{View}
use Rattle.sqlite_schema.specs.declared.schema.Schema.{Schema}
use Rattle.sqlite_schema.specs.declared.schema.Table.{Table as TableOf}
use Rattle.sqlite_schema.specs.Rules.{index_reals, table_reals}
use Rattle.sqlite_rules.proofs.ListLemmas.{all_has}
use Rattle.sqlite_catalog.specs.Listing.{unordered}
use Rattle.sqlite_catalog.specs.Reading.{AreRead, AreShaped, IsIndexShaped, IsTableShaped}
use Rattle.sqlite_catalog.specs.Reading.{IsViewShaped, coded_by}
use Rattle.sqlite_catalog.proofs.ReadLemmas.{read_once}
use Rattle.sqlite_store.specs.declared.catalog.Wanted.{Wanted}
use Rattle.sqlite_store.specs.Db.{rows_at}
use Rattle.sqlite_store.specs.Joined.{joined}
use Rattle.sqlite_store.specs.Listing.{file_trees, listed_from}
use Rattle.sqlite_store.specs.Roots.{has_index_root}
use Rattle.sqlite_store.proofs.AlikeLemmas.{same_file}
use Rattle.sqlite.specs.Opening.{HasTree, HoldsAt, IsListedIn, Meets, Suits, layout_of, shape_of}
use Rattle.sqlite.specs.Opening.{unrooted, unsorted}
use Rattle.sqlite.proofs.OpenLemmas.{meets}

same_map : {X Y : Type 0} (f h : X → Y) (xs : List X) → ((at : ℕ) (x : X) → at < length xs → f (get_or xs at x) ≡ h (get_or xs at x))
    → map f xs ≡ map h xs
same_map f h [] all = refl
same_map f h (x ∷ xs) all = ap₂ (λ a b. a ∷ b) (all 0 x (omega arith)) (same_map f h xs (λ at y low. all (suc at) y (omega arith)))

-- the types of rows differ in their second letters
second : {a b : Value} → a ≡ b → get_or (bytes a) 1 0 ≡ get_or (bytes b) 1 0
second = ap (λ v. get_or (bytes v) 1 0)

-- the type of a row, and what is said of its table, tell its shape
suits_once : (rows : List Row) (row : Row) (flag : Bool) (s t : Shape) → Suits rows row flag s → Suits rows row flag t → s ≡ t
suits_once rows row flag s t (inl a) (inl b) = a.1 ∙ sym b.1
suits_once rows row flag s t (inl a) (inr (inl b)) =
    absurd (elim a.0 [ inl k ↦ omega (arith, second (sym k ∙ b.0)) | inr k ↦ omega (arith, second (sym k ∙ b.0)) ])
suits_once rows row flag s t (inl a) (inr (inr b)) =
    absurd (elim a.0 [ inl k ↦ omega (arith, second (sym k ∙ b.0)) | inr k ↦ omega (arith, second (sym k ∙ b.0)) ])
suits_once rows row flag s t (inr (inl a)) (inl b) =
    absurd (elim b.0 [ inl k ↦ omega (arith, second (sym k ∙ a.0)) | inr k ↦ omega (arith, second (sym k ∙ a.0)) ])
suits_once rows row flag s t (inr (inr a)) (inl b) =
    absurd (elim b.0 [ inl k ↦ omega (arith, second (sym k ∙ a.0)) | inr k ↦ omega (arith, second (sym k ∙ a.0)) ])
suits_once rows row flag s t (inr (inl a)) (inr (inr b)) = absurd (omega (arith, second (sym a.0 ∙ b.0)))
suits_once rows row flag s t (inr (inr a)) (inr (inl b)) = absurd (omega (arith, second (sym a.0 ∙ b.0)))
suits_once rows row flag s t (inr (inl a)) (inr (inl b)) = elim a.1 [
  | inl own ↦ elim b.1 [ inl same ↦ own.1 ∙ sym same.1 | inr other ↦ absurd (other.0 own.0) ]
  | inr own ↦ elim b.1 [ inl other ↦ absurd (own.0 other.0) | inr same ↦ own.1 ∙ sym same.1 ]
]
suits_once rows row flag s t (inr (inr a)) (inr (inr b)) = elim a.1 [
  | inl own ↦ elim b.1 [ inl same ↦ own.1 ∙ sym same.1 | inr other ↦ absurd (other.0 own.0) ]
  | inr own ↦ elim b.1 [ inl other ↦ absurd (own.0 other.0) | inr same ↦ own.1 ∙ sym same.1 ]
]

-- its code doesn't need the order of an index
code_unsorted : (s : Shape) → unordered (shape_code (unsorted s)) ≡ unordered (shape_code s)
code_unsorted Absent = refl
code_unsorted Table = refl
code_unsorted (Index o) = let two : (2 + 8 * o.digits) % 8 ≡ 2 = omega arith in rw two refl
code_unsorted Pageless = refl
code_unsorted FrozenTable = refl
code_unsorted (FrozenIndex o) = refl

-- nor do shapes that have none differ in it
sorted_once : (s t : Shape) → unsorted s ≡ unsorted t → (order_of s).digits ≡ 0 → (order_of t).digits ≡ 0 → s ≡ t
sorted_once (Index o) (Index p) same a b = ap Index (λ i. record { digits = (a ∙ sym b) i })
sorted_once Absent Absent same a b = refl
sorted_once Table Table same a b = refl
sorted_once Pageless Pageless same a b = refl
sorted_once FrozenTable FrozenTable same a b = refl
sorted_once (FrozenIndex o) (FrozenIndex p) same a b = same
sorted_once _ _ same a b = absurd (cc)

module _ (s t : Schema) (wanted others : List Wanted) (rows : List Row) (roots : List Bool) (m : Meets s wanted rows roots)
    (n : Meets t others rows roots) where
  shaped : (at : ℕ) (row : Row) → at < length rows → shape_of m.shown (get_or rows at row) ≡ shape_of n.shown (get_or rows at row)
  shaped at row low = suits_once rows (get_or rows at row) _ _ _ (m.suit at row low) (n.suit at row low)

  coded : map (coded_by m.shown.shape) rows ≡ map (coded_by n.shown.shape) rows
  coded = same_map _ _ rows (λ at row low.
      let r = get_or rows at row in
      let code = sym (code_unsorted (layout_of m.shown r).0) ∙ ap (λ (s : Shape). unordered (shape_code s)) (shaped at row low)
      ∙ code_unsorted (layout_of n.shown r).0 in
      ap (λ (c : ℕ). column r 0 ∷ column r 1 ∷ column r 2 ∷ column r 3 ∷ column r 4 ∷ Int (pos c) ∷ []) code)

  one_schema : s ≡ t
  one_schema = read_once (map (coded_by m.shown.shape) rows) s t m.read.tables m.read.indexes m.read.views
      (subst (λ r. AreRead r t) (sym coded) n.read)

  knows : AreShaped n.shown s
  knows = subst (AreShaped n.shown) (sym one_schema) n.knows

  abbrev IsSameAt : ℕ → Type 0
  IsSameAt tree = (m.shown.shape tree ≡ n.shown.shape tree) × (m.shown.reals tree ≡ n.shown.reals tree)

  at_tree : (tree : ℕ) → IsListedIn s tree → unsorted (m.shown.shape tree) ≡ unsorted (n.shown.shape tree) → IsSameAt tree
  at_tree tree (inl (inl it)) same =
      let a = all_has (IsTableShaped m.shown) s.tables it.0 m.knows.tables it.1 in
      let b = all_has (IsTableShaped n.shown) s.tables it.0 knows.tables it.1 in
      subst IsSameAt it.2 (a.0 ∙ sym b.0, a.1 ∙ sym b.1)
  at_tree tree (inl (inr it)) same =
      let a = all_has (IsIndexShaped m.shown s.tables) s.indexes it.0 m.knows.indexes it.1 in
      let b = all_has (IsIndexShaped n.shown s.tables) s.indexes it.0 knows.indexes it.1 in
      let found = sym a.1.1 ∙ b.1.1 in
      let owner : a.1.0 ≡ b.1.0 = cc in
      subst IsSameAt it.2 (a.0 ∙ sym b.0, a.1.2 ∙ ap (λ (t : TableOf). index_reals (table_reals t) it.0.columns) owner ∙ sym b.1.2)
  at_tree tree (inr it) same =
      let a = all_has (IsViewShaped m.shown) s.views it.0 m.knows.views it.1 in
      let b = all_has (IsViewShaped n.shown) s.views it.0 knows.views it.1 in
      let here = subst (λ t. unsorted (m.shown.shape t) ≡ unsorted (n.shown.shape t)) (sym it.2) same in
      subst IsSameAt it.2 (sorted_once _ _ here a.1 b.1, a.0 ∙ sym b.0)

  laid : map (layout_of m.shown) rows ≡ map (layout_of n.shown) rows
  laid = same_map _ _ rows (λ at row low.
      let it = m.named at row low in
      let tree : number_in (column (get_or rows at row) 0) - 1 ≡ it.0 = omega (arith, ap number_in it.2) in
      let same = subst (λ t. unsorted (m.shown.shape t) ≡ unsorted (n.shown.shape t)) tree (shaped at row low) in
      let both = subst IsSameAt (sym tree) (at_tree it.0 it.3 same) in
      ap₂ (λ (a : Shape) (b : ℕ). (a, b)) both.0 both.1)

  pub one_listing : listed_from 0 others ≡ listed_from 0 wanted
  one_listing = sym n.whole ∙ ap (joined rows) (sym laid) ∙ m.whole

pub one_database : (size : ℕ) (content : Image) (a b : Trees) → HoldsAt size content a → HoldsAt size content b → a ≡ b
one_database size content a b p q =
    let pages : q.pages ≡ p.pages = recovers_once size content q.pages p.pages q.found p.found in
    let rows = λ (m : PageMap). map unrooted (rows_at size (in_use size m) Table 1) in
    let roots = λ (m : PageMap). map (has_index_root (in_use size m)) (rows_at size (in_use size m) Table 1) in
    let other = subst (λ m. Meets q.schema q.wanted (rows m) (roots m)) pages (meets q) in
    let same = (same_file size p.wanted q.wanted p.pages
    (one_listing p.schema q.schema p.wanted q.wanted (rows p.pages) (roots p.pages) (meets p) other) p.ours).1 in
    p.reads ∙ ap (λ t. with_version t (version_in p.pages)) (sym same) ∙ sym (q.reads ∙ ap (file_trees size q.wanted) pages)
