-- What a run left of a store may be trusted: trees that are found in its files, and that list a
-- store's tables, are the database that they hold.
use Rattle.std.proofs.Common.{◌≡◌, ◌+◌, ◌-◌, ◌*◌, ◌<◌, ◌≤◌, ◌++◌, ◌∷◌, ◌∙◌, Bool, ℕ, List, [], Some}
use Rattle.std.proofs.Common.{Option, inl, inr, map, length, take, min, refl, sym, ap, ap₂, subst}
use Rattle.std.proofs.Common.{arith, pos, zero, suc, true, false, cond, eqb, unwrap_or, slice_index}
use Rattle.std.proofs.Common.{get_or, get_or-take, le-ltb, zero-add}
use Rattle.std.proofs.Math.Logic.{∥∥₁_map}
use Rattle.std.proofs.lemmas.Bool.{cases_lt}
use Rattle.std.proofs.lemmas.List.{length-take}
use Rattle.sqlite_disk.specs.declared.Disk as disk
use Rattle.sqlite_wal.specs.Format.{part, be32}
use Rattle.sqlite_wal.specs.Recovery.{Image, IsIgnored, Recovers, pages_after}
use Rattle.sqlite_wal.specs.PageSize.{size_in_file}
use Rattle.sqlite_wal.proofs.PartLemmas.{slice_index-part, part_within}
use Rattle.sqlite_wal.proofs.RecoveryLemmas.{recovers_once, replays_once}
use Rattle.sqlite_wal.proofs.AppendLemmas.{some_value, page_from_pages}
use Rattle.sqlite_pages.specs.PageMap.{PageMap}
use Rattle.sqlite_pool.specs.File.{IsSoundFile, header_in, in_use, version_in}
use Rattle.sqlite_pool.specs.Stored.{Adopts, reserved, stored_size, trimmed}
use Rattle.sqlite_pool.specs.StoredLaws.{trimmed_some}
use Rattle.sqlite_pool.proofs.ProbeLemmas.{reserved_word}
use Rattle.sqlite_value.specs.declared.value.Value.TheVariants.{Int}
use Rattle.sqlite_value.specs.Order.{Row, bytes, column}
use Rattle.sqlite_trees.specs.declared.store.Shape.{Shape}
use Rattle.sqlite_trees.specs.declared.store.Shape.TheVariants.{Absent, Table, Index, Pageless}
use Rattle.sqlite_trees.specs.declared.store.Shape.TheVariants.{FrozenTable, FrozenIndex}
use Rattle.sqlite_trees.specs.Objects.{catalog_tree, listing, number_in, with_version}
use Rattle.sqlite_trees.specs.Tree.{Trees}
use Rattle.sqlite_rules.specs.Lists.{Has}
use Rattle.sqlite_rules.proofs.ListLemmas.{has_kept}
use Rattle.sqlite_schema.specs.declared.schema.Table.{Table as TableOf}
use Rattle.sqlite_schema.specs.declared.schema.Index.{Index as IndexOf}
use Rattle.sqlite_schema.specs.Rules.{index_reals, table_reals}
use Rattle.sqlite_catalog.specs.Listing.{IsIndexRow, IsTableRow, IsViewRow, Lists, is_index_row}
use Rattle.sqlite_catalog.specs.Listing.{is_table_row, is_view_row}
use Rattle.sqlite_catalog.proofs.LayoutLemmas.{row_kind, zipped_right}
use Rattle.sqlite_store.specs.declared.catalog.Wanted.{Wanted}
use Rattle.sqlite_store.specs.Db.{roots_of, rows_at}
use Rattle.sqlite_store.specs.Exact.{AreRootsFor, entries_of}
use Rattle.sqlite_store.specs.Listed.{catalog_rows}
use Rattle.sqlite_store.specs.Listing.{IsOurs, file_trees, listed, listed_from}
use Rattle.sqlite_store.proofs.AlikeLemmas.{same_file}
use Rattle.sqlite_store.proofs.ExactLemmas.{roots_fit}
use Rattle.sqlite_store.proofs.StoreLemmas.{trees_from}
use Rattle.sqlite.specs.Files.{AreFoundIn, HoldsDatabase, over_files}
use Rattle.sqlite.specs.Opening.{unrooted}
use Rattle.sqlite.proofs.FileLemmas.{is_something}
use Rattle.pgtables.specs.Schema.{store_schema}
use Rattle.pgrows.specs.Rows as rows
use Rattle.pgapply.specs.Stored.{Stored}
use Rattle.pgencoded.specs.DatabaseValue.{AreOf}
use Rattle.pgstore.specs.Reopened.{ClosedIsAsLeft, CrashIsAsLeft, IsAsLeft}
use Rattle.pgstore.proofs.Reopened.{still_held}

-- ---- the size of the pages

past_end : (b : List ℕ) (k : ℕ) → length b ≤ k → slice_index b k ≡ 0
past_end [] k short = refl
past_end (x ∷ b) zero short = absurd (omega arith)
past_end (x ∷ b) (suc k) short = past_end b k (omega arith)

module _ (size : ℕ) (image : Image) (pages : PageMap) (found : Adopts size image pages) (sound : IsSoundFile size pages) where
  first : (page : List ℕ) × (found.stored 1 ≡ Some page)
  first = some_value (found.stored 1) found.whole.first

  header_is : header_in pages ≡ take 100 (take size first.0)
  header_is =
      let used : pages 1 ≡ Some (take size first.0) = ap (λ (p : PageMap). p 1) (sym found.shows) ∙ trimmed_some size _ 1 first.0 first.1 in
      ap (λ (o : Option (List ℕ)). take 100 (unwrap_or o [])) used

  header_length : length (header_in pages) ≡ min 100 (min size (length first.0))
  header_length = ap length header_is ∙ length-take 100 (take size first.0) ∙ ap (min 100) (length-take size first.0)

  -- the magic needs 16 bytes, and the size two more
  large : 18 ≤ size
  large =
      let long : min 16 (length (header_in pages)) ≡ 16 =
      sym (length-take 16 (header_in pages)) ∙ ap length sound.header.0.magic in
      let named = sound.header.0.size in
      elim (cases_lt size 18) [
        | inr enough ↦ enough
        | inl few ↦
            let none : slice_index (header_in pages) 17 ≡ 0 = past_end (header_in pages) 17 (omega (arith, header_length)) in
            let high = slice_index (header_in pages) 16 in
            absurd (short size high (omega (arith, long, header_length)) few
            (ap (λ n. cond (eqb (high * 256 + n) 1) 65536 (high * 256 + n)) (sym none) ∙ named))
      ]
    where
      short : (n x : ℕ) → 16 ≤ n → n < 18 → cond (eqb (x * 256 + 0) 1) 65536 (x * 256 + 0) ≡ stored_size n → ⊥
      short n x low high is = grind arith

  -- with no frame to replay, the header is that of the database file
  named_by_file : IsIgnored image.log → size_in_file image.db ≡ stored_size size
  named_by_file ignored =
      let whole = stored_size size in
      let raw = found.found in
      let none : raw.frames ≡ 0 = replays_once whole image.log raw.frames 0 raw.replays (inl (ignored, refl)) in
      let alone : pages_after whole image.log image.db 0 1 ≡ Some first.0 =
      ap (λ (p : PageMap). p 1) (ap (pages_after whole image.log image.db) (sym none) ∙ raw.gives) ∙ first.1 in
      let start : (1 - 1) * whole ≡ 0 = omega arith in
      let front : part image.db 0 whole ≡ first.0 =
      ap (λ (at : ℕ). part image.db at whole) (sym start) ∙ (page_from_pages whole image.log image.db 0 1 first.0 alone).0 in
      let enough = large in
      let long = part_within image.db 0 whole (omega arith) (ap length front ∙ found.whole.sized 1 first.0 first.1) in
      let byte = λ (k : ℕ) (low : k < 18).
      ap (λ (b : List ℕ). slice_index b k) (header_is ∙ ap (λ (b : List ℕ). take 100 (take size b)) (sym front))
      ∙ get_or-take 100 (take size (part image.db 0 whole)) k 0 (omega arith) ∙ get_or-take size (part image.db 0 whole) k 0 (omega arith)
      ∙ slice_index-part image.db 0 whole k (omega arith) ∙ ap (slice_index image.db) (zero-add k) in
      let named = ap₂ (λ (a b : ℕ). a * 256 + b) (byte 16 (omega arith)) (byte 17 (omega arith)) in
      rw (le-ltb (length image.db) 18 (omega arith)) (ap (λ (n : ℕ). cond (eqb n 1) 65536 n) (sym named) ∙ sound.header.0.size)

module _ (image : Image) (m n : ℕ) (p q : PageMap) (a : Adopts m image p) (b : Adopts n image q) (one : IsSoundFile m p)
    (two : IsSoundFile n q) where
  by_file : IsIgnored image.log → stored_size m ≡ stored_size n
  by_file ignored = sym (named_by_file m image p a one ignored) ∙ named_by_file n image q b two ignored

  stored_alike : stored_size m ≡ stored_size n
  stored_alike = elim a.found.replays [
    | inl ignored ↦ by_file ignored.0
    | inr here ↦ elim b.found.replays [
      | inl ignored ↦ by_file ignored.0
      | inr there ↦ sym here.0.head.size ∙ there.0.head.size
    ]
  ]

  pub same_size : 512 ≤ stored_size m → m ≡ n
  same_size big =
      let alike = stored_alike in
      let few : reserved m ≤ 8 = grind arith in
      let little : reserved n ≤ 8 = grind arith in
      let here = reserved_word m image p a (omega arith) one in
      let there = reserved_word n image q b (omega (arith, alike)) two in
      let pages = recovers_once (stored_size n) image a.stored b.stored
      (subst (λ w. Recovers w image a.stored) alike a.found) b.found in
      let page : Some here.0 ≡ Some there.0 = sym here.1 ∙ ap (λ (s : PageMap). s 1) pages ∙ there.1 in
      let word = ap (λ (o : Option (List ℕ)). be32 (unwrap_or o []) 20) page in
      omega (arith, alike, word, here.3, there.3)

-- ---- the list of the trees

-- A store's list has tables and indexes alone, which the second letters of their types tell apart.
abbrev is_table : Row → Bool
is_table row = eqb (get_or (bytes (column row 1)) 1 0) 97

-- a row of the list by its first five columns
abbrev completed : Row → Row
completed row = row ++ Int (pos (cond (is_table row) 1 2)) ∷ Int (pos 0) ∷ []

-- the rows of sqlite_schema have the first five columns of the list
unrooted_entries : (from : ℕ) (schema : List Wanted) (roots : List ℕ) → AreRootsFor schema roots
    → map unrooted (entries_of (from + 1) schema roots) ≡ map (take 5) (listed_from from schema)
unrooted_entries from [] [] fit = refl
unrooted_entries from [] (r ∷ roots) fit = absurd fit
unrooted_entries from (w ∷ schema) [] fit = absurd fit
unrooted_entries from (w ∷ schema) (r ∷ roots) fit = go w.shape refl (unrooted_entries (from + 1) schema roots fit.2)
  where
    go : (shape : Shape) → w.shape ≡ shape
        → map unrooted (entries_of (from + 1 + 1) schema roots) ≡ map (take 5) (listed_from (from + 1) schema)
        → map unrooted (entries_of (from + 1) (w ∷ schema) (r ∷ roots)) ≡ map (take 5) (listed_from from (w ∷ schema))
    go Absent is rest = rw is rest
    go Table is rest = rw (is, rest)
    go (Index o) is rest = rw (is, rest)
    go Pageless is rest = rw (is, rest)
    go FrozenTable is rest = rw (is, rest)
    go (FrozenIndex o) is rest = rw (is, rest)

-- the code of a row's shape, and no REAL column
abbrev IsCoded : Row → Type 0
IsCoded row = (number_in (column row 5) ≡ cond (is_table row) 1 2) × (number_in (column row 6) ≡ 0)

table_is_plain : (t : TableOf) → Has store_schema.tables t → table_reals t ≡ 0
table_is_plain t (inl is) = ap table_reals is
table_is_plain t (inr (inl is)) = ap table_reals is
table_is_plain t (inr (inr (inl is))) = ap table_reals is
table_is_plain t (inr (inr (inr none))) = absurd none

index_is_plain : (i : IndexOf) (reals : ℕ) → Has store_schema.indexes i → reals ≡ 0
    → (2 + 8 * i.order.digits ≡ 2) × (index_reals reals i.columns ≡ 0)
index_is_plain i reals (inl is) none =
    (ap (λ (x : IndexOf). 2 + 8 * x.order.digits) is, ap₂ (λ (x : IndexOf) (n : ℕ). index_reals n x.columns) is none)
index_is_plain i reals (inr none) is = absurd none

-- each row of a list of a store's tables is coded so
all_coded : (rows : List Row) → Lists rows store_schema → (row : Row) → Has rows row → IsCoded row
all_coded rows lists row has = elim (row_kind row) [
  | inl table ↦
      let r = zipped_right IsTableRow _ store_schema.tables row lists.listed.tables (has_kept is_table_row rows row has table) in
      let d = r.2.described in
      let kind : is_table row ≡ true = ap (λ v. eqb (get_or (bytes v) 1 0) 97) d.kind_is in
      (rw kind d.shape_is, d.reals_are ∙ table_is_plain r.0 r.1)
  | inr (inl index) ↦
      let r = zipped_right (IsIndexRow store_schema.tables) _ store_schema.indexes row lists.listed.indexes
      (has_kept is_index_row rows row has index) in
      let d = r.2.described in
      let kind : is_table row ≡ false = ap (λ v. eqb (get_or (bytes v) 1 0) 97) d.kind_is in
      let plain = index_is_plain r.0 (table_reals r.2.table) r.1 (table_is_plain r.2.table r.2.listed) in
      (rw kind (d.shape_is ∙ plain.0), d.reals_are ∙ plain.1)
  | inr (inr view) ↦
      let r = zipped_right IsViewRow _ store_schema.views row lists.listed.views (has_kept is_view_row rows row has view) in absurd r.1
]

-- a row of the list ends with two numbers
abbrev IsListing : Row → Type 0
IsListing row = IsCoded row → completed (take 5 row) ≡ row

listing_ends : (tree : ℕ) (described : Row) (shape : Shape) (reals : ℕ) → IsListing (listing tree described shape reals)
listing_ends tree described shape reals coded =
    ap₂ (λ (c r : ℕ). Int (pos (tree + 1)) ∷ column described 0 ∷ column described 1 ∷ column described 2 ∷ column described 3
    ∷ Int (pos c) ∷ Int (pos r) ∷ []) (sym coded.0) (sym coded.1)

listed_ends : (from : ℕ) (schema : List Wanted) (row : Row) → Has (listed_from from schema) row → IsListing row
listed_ends from [] row has = absurd has
listed_ends from (w ∷ schema) row has = go w.shape has (listed_ends (from + 1) schema row)
  where
    here : (shape : Shape) → row ≡ listing from w.row shape w.reals → IsListing row
    here shape is = subst IsListing (sym is) (listing_ends from w.row shape w.reals)

    go : (shape : Shape) → Has (listed from w shape ++ listed_from (from + 1) schema) row
        → (Has (listed_from (from + 1) schema) row → IsListing row) → IsListing row
    go Absent has rest = rest has
    go Table (inl is) rest = here Table is
    go Table (inr has) rest = rest has
    go (Index o) (inl is) rest = here (Index o) is
    go (Index o) (inr has) rest = rest has
    go Pageless (inl is) rest = here Pageless is
    go Pageless (inr has) rest = rest has
    go FrozenTable (inl is) rest = here FrozenTable is
    go FrozenTable (inr has) rest = rest has
    go (FrozenIndex o) (inl is) rest = here (FrozenIndex o) is
    go (FrozenIndex o) (inr has) rest = rest has

all_completed : (rows : List Row) → ((row : Row) → Has rows row → completed (take 5 row) ≡ row) → map completed (map (take 5) rows) ≡ rows
all_completed [] each = refl
all_completed (row ∷ rows) each = ap₂ (λ a b. a ∷ b) (each row (inl refl)) (all_completed rows (λ other has. each other (inr has)))

whole_list : (schema : List Wanted) → Lists (listed_from 0 schema) store_schema
    → map completed (map (take 5) (listed_from 0 schema)) ≡ listed_from 0 schema
whole_list schema lists =
    all_completed (listed_from 0 schema) (λ row has. listed_ends 0 schema row has (all_coded (listed_from 0 schema) lists row has))

-- ---- one database

entries_are : (size : ℕ) (schema : List Wanted) (pages : PageMap) → IsOurs size true schema pages
    → map unrooted (rows_at size (in_use size pages) Table 1) ≡ map (take 5) (listed_from 0 schema)
unfolding roots_of
entries_are size schema pages ours =
    let used = in_use size pages in
    ap (map unrooted) (ours.numbered refl).listed ∙ unrooted_entries 0 schema (roots_of size schema used) (roots_fit _ schema)

same_list : (size : ℕ) (schema others : List Wanted) (pages : PageMap) → IsOurs size true schema pages → IsOurs size true others pages
    → Lists (listed_from 0 schema) store_schema → Lists (listed_from 0 others) store_schema
    → listed_from 0 others ≡ listed_from 0 schema
same_list size schema others pages ours theirs one two =
    sym (whole_list others two) ∙ ap (map completed) (sym (entries_are size others pages theirs) ∙ entries_are size schema pages ours)
    ∙ whole_list schema one

lists_of : (size : ℕ) (schema : List Wanted) (pages : PageMap) (db : Trees) → db ≡ file_trees size schema pages
    → Lists (db catalog_tree) store_schema
    → Lists (listed_from 0 schema) store_schema
lists_of size schema pages db reads =
    subst (λ rows. Lists rows store_schema) (ap (λ (d : Trees). d catalog_tree) reads ∙ catalog_rows size schema (in_use size pages))

same_trees : (size : ℕ) (schema others : List Wanted) (p q : PageMap) (db found : Trees) → q ≡ p → IsOurs size true schema p
    → IsOurs size true others q
    → db ≡ file_trees size schema p → found ≡ file_trees size others q → Lists (db catalog_tree) store_schema
    → Lists (found catalog_tree) store_schema
    → found ≡ db
same_trees size schema others p q db found pages ours theirs reads read one two =
    let list = same_list size schema others p ours (subst (IsOurs size true others) pages theirs) (lists_of size schema p db reads one)
    (lists_of size others q found read two) in
    let same = (same_file size schema others p list ours).1 in
    read ∙ ap (file_trees size others) pages ∙ ap (λ t. with_version t (version_in p)) same ∙ sym reads

found_is_held : (content : Image) (db found : Trees) → HoldsDatabase content db → Lists (db catalog_tree) store_schema
    → AreFoundIn content found → Lists (found catalog_tree) store_schema
    → found ≡ db
found_is_held content db found held one (inr none) two = absurd (is_something content db held none.0)
found_is_held content db found held one (inl it) two = trees_from found db it.4 (λ theirs.
    let a = held.2 in
    let size : it.0 ≡ held.0 = sym (same_size content held.0 it.0 a.pages it.1 a.found it.3 a.ours.file.sound theirs.file.sound held.1.0) in
    let b = subst (λ n. Adopts n content it.1) size it.3 in
    let pages : it.1 ≡ a.pages =
    sym b.shows ∙ ap (trimmed held.0) (recovers_once (stored_size held.0) content b.stored a.found.stored b.found a.found.found)
    ∙ a.found.shows in
    same_trees held.0 a.wanted it.2 a.pages it.1 db found pages a.ours (subst (λ n. IsOurs n true it.2 it.1) size theirs) a.reads
    (it.5 ∙ ap (λ n. file_trees n it.2 it.1) size) one two)

-- ---- what a run left

held_is_left : (content : Image) (db : Trees) (v : Stored) → HoldsDatabase content db → AreOf v db → IsAsLeft content
held_is_left content db v held are found is lists =
    (v, subst (AreOf v) (sym (found_is_held content db found held are.kept.sound.lists is lists)) are)

pub crash_is_left : {D : Type 0} (g : disk.Ghosts D) → CrashIsAsLeft g
crash_is_left g old v content keeps left = ∥∥₁_map (left.stopped left.honest content left.left) (λ it.
    let w = keeps.left it.0 it.1 in
    let r : IsAsLeft content = held_is_left content it.0 w.0 it.2 w.1 in r)

pub closed_is_left : {D : Type 0} (g : disk.Ghosts D) → ClosedIsAsLeft g
closed_is_left g old files left content copied out which v held =
    let db = (rows.state over_files old.rows).committed.trees in
    ∥∥₁_map (still_held g old files left content copied out which) (λ there.
    let r : IsAsLeft content = held_is_left content db v there (copied.holds v held) in r)
