-- What an open finds in files that hold no database, as files without bytes.
use Rattle.std.specs.List.{AllZip}
use Rattle.std.proofs.Common.{◌≡◌, [], ◌∷◌, List, length, ◌<◌, ℕ, inl, inr, refl, sym, ap, ◌∙◌}
use Rattle.std.proofs.Common.{subst, arith, take, get_or-take, min, Some, Option, true, false}
use Rattle.std.specs.Prelude.{slice_index, unwrap_or, codes, ◌++◌}
use Rattle.std.proofs.lemmas.List.{length-take}
use Rattle.std.proofs.Math.Logic.{∥∥₁_elim}
use Rattle.sqlite_disk.specs.declared.Disk.{Ghosts}
use Rattle.sqlite_disk.specs.declared.Files.{Files}
use Rattle.sqlite_store.specs.declared.store.FileStore.{FileStore}
use Rattle.sqlite_trees.specs.Objects.{catalog_tree}
use Rattle.sqlite_trees.specs.Tree.{Trees}
use Rattle.sqlite_catalog.specs.Listing.{IsSound, AreListed, IsTableRow, IsIndexRow, IsViewRow}
use Rattle.sqlite_schema.specs.declared.schema.Schema.{Schema}
use Rattle.sqlite_schema.specs.declared.schema.Table.{Table}
use Rattle.sqlite_schema.specs.declared.schema.Index.{Index}
use Rattle.sqlite_schema.specs.declared.schema.View.{View}
use Rattle.sqlite_value.specs.Order.{Row}
use Rattle.sqlite_pool.specs.File.{IsSoundFile, header_in}
use Rattle.sqlite_pool.specs.Header.{first_page}
use Rattle.sqlite_pool.specs.Stored.{Adopts, sealed, stored_size, used_size}
use Rattle.sqlite_pool.specs.StoredLaws.{trimmed_some}
use Rattle.sqlite_pool.proofs.ProbeLemmas.{first_byte}
use Rattle.sqlite_wal.specs.Recovery.{Image, Pages}
use Rattle.sqlite_wal.proofs.AppendLemmas.{some_value}
use Rattle.sqlite_wal.proofs.CreateLemmas.{begun_is_not_blank}
use Rattle.sqlite.specs.Held.{Held}
use Rattle.sqlite.specs.Files.{file_state, AreFoundIn, Finds, IsEmpty, IsNothing, image_of}

paired_with_none : {A B : Type 0} (R : A → B → Type 0) (xs : List B) → AllZip R [] xs → xs ≡ []
paired_with_none R [] pairs = refl
paired_with_none R (x ∷ xs) pairs = absurd pairs

abbrev schema_of : List Table → List Index → List View → Schema
schema_of tables indexes views = record { tables = tables; indexes = indexes; views = views }

schema_of_none : (tables : List Table) (indexes : List Index) (views : List View) → tables ≡ [] → indexes ≡ [] → views ≡ []
    → schema_of tables indexes views ≡ schema_of [] [] []
schema_of_none tables indexes views no_tables no_indexes no_views = cc

none_listed : (listed : List Row) (schema : Schema) → listed ≡ [] → AreListed listed schema → schema ≡ schema_of [] [] []
none_listed listed schema none lists =
    let all : AreListed [] schema = subst (λ rows. AreListed rows schema) none lists in
    schema_of_none schema.tables schema.indexes schema.views (paired_with_none IsTableRow schema.tables all.tables)
    (paired_with_none (IsIndexRow schema.tables) schema.indexes all.indexes) (paired_with_none IsViewRow schema.views all.views)

-- trees without a catalog are those of the empty schema
pub schema_is_empty : (schema : Schema) (trees : Trees) → trees catalog_tree ≡ [] → IsSound schema trees → schema ≡ schema_of [] [] []
schema_is_empty schema trees none sound = none_listed (trees catalog_tree) schema none sound.lists.listed

-- the first page of a sound file begins with the S of SQLite
module _ (size : ℕ) (image : Image) (pages : Pages) (found : Adopts size image pages) (sound : IsSoundFile size pages) where
  pub begins_well : (page : List ℕ) → found.stored 1 ≡ Some page → (1 < length page) × (slice_index page 0 ≡ 83)
  begins_well page is =
      let used : pages 1 ≡ Some (take size page) = ap (λ (p : Pages). p 1) (sym found.shows) ∙ trimmed_some size _ 1 page is in
      let head : header_in pages ≡ take 100 (take size page) = ap (λ (o : Option (List ℕ)). take 100 (unwrap_or o [])) used in
      let magic : take 16 (take 100 (take size page)) ≡ codes "SQLite format 3" ++ 0 ∷ [] =
      ap (take 16) (sym head) ∙ sound.header.0.magic in
      let long : min 16 (min 100 (min size (length page))) ≡ 16 =
      sym (length-take 16 (take 100 (take size page))
      ∙ ap (min 16) (length-take 100 (take size page) ∙ ap (min 100) (length-take size page))) ∙ ap length magic in
      let some : 0 < size = omega arith in
      let first : slice_index (take 16 (take 100 (take size page))) 0 ≡ 83 = ap (λ (b : List ℕ). slice_index b 0) magic in (
        omega arith,
        sym (get_or-take size page 0 0 some) ∙ sym (get_or-take 100 (take size page) 0 0 (omega arith))
            ∙ sym (get_or-take 16 (take 100 (take size page)) 0 0 (omega arith)) ∙ first,
      )

  pub is_something : ¬ IsNothing image
  is_something nothing =
      let (page, is) = some_value (found.stored 1) found.whole.first in
      let (long, begins) = begins_well page is in
      let never = λ (other : ℕ) (some : 0 < other).
      let gate = first_byte other some in
      begun_is_not_blank (sealed (first_page other)) page (stored_size size) image found.stored found.found is (found.whole.sized 1 page is)
      (omega (arith, long, found.whole.sized 1 page is)) (begins ∙ sym gate) (λ none. let never = sym gate ∙ none in omega arith) in
      elim nothing [
        | inl plain ↦ never (used_size 4096 false) (omega arith) plain
        | inr summed ↦ never (used_size 4096 true) (omega arith)
            summed
      ]

-- so where there is no database, what is found is empty
pub nothing_is_empty : (image : Image) (trees : Trees) → IsNothing image → AreFoundIn image trees → IsEmpty trees
nothing_is_empty image trees nothing (inl it) =
    absurd (∥∥₁_elim it.4 (λ (a b : ⊥). absurd a) (λ ours. is_something it.0 image it.1 it.3 ours.file.sound nothing))
nothing_is_empty image trees nothing (inr it) = it.1

module _ {D : Type 0} {g : Ghosts D} where
  pub found_empty : (files : Files D) (conn : Held (FileStore D g)) → g.seen files.db ≡ [] → Finds files conn
      → IsEmpty (file_state conn).committed.trees
  found_empty files conn none found =
      nothing_is_empty (image_of g files) (file_state conn).committed.trees (inl (inl (ap length none))) found.reads
