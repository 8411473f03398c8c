-- The file of a new store holds an empty database.
use Rattle.std.proofs.Common.{◌≡◌, ◌∙◌, ◌++◌, ◌∷◌, ◌⊎◌, true, ℕ, List, [], Result, Ok, Err, OnOk}
use Rattle.std.proofs.Common.{length, take, replicate, refl, sym, ap, subst, inl, inr, arith}
use Rattle.std.proofs.lemmas.List.{length-map}
use Rattle.std.proofs.lemmas.List.FromFn.{length-range_with_len}
use Rattle.std.specs.List.{range_with_len}
use Rattle.sqlite_format.specs.declared.kind.Tree.TheVariants.{Table}
use Rattle.sqlite_format.specs.Page.{cell_count, content_start, page_cells}
use Rattle.sqlite_format.proofs.PageLemmas.{empty_page}
use Rattle.sqlite_wal.specs.Recovery as raw
use Rattle.sqlite_wal.specs.Recovery.{AreWhole, Image, only_page}
use Rattle.sqlite_wal.proofs.CreateLemmas.{pages_of_one}
use Rattle.sqlite_wal.specs.PageSize.{IsPageSize}
use Rattle.sqlite_pages.specs.PageMap.{PageMap}
use Rattle.sqlite_pool.specs.File.{in_use, version_in}
use Rattle.sqlite_pool.specs.Header.{first_page, first_page_byte}
use Rattle.sqlite_pool.specs.Opening.{IsFirstPage}
use Rattle.sqlite_pool.specs.Stored.{AreSealed, Recovers, sealed, stored_size, trimmed}
use Rattle.sqlite_pool.specs.StoredLaws.{only_sealed}
use Rattle.sqlite_pool.proofs.OpenLemmas.{first_new}
use Rattle.sqlite_pool.proofs.ResealLemmas.{adopts_of}
use Rattle.sqlite_trees.specs.Tree.{Trees}
use Rattle.sqlite_store.specs.Db.{trees_in}
use Rattle.sqlite_store.specs.Listing.{all_trees, file_trees, IsOurs}
use Rattle.sqlite_store.specs.Listed.{catalog_rows}
use Rattle.sqlite_store.proofs.ListingLemmas.{past_version, named_tree}
use Rattle.sqlite_store.proofs.BuildLemmas.{new_is_empty}
use Rattle.sqlite.specs.Files.{HoldsDatabase, IsEmpty, IsNothing}
use Rattle.sqlite.proofs.ListingLemmas.{empty_is_sound}
use Rattle.pgsystem.specs.NewFile.{new_page}

long : length new_page ≡ 1024
unfolding first_page
long = length-map (range_with_len 0 1024) (first_page_byte 1024) ∙ length-range_with_len 0 1024

-- its header, and that it is a page without cells
headed : IsFirstPage new_page (take 100 new_page)
unfolding first_page cell_count content_start page_cells
headed =
    let leaf = empty_page (record { tree = Table; leaf = true }) new_page 100 (omega (arith, long)) (omega arith) refl refl
    (let all : content_start new_page 100 ≡ 1024 = refl in all ∙ sym long) refl refl in
    record {
      exact = ap first_page (sym long);
      begins = refl;
      valid = (
        record { magic = refl; size = refl; versions = inr refl },
        record { fractions = refl; format = inl refl; encoding = inl refl; no_vacuum = (refl, refl); counted = refl },
      );
      pages = refl;
      first = refl;
      free = refl;
      leaf = leaf.0;
      empty = leaf.1;
    }

abbrev pub new_image : Image
new_image = record { log = []; db = new_page }

abbrev pages : PageMap
pages = only_page new_page

-- it has no sum
plain : sealed new_page ≡ new_page
unfolding sealed
plain = rw long refl

abbrev AreWell : ℕ → List ℕ → Type 0
AreWell size stored = (trimmed size (only_page stored) ≡ pages) × AreSealed size (only_page stored)
    × AreWhole (stored_size size) (only_page stored)

well : AreWell 1024 new_page
well = subst (AreWell 1024) plain (subst (λ (n : ℕ). AreWell n (sealed new_page)) long (only_sealed new_page))

found : raw.Recovers 1024 new_image pages
found = record {
  frames = 0;
  replays = inl (inl (omega arith), refl);
  present = omega (arith, long);
  gives = subst (λ (n : ℕ). raw.pages_after n [] new_page 0 ≡ pages) long (pages_of_one new_page [] (omega (arith, long)));
}

recovered : Recovers 1024 new_image pages
recovered = record { stored = pages; found = found; whole = well.2; sealed = well.1; shows = well.0; present = omega (arith, long) }

valid : IsPageSize 1024
valid = (omega arith, omega arith, refl, refl)

ours : IsOurs 1024 true [] pages
ours =
    let empty = new_is_empty 1024 pages well.2 (first_new new_page (take 100 new_page) 1024 long (omega arith) (omega arith) headed) in
    record { file = empty.0; numbered = λ _. record { listed = empty.1; spaced = refl; ordered = refl } }

-- as `IsEmptyContent` says it of a store's files
pub new_page_is_empty : IsNothing new_image ⊎ ((db : Trees) × HoldsDatabase new_image db × IsEmpty db)
unfolding trees_in
new_page_is_empty =
    let db : Trees = file_trees 1024 [] pages in
    let unlisted = catalog_rows 1024 [] (in_use 1024 pages) in
    inr (
      db,
      (
        1024,
        valid,
        record {
          pages = pages;
          wanted = [];
          schema = _;
          found = adopts_of 1024 new_image pages recovered;
          ours = ours;
          reads = refl;
          sound = empty_is_sound db unlisted;
        },
      ),
      (
        λ tree low. past_version tree low (all_trees 1024 [] (in_use 1024 pages)) (version_in pages)
            ∙ named_tree tree low 1024 [] (in_use 1024 pages),
        unlisted,
      ),
    )

-- ---- how it is written

-- the bytes of its header and of the page's own; behind them are zeros
abbrev pub headers : List ℕ
headers =
    83 ∷ 81 ∷ 76 ∷ 105 ∷ 116 ∷ 101 ∷ 32 ∷ 102 ∷ 111 ∷ 114 ∷ 109 ∷ 97 ∷ 116 ∷ 32 ∷ 51 ∷ 0 ∷ 4 ∷ 0 ∷ 2 ∷ 2 ∷ 0 ∷ 64 ∷ 32 ∷ 32 ∷ 0 ∷ 0 ∷ 0 ∷ 0
    ∷ 0 ∷ 0 ∷ 0 ∷ 1 ∷ 0 ∷ 0 ∷ 0 ∷ 0 ∷
    0 ∷ 0 ∷ 0 ∷ 0 ∷ 0 ∷ 0 ∷ 0 ∷ 1 ∷ 0 ∷ 0 ∷ 0 ∷ 4 ∷ 0 ∷ 0 ∷ 0 ∷ 0 ∷ 0 ∷ 0 ∷ 0 ∷ 0 ∷ 0 ∷ 0 ∷ 0 ∷ 1 ∷ 0 ∷ 0 ∷ 0 ∷ 0 ∷ 0 ∷ 0 ∷ 0 ∷ 0 ∷ 0 ∷ 0
    ∷ 0 ∷ 0 ∷
    0 ∷ 0 ∷ 0 ∷ 0 ∷ 0 ∷ 0 ∷ 0 ∷ 0 ∷ 0 ∷ 0 ∷ 0 ∷ 0 ∷ 0 ∷ 0 ∷ 0 ∷ 0 ∷ 0 ∷ 0 ∷ 0 ∷ 0 ∷ 0 ∷ 0 ∷ 0 ∷ 0 ∷ 0 ∷ 46 ∷ 118 ∷ 136 ∷ 13 ∷ 0 ∷ 0 ∷ 0 ∷ 0
    ∷ 4 ∷ 0 ∷ 0 ∷ []

pub whole : headers ++ replicate 916 0 ≡ new_page
unfolding first_page
whole = refl

pub if_ok : {A B : Type 0} (r : Result A B) (P Q : Type 0) → (P → Q) → OnOk r P → OnOk r Q
if_ok (Ok a) P Q f p = f p
if_ok (Err e) P Q f p = p
