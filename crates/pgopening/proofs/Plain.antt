-- Files whose pages have a known size and no sums, once they were recovered to these pages.
use Rattle.std.proofs.Common.{◌≡◌, ◌%◌, ◌≤◌, ◌≢◌, List, inl, true, false, sym, subst, ◌∙◌, arith}
use Rattle.sqlite_wal.specs.Recovery.{Image}
use Rattle.sqlite_wal.specs.declared.page_size.PageSize.{PageSize}
use Rattle.sqlite_wal.specs.PageSize.{IsPageSize, bytes_of}
use Rattle.sqlite_pages.specs.PageMap.{PageMap}
use Rattle.sqlite_pool.specs.Stored.{Recovers, stored_size}
use Rattle.sqlite_pool.specs.StoredLaws.{RecoversAs-from, readable, recovers_once}
use Rattle.sqlite_pool.proofs.ResealLemmas.{adopts_of, plain_adopts}
use Rattle.sqlite_trees.specs.Tree.{Trees}
use Rattle.sqlite_trees.specs.View.{View}
use Rattle.sqlite_store.specs.declared.catalog.Wanted.{Wanted}
use Rattle.sqlite_store.specs.Listing.{IsOurs, file_trees}
use Rattle.sqlite_store.proofs.StoreLemmas.{trees_from}
use Rattle.sqlite.specs.Files.{BeginsWell, HoldsDatabase, IsNothing}
use Rattle.sqlite.specs.Opening.{HoldsAt, HoldsIn}
use Rattle.sqlite.specs.Steps.{IsFresh}
use Rattle.sqlite.proofs.FileLemmas.{stays_something, stored_used}
use Rattle.pgopening.specs.Found.{AreOpened, HasPages, StillHolds}
use Rattle.pgopening.proofs.One.{one_database}

module _ (page : PageSize) (content : Image) (has : HasPages (bytes_of page) content) (pages : PageMap)
    (found : Recovers (bytes_of page) content pages) where
  something : ¬ IsNothing content
  something =
      let stored : stored_size (bytes_of page) ≡ bytes_of page = stored_used page false in
      stays_something (bytes_of page) content content (rw stored page.smallest) (subst (λ n. BeginsWell n content) (sym stored) has.begins)
      (inl (RecoversAs-from (bytes_of page) content content pages found found), λ p adopts. adopts)
      (readable (bytes_of page) content pages found)

  at_size : (db : Trees) → HoldsDatabase content db → HoldsAt (bytes_of page) content db
  at_size db held =
      let it = subst (λ n. HoldsIn n content db) (has.sized db held) held.2 in
      let plain : bytes_of page % 16 ≢ 8 = λ on. omega (arith, page.aligned, on) in
      record {
        pages = it.pages;
        wanted = it.wanted;
        schema = it.schema;
        found = plain_adopts (bytes_of page) content it.pages plain it.found;
        ours = it.ours;
        reads = it.reads;
        sound = it.sound;
      }

  pub still : (new : Image) → Recovers (bytes_of page) new pages → StillHolds content new
  still new again = record {
    nothing = λ none. absurd (something none);
    database = λ db held.
        let it = at_size db held in
        let same = recovers_once (bytes_of page) content pages it.pages found it.found in (
          bytes_of page,
          subst (λ n. IsPageSize (stored_size n)) (has.sized db held) held.1,
          record {
            pages = it.pages;
            wanted = it.wanted;
            schema = it.schema;
            found = adopts_of (bytes_of page) new it.pages (subst (Recovers (bytes_of page) new) same again);
            ours = it.ours;
            reads = it.reads;
            sound = it.sound;
          },
        );
  }

  pub opened : (v : View) (wanted : List Wanted) → IsFresh v → ∥ IsOurs (bytes_of page) true wanted pages ∥₁
      → v.trees ≡ file_trees (bytes_of page) wanted pages → AreOpened content v
  opened v wanted fresh ours reads = record {
    fresh = fresh;
    found = inl (bytes_of page, pages, wanted, adopts_of (bytes_of page) content pages found, ours, reads);
    something = something;
    sole = λ schema sound db held. trees_from v.trees db ours (λ it.
        one_database (bytes_of page) content v.trees db
        (record { pages = pages; wanted = wanted; schema = schema; found = found; ours = it; reads = reads; sound = sound })
        (at_size db held));
  }
