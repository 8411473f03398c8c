use Rattle.std.proofs.Common.{◌≡◌, IsTrue, true, sym, ap, ap₂, subst, subst₂, ◌∙◌}
use Rattle.std.proofs.Math.Logic.{∥∥₁_map}
use Rattle.std.proofs.Math.Path.{subst₃}
use Rattle.std.proofs.lemmas.Bool.{cond-true}
use Rattle.sqlite_disk.specs.declared.Files.{Files}
use Rattle.sqlite_wal.specs.Files.{seen_image}
use Rattle.sqlite_wal.specs.PageSize.{bytes_of}
use Rattle.sqlite_wal.specs.Reads.{AreClean, are_clean}
use Rattle.sqlite_pages.specs.PageMap.{PageMap}
use Rattle.sqlite_pool.specs.Stored.{Recovers}
use Rattle.sqlite_pool.specs.StoredLaws.{recovers_once}
use Rattle.sqlite_trees.specs.Tree.{no_trees}
use Rattle.sqlite_trees.proofs.Doubt.{clean_of}
use Rattle.sqlite_store.specs.FileStore.{state, view}
use Rattle.sqlite_store.specs.Listing.{IsOurs, file_trees}
use Rattle.sqlite_store.specs.Saved.{kept_schema}
use Rattle.sqlite_store.specs.Unopened.{files_of, image, state_of}
use Rattle.sqlite.specs.Files.{image_of}
use Rattle.sqlite.proofs.FileLemmas.{same_image}
use Rattle.sqlite.proofs.OpenLemmas.{pool_files}
use Rattle.pgopening.proofs.Plain.{opened, still}
use Rattle.pgopening.proofs.opening.open.Goals as goal

pub returns-then-not-list_a_store : goal.returns-then-not-list_a_store
returns-then-not-list_a_store g c =
    let content = image_of g.D.Disk c.args.files in
    let page = c.in-Some.size in
    let fresh = c.in_ok-fresh.fresh in
    let made = c.in_ok-fresh.ensures in
    let now = c.read_catalog.new.self in
    let read = c.in-Ok.ensures in
    let back = c.close.ensures in
    record {
      found = record {
        log = subst (λ f. IsTrue (g.D.Disk.is_usable f.0)) (sym back) read.usable.0;
        db = subst (λ f. IsTrue (g.D.Disk.is_usable f.1)) (sym back) read.usable.1;
        still = λ clean.
            let late : IsTrue (state_of now).is_clean = (pool_files now.pool).1 ∙ sym (ap (λ f. are_clean g.D.Disk f.0 f.1) back) ∙ clean in
            let early = sym ((pool_files fresh.pool).1 ∙ ap (λ f. are_clean g.D.Disk f.0 f.1) made.files) ∙ read.honest late in
            let catalog = read.ok late in
            let seen : image fresh ≡ content =
            ap (λ f. seen_image g.D.Disk f.0 f.1) made.files ∙ same_image c.plain_size.ensures.log c.plain_size.ensures.db in
            let after : image now ≡ image_of g.D.Disk c.close.result = ap (λ f. seen_image g.D.Disk f.0 f.1) (sym back) in
            still page content (c.in-Some.ensures.pages early) catalog.pages
            (subst₂ (λ n i. Recovers n i catalog.pages) made.size seen catalog.found)
            (image_of g.D.Disk c.close.result) (subst₂ (λ n i. Recovers n i catalog.pages) made.size after catalog.again);
      };
    }

pub returns-in-Ok-open_numbered : goal.returns-in-Ok-open_numbered
returns-in-Ok-open_numbered g c = record {
  found = λ clean.
      let content = image_of g.D.Disk c.args.files in
      let page = c.in-Some.size in
      let fresh = c.in_ok-fresh.fresh in
      let made = c.in_ok-fresh.ensures in
      let mid = c.read_catalog.new.self in
      let read = c.in-Ok.ensures in
      let it = c.in-Ok-open_numbered.ensures in
      let store = c.in-Ok-open_numbered.store in
      let now : IsTrue (state store).is_clean = clean_of _ clean in
      let late = it.honest now in
      let early = sym ((pool_files fresh.pool).1 ∙ ap (λ f. are_clean g.D.Disk f.0 f.1) made.files) ∙ read.honest late in
      let catalog = read.ok late in
      let seen : image fresh ≡ content =
      ap (λ f. seen_image g.D.Disk f.0 f.1) made.files ∙ same_image c.plain_size.ensures.log c.plain_size.ensures.db in
      let middle : (state_of mid).page_size ≡ bytes_of page = (read.kept late).size ∙ made.size in
      let size : (state store).page_size ≡ bytes_of page = (it.kept now).size ∙ middle in
      let again = subst (λ n. Recovers n (image mid) catalog.pages) made.size catalog.again in
      let pages : (state store).committed ≡ catalog.pages =
      recovers_once (bytes_of page) (image mid) (state store).committed catalog.pages
      (subst (λ n. Recovers n (image mid) (state store).committed) middle (it.found now)) again in
      let wanted = kept_schema store.saved store.schema.items in
      let is_open = it.ready.is_open clean in
      opened page content (c.in-Some.ensures.pages early) catalog.pages
      (subst₂ (λ n i. Recovers n i catalog.pages) made.size seen catalog.found) (view store) wanted
      (record { sound = it.ready.sound clean; numbered = it.numbered; clean = it.ready.clean; unmarked = it.ready.unmarked })
      (∥∥₁_map (store.stored is_open) (λ s. subst₃ (λ n b p. IsOurs n b wanted p) size it.numbered pages s.ours))
      (it.ready.clean ∙ cond-true _ (file_trees (state store).page_size wanted (state store).committed) no_trees now
      ∙ ap₂ (λ n p. file_trees n wanted p) size pages);
}
