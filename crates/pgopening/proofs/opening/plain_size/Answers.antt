use Rattle.std.proofs.Common.{◌≡◌, ℕ, ◌≤◌, List, Some, length, slice_index, sym, subst, ◌∙◌, arith}
use Rattle.sqlite_wal.specs.Format.{be32}
use Rattle.sqlite_wal.specs.Recovery as raw
use Rattle.sqlite_wal.specs.PageSize.{bytes_of}
use Rattle.sqlite_wal.specs.Reads.{AreClean}
use Rattle.sqlite_wal.proofs.CleanLemmas.{both_clean}
use Rattle.sqlite_pages.specs.PageMap.{PageMap}
use Rattle.sqlite_pool.specs.Stored.{reserved, stored_size}
use Rattle.sqlite_pool.proofs.ProbeLemmas.{reserved_word}
use Rattle.sqlite.specs.Files.{image_of}
use Rattle.sqlite.proofs.FileLemmas.{probe_size, same_image}
use Rattle.pgopening.proofs.opening.plain_size.Goals as goal

pub returns-in-Ok-eq83-eq4202528-clause-pages : goal.returns-in-Ok-eq83-eq4202528-clause-pages
returns-in-Ok-eq83-eq4202528-clause-pages g c clean =
    let content = image_of g.D.Disk c.args.files.now in
    let size = c.in-Ok-Some.size in
    let head = c.in-Ok-eq83-eq4202528 in
    let first = c.probe_first_page.ensures in
    let early : AreClean g.D.Disk c.probe_page_size.new.files.log c.probe_page_size.new.files.db =
    both_clean _ _ _ _ first.log.clean first.db.clean clean in
    let seen : image_of g.D.Disk c.probe_page_size.new.files ≡ content =
    same_image c.probe_page_size.ensures.log c.probe_page_size.ensures.db in
    let page : (pages : PageMap) (bytes : List ℕ) → raw.Recovers (bytes_of size) content pages → pages 1 ≡ Some bytes
    → length bytes ≡ bytes_of size
    → (head.field-0-0 ≡ slice_index bytes 0) × (head.field-0-1 ≡ be32 bytes 20) =
    λ pages bytes found is len.
    head.ensures.value clean pages bytes (subst (λ i. raw.Recovers (bytes_of size) i pages) (sym seen) found) is len in
    record {
      begins = λ pages bytes found is len. omega (arith, (page pages bytes found is len).0, head.field-0-0-is);
      sized = λ db held.
          let stored = probe_size content c.in-Ok-Some.field-0 (c.in-Ok-Some.ensures.by_log early) (c.in-Ok-Some.ensures.by_file early) db
          held size c.in-Ok-Some.field-0-is in
          let few : reserved held.0 ≤ 8 = grind arith in
          let found = held.2.found in
          let word = reserved_word held.0 content held.2.pages found (omega (arith, held.1.0)) held.2.ours.file.sound in
          let at = page found.stored word.0 (subst (λ n. raw.Recovers n content found.stored) stored found.found) word.1
          (word.2 ∙ stored) in
          let none : reserved held.0 ≡ 0 = omega (arith, at.1, word.3, head.field-0-1-is) in
          omega (arith, stored, none);
    }
