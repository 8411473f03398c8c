-- What a stop leaves is a database that could be left.
use Rattle.std.proofs.Common.{◌≡◌, IsTrue, subst}
use Rattle.std.proofs.Math.Logic.{∥∥₁_map}
use Rattle.sqlite_disk.specs.declared.Disk.{Ghosts}
use Rattle.sqlite_disk.specs.declared.Files.{Files}
use Rattle.sqlite_trees.specs.Tree.{Trees}
use Rattle.sqlite_trees.specs.View.{IsClean}
use Rattle.sqlite_trees.proofs.Doubt.{no_doubt}
use Rattle.sqlite_wal.specs.Recovery.{Image}
use Rattle.sqlite_wal.specs.Files.{outcomes}
use Rattle.sqlite_wal.specs.Reads.{AreClean}
use Rattle.sqlite_pool.specs.Pool as pool
use Rattle.sqlite_store.specs.declared.store.FileStore.{FileStore}
use Rattle.sqlite_store.specs.FileStore as store
use Rattle.sqlite.specs.Files.{HoldsDatabase}
use Rattle.sqlite.specs.Held.{AreDatabases}
use Rattle.sqlite.proofs.Theorems.{opens_again}
use Rattle.pgmemory.specs.Stopped.{Leaves}

module _ {D : Type 0} {g : Ghosts D} (it : FileStore D g) where
  -- the disks of a store are its files
  clean_is : AreClean g (store.files it).0 (store.files it).1 → IsClean (store.view it)
  unfolding pool.state pool.files
  clean_is clean = no_doubt _ clean

  may_is : AreClean g (store.files it).0 (store.files it).1 → (image : Image) → outcomes g (store.files it).0 (store.files it).1 image
      → (store.state it).may_leave image
  unfolding pool.state pool.files
  may_is clean image out = (clean, out)

  pub stopped : (may_leave : Trees → Type 0) (files : Files D) → (files.log, files.db) ≡ store.files it
      → (IsClean (store.view it) → IsTrue (store.view it).is_numbered) → (IsClean (store.view it) → AreDatabases (store.recovers it))
      → ((db : Trees) → store.recovers it db → may_leave db) → Leaves g may_leave files
  stopped may_leave files same numbered sound outcome clean image out =
      let now = subst (λ (p : D × D). AreClean g p.0 p.1) same clean in
      let left = subst (λ (p : D × D). outcomes g p.0 p.1 image) same out in
      let is = clean_is now in
      ∥∥₁_map (opens_again it (numbered is) (sound is) image (may_is now image left))
      (λ db. let r : (x : Trees) × may_leave x × HoldsDatabase image x = (db.0, outcome db.0 db.1, db.2) in r)

  pub store_clean : (files : Files D) → (files.log, files.db) ≡ store.files it → AreClean g files.log files.db → IsClean (store.view it)
  store_clean files same clean = clean_is (subst (λ (p : D × D). AreClean g p.0 p.1) same clean)
