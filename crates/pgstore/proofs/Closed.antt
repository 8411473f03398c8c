-- What a store of trees leaves in its files as it is closed.
use Rattle.std.proofs.Common.{◌≡◌, IsTrue, subst, ◌∙◌}
use Rattle.sqlite_disk.specs.declared.Disk.{Ghosts}
use Rattle.sqlite_disk.specs.declared.Files.{Files}
use Rattle.sqlite_pool.proofs.StateLemmas.{clean_is, may_leave_is}
use Rattle.sqlite_store.specs.declared.store.FileStore.{FileStore}
use Rattle.sqlite_store.specs.FileStore as store
use Rattle.sqlite_trees.proofs.Doubt.{no_doubt}
use Rattle.sqlite.proofs.Theorems.{copied, opens_again}
use Rattle.sqlite.specs.Closing.{HoldsAlone}
use Rattle.sqlite.specs.Files.{HoldsDatabase}
use Rattle.sqlite.specs.Held.{AreDatabases}
use Rattle.sqlite.specs.Recovery.{Image}
use Rattle.sqlite.specs.Tree.{Trees}
use Rattle.sqlite.specs.View.{IsClean}
use Rattle.sqlite.specs.WalFiles.{outcomes}
use Rattle.sqlite.specs.WalReads.{AreClean}

module _ {D : Type 0} {g : Ghosts D} (it : FileStore D g) (files : Files D) (same : (files.log, files.db) ≡ store.files it)
    (clean : AreClean g files.log files.db) where
  its_clean : AreClean g (store.files it).0 (store.files it).1
  its_clean = subst (λ (p : D × D). AreClean g p.0 p.1) same clean

  pub closed_clean : IsClean (store.view it)
  closed_clean = no_doubt _ (clean_is it.pool ∙ its_clean)

  module _ (numbered : IsTrue (store.view it).is_numbered) (sound : AreDatabases (store.recovers it)) (image : Image)
      (out : outcomes g files.log files.db image) where
    may_leave : (store.state it).may_leave image
    may_leave = may_leave_is it.pool image its_clean (subst (λ (p : D × D). outcomes g p.0 p.1 image) same out)

    -- a database that it could leave
    pub closed_leaves : ∥ ((db : Trees) × store.recovers it db × HoldsDatabase image db) ∥₁
    closed_leaves = opens_again it numbered sound image may_leave

    -- and where the log is empty, what it committed, in the file of the database
    pub closed_alone : ((file : D) → g.may_leave file (g.seen file)) → IsTrue (store.view it).is_open → store.log_frames it ≡ 0
        → HoldsAlone image (store.view it).committed
    closed_alone stays still empty = copied it stays still numbered sound empty image may_leave
