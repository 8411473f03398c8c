-- Disks that never lie.
use Rattle.std.proofs.Common.{IsTrue}
use Rattle.std.proofs.lemmas.Bool.{and_from}
use Rattle.sqlite_disk.specs.declared.Disk.{Ghosts}
use Rattle.sqlite_store.specs.declared.store.FileStore.{FileStore}
use Rattle.sqlite_store.specs.FileStore as store
use Rattle.sqlite_pool.specs.Pool as pool
use Rattle.sqlite_trees.specs.View.{IsClean}
use Rattle.sqlite_trees.proofs.Doubt.{no_doubt}
use Rattle.sqlite.specs.Held.{Held}
use Rattle.sqlite.specs.State.{HasCleanDisk}
use Rattle.sqlite.specs.Files.{file_state}

pub clean_store : {D : Type 0} {g : Ghosts D} → ((disk : D) → IsTrue (g.is_clean disk)) → (it : FileStore D g) → IsClean (store.view it)
unfolding pool.state
clean_store honest it = no_doubt _ (and_from _ _ (honest _) (honest _))

pub clean_over : {D : Type 0} {g : Ghosts D} → ((disk : D) → IsTrue (g.is_clean disk)) → (conn : Held (FileStore D g))
    → HasCleanDisk (file_state conn)
clean_over honest conn = clean_store honest conn.store
