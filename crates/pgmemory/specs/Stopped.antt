-- What a stop leaves of two files.
use Rattle.sqlite_disk.specs.declared.Disk.{Ghosts}
use Rattle.sqlite_disk.specs.declared.Files.{Files}
use Rattle.sqlite_trees.specs.Tree.{Trees}
use Rattle.sqlite_wal.specs.Recovery.{Image}
use Rattle.sqlite_wal.specs.Files.{outcomes}
use Rattle.sqlite_wal.specs.Reads.{AreClean}
use Rattle.sqlite.specs.Files.{HoldsDatabase}

-- If the disks are honest, whatever may be left of the files holds a database that could be left.
abbrev pub Leaves : {D : Type 0} → Ghosts D → (Trees → Type 0) → Files D → Type 0
Leaves g may_leave files = AreClean g files.log files.db → (image : Image) → outcomes g files.log files.db image
    → ∥ ((db : Trees) × may_leave db × HoldsDatabase image db) ∥₁
