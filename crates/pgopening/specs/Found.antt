-- What is found in two files.
-- SQLite documentation, Write-Ahead Logging, and Database File Format, The Database Header.
use Rattle.std.specs.Prelude.{◌≡◌, ℕ, IsTrue}
use Rattle.sqlite_disk.specs.declared.Disk as disk
use Rattle.sqlite_disk.specs.declared.Files.{Files}
use Rattle.sqlite_wal.specs.Reads.{AreClean}
use Rattle.sqlite_wal.specs.Recovery.{Image}
use Rattle.sqlite_trees.specs.Tree.{Trees}
use Rattle.sqlite_trees.specs.View.{View, IsClean}
use Rattle.sqlite_schema.specs.declared.schema.Schema.{Schema}
use Rattle.sqlite_catalog.specs.Listing.{IsSound}
use Rattle.sqlite_store.specs.FileStore.{view}
use Rattle.sqlite.specs.Files.{AreFoundIn, BeginsWell, HoldsDatabase, IsNothing, image_of}
use Rattle.sqlite.specs.Steps.{IsFresh}
use Rattle.pgopening.specs.declared.opening.Found.{Found}
use Rattle.pgopening.specs.declared.opening.Found.TheVariants.{Trees as Opened, Others}

-- Files of this content begin as a database, and one that they hold has pages of this size.
pub record HasPages (size : ℕ) (content : Image) : Type 0 where
  pub begins : BeginsWell size content
  pub sized : (db : Trees) (held : HoldsDatabase content db) → held.0 ≡ size

-- The trees are just opened, and what files of this content recover to. Where they obey a schema,
-- files of this content hold no other database.
pub record AreOpened (content : Image) (v : View) : Type 0 where
  pub fresh : IsFresh v
  pub found : AreFoundIn content v.trees
  pub something : ¬ IsNothing content
  pub sole : (schema : Schema) → IsSound schema v.trees → (db : Trees) → HoldsDatabase content db → v.trees ≡ db

-- Files of the new content hold what those of the old one held.
pub record StillHolds (old new : Image) : Type 0 where
  pub nothing : IsNothing old → IsNothing new
  pub database : (db : Trees) → HoldsDatabase old db → HoldsDatabase new db

module _ {D : Type 0} (g : disk.Ghosts D) where
  -- files that aren't opened can still be, and hold what they held
  pub record IsOther (content : Image) (files : Files D) : Type 0 where
    pub log : IsTrue (g.is_usable files.log)
    pub db : IsTrue (g.is_usable files.db)
    pub still : AreClean g files.log files.db → StillHolds content (image_of g files)

  abbrev pub IsFound : Image → Found D g → Type 0
  IsFound content (Opened store) = IsClean (view store) → AreOpened content (view store)
  IsFound content (Others files) = IsOther content files
