-- SQLite documentation, Database File Format: the file of a new store, before its tables are made.
use Rattle.std.specs.Prelude.{[]}
use Rattle.pgsystem.specs.NewFile.{new_page}
use Rattle.pgstore.specs.Reopened.{IsEmptyContent}

-- files that hold this page, and no log, hold an empty database
abbrev pub NewFilesAreEmpty : Type 0
NewFilesAreEmpty = IsEmptyContent (record { log = []; db = new_page })
