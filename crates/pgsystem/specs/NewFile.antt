-- SQLite documentation, Database File Format: the file of a new store, before its tables are made.
use Rattle.std.specs.Prelude.{ℕ, List}
use Rattle.sqlite_pool.specs.Header.{first_page}

-- the one page of an empty database with pages of 1,024 bytes
abbrev pub new_page : List ℕ
new_page = first_page 1024
