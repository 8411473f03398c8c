-- What a reader of COPY text keeps.
use Rattle.std.specs.Prelude.{◌≤◌, ℕ, List}
use Rattle.pgtuple.specs.Limits.{max_int32, max_columns}
use Rattle.pgcopy.specs.Copied.{IsPartLine}

-- its limits are those of a tuple, and it holds less than a line
pub record IsSound (columns max_line : ℕ) (held : List ℕ) : Type 0 where
  pub width : columns ≤ max_columns
  pub length_most : max_line ≤ max_int32
  pub part : IsPartLine max_line held
