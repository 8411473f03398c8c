-- What a feed is of.
use Rattle.std.specs.Prelude.{◌≡◌, ℕ, List, string_bytes}
use Rattle.pgfeed.specs.declared.folder.Names.{Names}
use Rattle.pgfeed.specs.Texts.{segment_head}

-- what the names are
pub record IsOf (names : Names) (system database slot : List ℕ) : Type 0 where
  pub system_is : string_bytes names.system ≡ system
  pub database_is : string_bytes names.database ≡ database
  pub slot_is : string_bytes names.slot ≡ slot

-- the head of its segment that begins at this LSN
abbrev pub head_of : Names → ℕ → List ℕ
head_of names base = segment_head base (string_bytes names.system) (string_bytes names.database) (string_bytes names.slot)
