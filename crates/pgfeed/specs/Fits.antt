-- Which values a line of a commit may have: those of 64 bits.
use Rattle.std.specs.Prelude.{ℕ, ◌<◌, ◌^◌, List, Option, IfSome, FitsSigned, length}
use Rattle.hex.specs.Hex.{IsBytes}
use Rattle.std.specs.Int.{w64}
use Rattle.pgledger.specs.declared.heard.Heard.{Heard}
use Rattle.pgledger.specs.Entries.{Entry}
use Rattle.pgapply.specs.declared.commit.About.{About}

pub record FitsAbout (about : About) : Type 0 where
  pub final_lsn : about.final_lsn < 2 ^ 64
  pub xid : about.xid < 2 ^ 32
  pub time : FitsSigned w64 about.time

pub record FitsLine (end prev bytes changes : ℕ) (about : Option About) : Type 0 where
  pub end_fits : end < 2 ^ 64
  pub prev_fits : prev < 2 ^ 64
  pub bytes_fit : bytes < 2 ^ 64
  pub changes_fit : changes < 2 ^ 64
  pub about_fits : IfSome about FitsAbout

-- of an entry with these lines behind the commit that ends at that LSN
abbrev pub FitsEntry : ℕ → Entry → List ℕ → Type 0
FitsEntry prev e body = FitsLine e.end prev (length body) (length e.lines) e.about

-- a message whose content is bytes
pub record FitsHeard (message : Heard) : Type 0 where
  pub lsn_fits : message.lsn < 2 ^ 64
  pub content_fits : IsBytes message.content
