-- The items of one open transaction, whose bytes are in blocks of a file and in memory.
use Rattle.std.specs.Prelude.{◌≡◌, ℕ, List, [], ◌∷◌, ◌++◌, Option}
use Rattle.pgspill.specs.declared.piece.Owner.{Owner}
use Rattle.pgspill.specs.Strands.{IsStrand, strand_bytes}
use Rattle.pgspool.specs.Labels.{LabelledItem}
use Rattle.pgfilespools.specs.declared.file_items.FileItems.{FileItems}
use Rattle.pgfilespools.specs.Stored.{items_in}
use Rattle.pgfilespools.specs.AreStored.{AreStored}
use Rattle.pgfilespools.specs.Parts.{AreParts}

-- what is read back, of a file in which the blocks stand
abbrev pub items_kept : List ℕ → FileItems → List LabelledItem
items_kept file t = items_in t.count (strand_bytes file t.strand)

pub record AreKept (key : ℕ) (file : List ℕ) (owners : List (Option Owner)) (t : FileItems) : Type 0 where
  pub strand : IsStrand key file owners t.strand
  pub stored : AreStored (items_kept file t) (strand_bytes file t.strand) t.firsts.entries t.bytes
  pub parts : AreParts (items_kept file t) t.parts.items

-- whatever the file has: the same items
pub record Keeps (old new : FileItems) (key : ℕ) (file : List ℕ) (owners : List (Option Owner)) : Type 0 where
  pub kept : AreKept key file owners new
  pub same : items_kept file new ≡ items_kept file old

-- one item more
pub record Adds (l : LabelledItem) (old new : FileItems) (key : ℕ) (file : List ℕ) (owners : List (Option Owner)) : Type 0 where
  pub kept : AreKept key file owners new
  pub added : items_kept file new ≡ items_kept file old ++ l ∷ []

-- wherever they were kept
abbrev pub Wherever : (FileItems → FileItems → ℕ → List ℕ → List (Option Owner) → Type 0) → FileItems → FileItems → Type 0
Wherever change old new =
    (key : ℕ) (file : List ℕ) (owners : List (Option Owner)) → AreKept key file owners old → change old new key file owners
