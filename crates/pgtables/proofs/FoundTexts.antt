-- The texts that read a database that was opened, as they are understood.
use Rattle.std.proofs.Common.{◌≡◌, ℕ, pos, negsuc, Bool, true, false, List, [], ◌∷◌, codes, None}
use Rattle.std.proofs.Common.{refl}
use Rattle.sqlite_tied.specs.Compute.{everything}
use Rattle.sqlite.specs.Listing.{understood, reads_listing}
use Rattle.sqlite.specs.Collation.TheVariants.{Binary}
use Rattle.sqlite.specs.declared.types.Value.TheVariants.{Int}
use Rattle.sqlite.specs.Term.{Term, col, lit}
use Rattle.sqlite.specs.Query.{Query, inner, end}
use Rattle.sqlite.specs.Given.{IsPlain}
use Rattle.sqlite.specs.Command.{Command}
use Rattle.sqlite.specs.Command.TheVariants.{Select}
use Rattle.sqlite.proofs.Callers.{command_of}
use Rattle.sqlite_value.specs.Keys.{ascending}
use Rattle.sqlite.specs.Schema.{Schema}
use Rattle.pgtables.proofs.ReadSteps.{IsReadOnly}
use Rattle.pgtables.proofs.Remaining.{over}

-- under this schema the text is understood so, returns nothing of a write, and doesn't read the
-- listing of the tables
abbrev pub IsReadAs : Schema → List ℕ → Command → Type 0
IsReadAs schema text command =
    (command_of (understood schema text) ≡ command) × (IsPlain (understood schema text) × (reads_listing schema text ≡ false))

-- all rows of one tree by their rowids
abbrev pub by_rowid : ℕ → List Term → Query
by_rowid tree shown = record {
  from = inner tree end;
  filter = [];
  group = None;
  project = shown;
  distinct = false;
  collations = [];
  order = (col 1 0, ascending Binary) ∷ [];
  limit = lit (Int (negsuc 0));
  offset = lit (Int (pos 0));
}

abbrev pub definitions_text : List ℕ
definitions_text = codes "SELECT oid, nsp, name, letter, cols FROM rel ORDER BY oid"

abbrev pub definitions_shown : List Term
definitions_shown = col 1 0 ∷ col 1 2 ∷ col 1 3 ∷ col 1 4 ∷ col 1 5 ∷ []

abbrev pub definitions_command : Command
definitions_command = Select (record { lets = []; body = by_rowid 0 definitions_shown })
    (codes "oid" ∷ codes "nsp" ∷ codes "name" ∷ codes "letter" ∷ codes "cols" ∷ [])

pub definitions_read_only : IsReadOnly definitions_text
unfolding understood everything
definitions_read_only schema base = refl

-- whichever other tables are present
pub definitions_read : (h p : Bool) → IsReadAs (over true h p) definitions_text definitions_command
unfolding understood everything
definitions_read true true = (refl, ((refl, refl), refl))
definitions_read true false = (refl, ((refl, refl), refl))
definitions_read false true = (refl, ((refl, refl), refl))
definitions_read false false = (refl, ((refl, refl), refl))

abbrev pub rows_text : List ℕ
rows_text = codes "SELECT rowid, oid, ident, body, copies FROM held ORDER BY rowid"

abbrev pub rows_shown : List Term
rows_shown = col 1 0 ∷ col 1 1 ∷ col 1 2 ∷ col 1 3 ∷ col 1 4 ∷ []

abbrev pub rows_command : Command
rows_command = Select (record { lets = []; body = by_rowid 1 rows_shown })
    (codes "rowid" ∷ codes "oid" ∷ codes "ident" ∷ codes "body" ∷ codes "copies" ∷ [])

pub rows_read_only : IsReadOnly rows_text
unfolding understood everything
rows_read_only schema base = refl

-- whichever other tables are present
pub rows_read : (d p : Bool) → IsReadAs (over d true p) rows_text rows_command
unfolding understood everything
rows_read true true = (refl, ((refl, refl), refl))
rows_read true false = (refl, ((refl, refl), refl))
rows_read false true = (refl, ((refl, refl), refl))
rows_read false false = (refl, ((refl, refl), refl))

abbrev pub place_text : List ℕ
place_text = codes "SELECT id, lsn FROM pos ORDER BY id"

abbrev pub place_shown : List Term
place_shown = col 1 0 ∷ col 1 2 ∷ []

abbrev pub place_command : Command
place_command = Select (record { lets = []; body = by_rowid 3 place_shown }) (codes "id" ∷ codes "lsn" ∷ [])

pub place_read_only : IsReadOnly place_text
unfolding understood everything
place_read_only schema base = refl

-- whichever other tables are present
pub place_read : (d h : Bool) → IsReadAs (over d h true) place_text place_command
unfolding understood everything
place_read true true = (refl, ((refl, refl), refl))
place_read true false = (refl, ((refl, refl), refl))
place_read false true = (refl, ((refl, refl), refl))
place_read false false = (refl, ((refl, refl), refl))
