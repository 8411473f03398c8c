-- Two entries, of a commit that empties a table and of one without changes, tell one commit.
-- PostgreSQL documentation, Logical Replication Message Formats, Truncate, Commit.
use Rattle.std.proofs.Common.{◌≡◌, ◌∷◌, [], Some, None, Ok, pos, true, negsuc, refl, arith}
use Rattle.std.specs.FinMap as map
use Rattle.std.specs.FinMap.{get-empty}
use Rattle.pglogical.specs.declared.message.RelationDef.{RelationDef}
use Rattle.pgapply.specs.declared.commit.About.{About}
use Rattle.pgapply.specs.declared.op.Op.TheVariants as op
use Rattle.pgapply.specs.Value.{Tables}
use Rattle.pgapply.specs.Apply.{Change, apply, fold_changes, rows_after}
use Rattle.pgledger.specs.declared.image.Image.TheVariants.{Truncated}
use Rattle.pgledger.specs.Entries.{Entry, entry_of}
use Rattle.pgledger.specs.Images.{image_of, images}
use Rattle.pgledger.specs.Records.{TellTo}

abbrev t : RelationDef
t = record {
  oid = 16384;
  namespace = 112 ∷ [];
  name = 116 ∷ [];
  letter = 100;
  columns = record { key = true; name = 105 ∷ []; type_oid = 25; modifier = negsuc 0 } ∷ [];
}

abbrev about : About
about = record { final_lsn = 264; xid = 740; time = pos 748872000000000 }

abbrev truncate : Change
truncate = record { definition = t; op = op.Truncate }

abbrev emptying : Entry
emptying = record { end = 304; about = Some about; messages = []; lines = record { definition = t; image = Truncated } ∷ [] }

abbrev without_changes : Entry
without_changes = record { end = 400; about = None; messages = []; lines = [] }

abbrev emptied : Tables
emptied = map.insert map.empty 16384 (record { definition = t; rows = map.empty })

is_emptied : fold_changes map.empty (truncate ∷ []) ≡ Ok emptied
unfolding fold_changes apply rows_after
is_emptied = simp get-empty

is_emptying : emptying ≡ entry_of 304 (Some about) [] (truncate ∷ []) (images map.empty (truncate ∷ []))
unfolding images image_of apply rows_after
is_emptying = refl

are_told :
    TellTo map.empty 256 (emptying ∷ without_changes ∷ [])
    (record { end = 304; about = Some about; changes = truncate ∷ [] } ∷ []) emptied 400
unfolding images fold_changes
are_told = (
  omega arith,
  (
    truncate ∷ [],
    is_emptying,
    (
      [],
      refl,
      (emptied, is_emptied, (omega arith, ([], refl, ([], refl, (emptied, refl, (refl, refl, refl)))))),
    ),
  ),
)
