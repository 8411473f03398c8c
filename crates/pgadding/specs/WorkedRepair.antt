-- Part of the statement.
-- The changes of single rows, and what is passed on of a session with a repair.
use Rattle.std.specs.Prelude.{◌≡◌, ℕ, pos, codes, List, [], ◌∷◌, ◌++◌, false, Option, Some, None}
use Rattle.std.specs.FinMap as finite
use Rattle.pgtuple.specs.declared.cell.Cell.{Cell}
use Rattle.pgtuple.specs.declared.cell.Cell.TheVariants.{Text, Null}
use Rattle.pglogical.specs.declared.message.Column.{Column}
use Rattle.pglogical.specs.declared.message.RelationDef.{RelationDef}
use Rattle.pglogical.specs.declared.message.OldKind.TheVariants.{Key, Full}
use Rattle.pglogical.specs.declared.message.Item.TheVariants.{Relation, Insert, Update, Delete}
use Rattle.pglogical.specs.declared.message.Message.{Message}
use Rattle.pglogical.specs.declared.message.Message.TheVariants as message
use Rattle.pgorder.specs.declared.Version.TheVariants.{Two}
use Rattle.pgapply.specs.Value.{Row, Rows, Tables}
use Rattle.pgsub_core.specs.Server.Work.{Nothing, Changed}
use Rattle.pgsub_core.specs.Server.Stream.{Sent, Data}
use Rattle.pgadding.specs.Around.{IsWholeSession}
use Rattle.pgadding.specs.Given.{giving}
use Rattle.pgadding.specs.Mended.{keyed_changes, bag_changes}
use Rattle.pgadding.specs.Repair.{Repair, mended_work}
use Rattle.pgadding.specs.Repaired.{IsRepairAround}
use Rattle.pgadding.specs.Repairing.{repaired_on}
use Rattle.pgadding.specs.Worked.{id, seen_with, seen, unseen, keepalive}

abbrev pub name_of : Column
name_of = record { key = false; name = codes "name"; type_oid = 25; modifier = pos 0 }

-- public.k (name text, id integer key), and public.b of the same columns with REPLICA IDENTITY FULL
abbrev pub table_of : ℕ → List ℕ → ℕ → RelationDef
table_of oid name letter =
    record {
      oid = oid;
      namespace = codes "public";
      name = name;
      letter = letter;
      columns = name_of ∷ id ∷ [];
    }

abbrev pub k : RelationDef
k = table_of 16386 (codes "k") 100

abbrev pub b : RelationDef
b = table_of 16387 (codes "b") 102

abbrev pub cells : ℕ → ℕ → List Cell
cells letter digit = Text (letter ∷ []) ∷ Text (digit ∷ []) ∷ []

abbrev pub row_of : ℕ → ℕ → ℕ → Option Row
row_of letter digit copies = Some (record { cells = cells letter digit; copies = copies })

-- by the key: the server alone has the row, both have it, the copy alone has it
abbrev pub Comes : Type 0
Comes = keyed_changes k (row_of 97 49 1) None ≡ Insert 16386 (cells 97 49) ∷ []

abbrev pub IsReplaced : Type 0
IsReplaced =
    keyed_changes k (row_of 97 49 1) (row_of 98 49 1) ≡ Update 16386 None (cells 97 49) ∷ []

abbrev pub Goes : Type 0
Goes = keyed_changes k None (row_of 97 49 1) ≡ Delete 16386 Key (Null ∷ Text (49 ∷ []) ∷ []) ∷ []

-- by the whole row: three copies there and one here, and the other way round
abbrev pub MoreCome : Type 0
MoreCome =
    bag_changes b (row_of 97 49 3) (row_of 97 49 1)
    ≡ Insert 16387 (cells 97 49) ∷ Insert 16387 (cells 97 49) ∷ []

abbrev pub SomeGo : Type 0
SomeGo =
    bag_changes b (row_of 97 49 1) (row_of 97 49 3)
    ≡ Delete 16387 Full (cells 97 49) ∷ Delete 16387 Full (cells 97 49) ∷ []

abbrev pub AllGo : Type 0
AllGo = bag_changes b None (row_of 97 49 1) ≡ Delete 16387 Full (cells 97 49) ∷ []

-- what differs in both tables at the point 1000
abbrev pub repairing_both : Repair
repairing_both = record {
  point = 1000;
  tables =
      record {
        definition = k;
        changes = Update 16386 None (cells 97 49) ∷ Insert 16386 (cells 99 50) ∷ [];
      }
      ∷ record { definition = b; changes = Delete 16387 Full (cells 97 49) ∷ [] }
      ∷ [];
  clock = pos 7;
}

abbrev pub of_repair : Message → Sent
of_repair m = Data 999 999 (pos 0) m

abbrev pub repair : List Sent
repair =
    of_repair (message.Begin 999 (pos 7) 2)
    ∷ of_repair (message.Item None (Relation k))
    ∷ of_repair (message.Item None (Update 16386 None (cells 97 49)))
    ∷ of_repair (message.Item None (Insert 16386 (cells 99 50)))
    ∷ of_repair (message.Item None (Relation b))
    ∷ of_repair (message.Item None (Delete 16387 Full (cells 97 49)))
    ∷ of_repair (message.Commit 999 1000 (pos 7)) ∷ []

-- The repair comes in place of a keepalive between transactions that tells the point, or of the
-- first transaction at the point, and the session ends. All before it is passed on, but for a
-- keepalive that tells the point from within a transaction.
abbrev pub ForAKeepalive : Type 0
ForAKeepalive =
    repaired_on repairing_both 900
    (keepalive 904 ∷ (seen ++ keepalive 999 ∷ keepalive 1000 ∷ unseen))
    ≡ keepalive 904 ∷ (seen_with [] ++ keepalive 999 ∷ repair)

abbrev pub ForABegin : Type 0
ForABegin =
    repaired_on repairing_both 900 (keepalive 904 ∷ (seen ++ unseen))
    ≡ keepalive 904 ∷ (seen_with [] ++ repair)

-- a session that ends before has no repair, and one that starts at the point has none any more
abbrev pub NotRepairedYet : Type 0
NotRepairedYet = repaired_on repairing_both 900 seen ≡ seen_with []

abbrev pub IsRepaired : Type 0
IsRepaired = repaired_on repairing_both 1000 (seen ++ unseen) ≡ seen ++ unseen

-- what it is in the history
abbrev pub RepairsWork : Type 0
RepairsWork =
    mended_work repairing_both.tables
    ≡ Changed (Update 16386 None (cells 97 49)) (k ∷ [])
    (Changed (Insert 16386 (cells 99 50)) (k ∷ [])
    (Changed (Delete 16387 Full (cells 97 49)) (b ∷ []) Nothing))

-- ---- histories and a session of which the laws speak

-- the identity of the key with this digit
abbrev pub place_of : ℕ → List ℕ
place_of digit = 0 ∷ 1 ∷ 116 ∷ 0 ∷ 0 ∷ 0 ∷ 1 ∷ digit ∷ []

abbrev pub one_row : ℕ → ℕ → Row
one_row letter digit = record { cells = cells letter digit; copies = 1 }

-- The copy has another name under the key 1, and a row under the key 3.
abbrev pub our_rows : Rows
our_rows =
    finite.insert (finite.insert finite.empty (place_of 49) (one_row 98 49))
    (place_of 51) (one_row 99 51)

abbrev pub their_rows : Rows
their_rows = finite.insert finite.empty (place_of 49) (one_row 97 49)

abbrev pub tables_with : Rows → Tables
tables_with rows = finite.insert finite.empty 16386 (record { definition = k; rows = rows })

abbrev pub repairing_k : Repair
repairing_k = record {
  point = 1000;
  tables =
      record {
        definition = k;
        changes =
            Update 16386 None (cells 97 49)
            ∷ Delete 16386 Key (Null ∷ Text (51 ∷ []) ∷ []) ∷ [];
      }
      ∷ [];
  clock = pos 7;
}

-- they are as the laws ask
pub record IsExampleOfARepair : Type 0 where
  pub around :
      IsRepairAround repairing_k (giving (tables_with our_rows) ∷ [])
      (giving (tables_with their_rows) ∷ []) [] []
  pub session :
      IsWholeSession Two (giving (tables_with their_rows) ∷ []) 900
      (keepalive 904 ∷ keepalive 1000 ∷ [])
