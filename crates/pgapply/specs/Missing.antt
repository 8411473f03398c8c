-- Which changes find no row, and how they are counted.
-- PostgreSQL documentation, Logical Replication, Conflicts, update_missing and delete_missing.
use Rattle.std.specs.Prelude.{◌+◌, ◌-◌, ◌^◌, ◌++◌, min, ℕ, List, [], ◌∷◌, Bool, false, Option}
use Rattle.std.specs.Prelude.{Some, None, Result, Ok, Err, is_none, if◌then◌else◌}
use Rattle.std.specs.FinMap as map
use Rattle.pgtuple.specs.declared.cell.Cell.{Cell}
use Rattle.pglogical.specs.declared.message.RelationDef.{RelationDef}
use Rattle.pgrel.specs.declared.fault.RelFault.{RelFault}
use Rattle.pgrel.specs.Identity.{searched_identity}
use Rattle.pgapply.specs.declared.op.Op.{Op}
use Rattle.pgapply.specs.declared.op.Op.TheVariants.{Insert, Update, Delete, Truncate}
use Rattle.pgapply.specs.declared.misses.Miss.{Miss}
use Rattle.pgapply.specs.declared.misses.Misses.{Misses}
use Rattle.pgapply.specs.declared.fault.StoreFault.{StoreFault}
use Rattle.pgapply.specs.Value.{Rows, Tables}
use Rattle.pgapply.specs.Apply.{Change, found_rows, row_at, apply}

-- no row has the identity that is searched; a search that is refused finds nothing out
abbrev pub is_absent : Result (List Cell) RelFault → Rows → Bool
is_absent (Ok searched) rows = is_none (row_at searched rows)
is_absent (Err fault) rows = false

-- an Update or a Delete searches a row, an Insert and a Truncate don't
abbrev pub finds_none : RelationDef → Op → Rows → Bool
finds_none def (Insert row) rows = false
finds_none def (Update prior row) rows = is_absent (searched_identity def prior (Some row)) rows
finds_none def (Delete kind row) rows = is_absent (searched_identity def (Some (kind, row)) None) rows
finds_none def Truncate rows = false

abbrev pub missing_in : Result Rows StoreFault → RelationDef → Op → Option ℕ
missing_in (Ok rows) def op = if finds_none def op rows then Some def.oid else None
missing_in (Err fault) def op = None

-- the OID of the relation of which a change finds no row; rows of another shape are carried over
-- first
abbrev pub missing : Tables → Change → Option ℕ
missing tables change = missing_in (found_rows (map.get tables change.definition.oid) change.definition change.op) change.definition
    change.op

abbrev pub oids_of : Option ℕ → List ℕ
oids_of None = []
oids_of (Some oid) = oid ∷ []

-- of the changes behind one that is made
abbrev pub behind : Result Tables StoreFault → (Tables → List ℕ) → List ℕ
behind (Ok next) more = more next
behind (Err fault) more = []

-- those of changes in order, each over what the ones before it leave
unfoldable pub all_missing : Tables → List Change → List ℕ
all_missing tables [] = []
all_missing tables (change ∷ changes) = oids_of (missing tables change) ++ behind (apply tables change) (λ next. all_missing next changes)

-- ---- the count

abbrev pub nothing_missed : Misses
nothing_missed = record { count = 0; first = None }

abbrev pub first_miss : Option Miss → ℕ → ℕ → Option Miss
first_miss None end oid = Some (record { end = end; oid = oid })
first_miss (Some first) end oid = Some first

-- one more, in the commit that ends here
abbrev pub with_miss : Misses → ℕ → ℕ → Misses
with_miss m end oid = record { count = min (m.count + 1) (2 ^ 64 - 1); first = first_miss m.first end oid }

abbrev pub with_misses : Misses → ℕ → List ℕ → Misses
with_misses m end [] = m
with_misses m end (oid ∷ oids) = with_misses (with_miss m end oid) end oids
