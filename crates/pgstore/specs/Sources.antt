-- Where the rows of a store are.
use Rattle.std.specs.Prelude.{◌≡◌, false, true, [], IsTrue}
use Rattle.sqlite.specs.Store.{Ghosts}
use Rattle.sqlite.specs.Held as connection
use Rattle.pgtables.specs.Kept as connected
use Rattle.pgtables.specs.Kept.{IsKept}
use Rattle.pgrows.specs.Rows.{IfServing, IsNumbered, state}
use Rattle.pgencoded.specs.Acts.{IsBegun}
use Rattle.pgreshaping.specs.Known.{AreKnown}
use Rattle.pgstore.specs.declared.source.Source.{Source}
use Rattle.pgstore.specs.declared.source.Source.TheVariants.{Adopted, Trees}

-- the store of its trees
abbrev pub rows_in : {S : Type 0} → Source S → S
rows_in (Adopted conn) = conn.store
rows_in (Trees rows known is_settled) = rows

-- A connection that was adopted has the tables of a store, outside a transaction. Trees are
-- numbered as they are listed and have the definitions that are known, and where they are settled
-- nothing was changed since the last commit.
abbrev pub IsSource : {S : Type 0} → Ghosts S → Source S → Type 0
IsSource g (Adopted conn) =
    ((connection.state g conn).in_transaction ≡ false) × connected.IfServing g conn (IsKept (connection.state g conn).now)
IsSource g (Trees rows known is_settled) =
    IsNumbered g rows × AreKnown g known rows × (is_settled ≡ true → IfServing g rows (IsBegun g rows))

-- what is seen behind a call is what was committed before it, and there is no savepoint
abbrev pub Begins : {S : Type 0} → Ghosts S → S → S → Type 0
Begins g old new =
    IfServing g new (IsTrue (state g old).is_open × ((state g new).now ≡ (state g old).committed)
    × ((state g new).committed ≡ (state g old).committed) × ((state g new).marks ≡ []))
