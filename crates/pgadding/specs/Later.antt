-- Part of the statement.
-- The rows are read while the stream goes on: their transaction comes later, with what was done to
-- the table meanwhile. PostgreSQL documentation, Logical Decoding Concepts, Exported Snapshots.
use Rattle.std.specs.Prelude.{◌≡◌, ◌≢◌, ◌<◌, ◌≤◌, ℕ, List, [], ◌∷◌, ◌++◌, true, ◌==◌, nat_le, Ok}
use Rattle.std.specs.Prelude.{Option, Some, None, if◌then◌else◌, map}
use Rattle.std.specs.List.{AllByRecursion, filter, flat_map}
use Rattle.pglogical.specs.Named.{named}
use Rattle.pglogical.specs.declared.message.RelationDef.{RelationDef}
use Rattle.pglogical.specs.declared.message.Item.{Item}
use Rattle.pglogical.specs.declared.message.Item.TheVariants.{Relation, Insert, Update, Delete}
use Rattle.pglogical.specs.declared.message.Item.TheVariants.{Truncate}
use Rattle.pgorder.specs.declared.Version.{Version}
use Rattle.pgapply.specs.Value.{Tables}
use Rattle.pgapply.specs.Apply.{Change}
use Rattle.pgsub_core.specs.Server.Work.{surviving_changes, is_among}
use Rattle.pgsub_core.specs.Server.History.{Transaction, all_changes, tables_as_of}
use Rattle.pgsub_core.specs.Server.Described.{last_of, relations_after}
use Rattle.pgsub_core.specs.Server.Stream.{Sent}
use Rattle.pgadding.specs.Addition.{OwnChange, Inserted, Updated, Deleted, Emptied, Addition, owned}
use Rattle.pgadding.specs.Passing.{place_of, before_rows, behind_rows}
use Rattle.pgadding.specs.Around.{IsAround, IsWholeSession, items_in}
use Rattle.pgadding.specs.Rows.{AreRowsOf}

-- those of one table among these
abbrev pub own_changes : ℕ → List Change → List Change
own_changes oid changes = filter (λ (c : Change). c.definition.oid == oid) changes

-- The rows are those of a slot whose consistent point is `read`, and behind them come the table's
-- changes of `between`, the transactions from there to where the rows' own one stands. All of these
-- have the definition that came with the rows.
pub record GoesOn (a : Addition) (read : ℕ) (before below between above : List Transaction) : Type 0 where
  pub at_slot : IsAround read before below (between ++ above)
  pub at_place : IsAround a.point before (below ++ between) above
  pub kept :
      surviving_changes (owned a.definition a.later)
      ≡ own_changes a.definition.oid (all_changes between)

-- Where the rows are the server's at the slot's point, they are so with these changes at the later
-- one.
abbrev pub LaterRowsAreTheServers : Type 0
LaterRowsAreTheServers =
    (a : Addition) (read : ℕ) (before below between above : List Transaction)
    (at_read at_point : Tables)
    → GoesOn a read before below between above
    → tables_as_of (before ++ (below ++ (between ++ above))) read ≡ Ok at_read
    → tables_as_of (before ++ ((below ++ between) ++ above)) a.point ≡ Ok at_point
    → AreRowsOf (record a { later = [] }) at_read
    → AreRowsOf a at_point

-- ---- what is kept of a session

-- what an item does to the table, as often as it names it
abbrev pub owns_of : ℕ → Item → List OwnChange
owns_of oid (Relation def) = []
owns_of oid (Insert o row) = if o == oid then Inserted row ∷ [] else []
owns_of oid (Update o prior row) = if o == oid then Updated prior row ∷ [] else []
owns_of oid (Delete o kind row) = if o == oid then Deleted kind row ∷ [] else []
owns_of oid (Truncate options oids) = map (λ o. Emptied options) (filter (λ o. o == oid) oids)

-- of what comes at a place: the table's changes in a transaction that the slot doesn't see
abbrev pub kept_of : ℕ → ℕ → Option ℕ → Sent → List OwnChange
kept_of read oid None m = []
kept_of read oid (Some lsn) m = if nat_le read lsn then flat_map (owns_of oid) (items_in (m ∷ [])) else []

abbrev pub kept_in : ℕ → ℕ → Option ℕ → List Sent → List OwnChange
kept_in read oid place [] = []
kept_in read oid place (m ∷ sent) =
    kept_of read oid place m ++ kept_in read oid (place_of m place) sent

-- Where these items name the table, its last Relation message is this definition.
abbrev pub AreUnder : RelationDef → List RelationDef → List Item → Type 0
AreUnder def known [] = Unit {0}
AreUnder def known (i ∷ items) =
    (is_among (named i) def.oid ≡ true → last_of def.oid known ≡ Some def)
    × AreUnder def (relations_after known (i ∷ [])) items

-- So it is of what is kept.
abbrev pub KeptUnder : ℕ → RelationDef → Option ℕ → List RelationDef → List Sent → Type 0
KeptUnder read def place known [] = Unit {0}
KeptUnder read def None known (m ∷ sent) =
    KeptUnder read def (place_of m None) (relations_after known (items_in (m ∷ []))) sent
KeptUnder read def (Some lsn) known (m ∷ sent) =
    (read ≤ lsn → AreUnder def known (items_in (m ∷ [])))
    × KeptUnder read def (place_of m (Some lsn)) (relations_after known (items_in (m ∷ []))) sent

-- What is kept of a session, from its start to the rows' place, are the changes that come behind
-- them.
abbrev pub KeptIsLater : Type 0
KeptIsLater =
    (v : Version) (def : RelationDef) (read point : ℕ)
    (before below between above : List Transaction) (s : ℕ) (sent : List Sent)
    → read ≤ point
    → IsAround read before below (between ++ above)
    → IsAround point before (below ++ between) above
    → s < read
    → AllByRecursion (λ (t : Transaction). t.end ≤ s) before
    → IsWholeSession v (before ++ (below ++ (between ++ above))) s sent
    → KeptUnder read def None [] (before_rows point None sent)
    → behind_rows point None sent ≢ []
    → surviving_changes (owned def (kept_in read def.oid None (before_rows point None sent)))
    ≡ own_changes def.oid (all_changes between)
